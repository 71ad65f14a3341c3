-- `payload::unpack_payload` meets its contract. Assumes nothing.
use mathlib.Core.Path.{◌≡◌, ◌∙◌, ap}
use Prim.Native.Nat.{◌/◌, ◌%◌}
use lib.ListN.{length, take}
use Rattle.payload.proofs.Groups.{rest_stored}
use native.Mathlib.Omega.{arith}
use Rattle.payload.proofs.unpack_payload.Goals as goal

pub returns-then-rest-gt0 : goal.returns-then-rest-gt0
returns-then-rest-gt0 c =
    let rest = length c.loop-g.samples % 4 in
    let all : c.loop-g.g ≡ length c.args.samples.now / 4 = omega arith in
    rest_stored _ _ _ (omega arith) (rw all at c.loop-g.invariant) _ rest _ _ (omega arith) (omega arith) (omega arith)
    (c.copy_from_slice-then-rest-gt0.ensures.after ∙ ap (take rest) c.unpack_group-then-rest-gt0.ensures)
