-- `block::check_of` meets its contract. Assumes nothing.
use mathlib.Core.Path.{◌≡◌}
use Prim.Native.Nat.{ℕ, ◌<◌}
use lib.ListN.{length-take, get_or}
use native.Mathlib.Omega.{arith}
use Rattle.block.proofs.Laws.{front_byte, summed_next, summed_all}
use Rattle.block.proofs.check_of.Goals as goal

pub loop-k-preserved : goal.loop-k-preserved
loop-k-preserved c =
    let inside = c.loop-k-test.true in
    let byte : c.from.result ≡ get_or c.args.block.now c.loop-k.k 0 = rw front_byte at c.from.ensures in
    let small : c.from.result < 256 = omega (arith, c.type_inv.block c.loop-k.k) in
    summed_next _ _ _ _ c.loop-k.invariant (omega (arith, length-take {A = ℕ})) byte small

pub returns : goal.returns
returns c = summed_all _ _ _ (omega (arith, length-take {A = ℕ})) c.loop-k.invariant
