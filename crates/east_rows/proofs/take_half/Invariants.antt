-- What the loop of `east_rows::take_half` keeps.
use Prim.Native.Nat.{ℕ, ◌+◌, ◌*◌}
use lib.IntN.{pos}
use lib.ListN.{get_or}
use Rattle.toolkit.specs.Writes.{Wrote}
use Rattle.east_rows.proofs.take_half.Given as goal

abbrev pub invariant-loop-k : goal.invariant-loop-k
invariant-loop-k l = Wrote (pos 0) l.at l.k (λ (n : ℕ). get_or l.row (l.x + 2 * n) (pos 0)) l.initial.out l.out
