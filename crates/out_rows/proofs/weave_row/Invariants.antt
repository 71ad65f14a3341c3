-- What the loop of `out_rows::weave_row` keeps.
use Prim.Native.Nat.{◌*◌}
use lib.IntN.{pos}
use Rattle.toolkit.specs.Writes.{Wrote}
use Rattle.out_rows.specs.Woven.{woven}
use Rattle.out_rows.proofs.weave_row.Given as goal

abbrev pub invariant-loop-k : goal.invariant-loop-k
invariant-loop-k l = Wrote (pos 0) l.at (2 * l.k) (woven 0 l.even l.odd) l.initial.out l.out
