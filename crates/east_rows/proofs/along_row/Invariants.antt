-- What the loop of `east_rows::along_row` keeps.
use Prim.Native.Nat.{ℕ, ◌+◌}
use Rattle.toolkit.specs.Writes.{Wrote}
use Rattle.east_rows.specs.RowSums.{along_at}
use Rattle.east_rows.proofs.along_row.Given as goal

abbrev pub invariant-loop-k : goal.invariant-loop-k
invariant-loop-k l = Wrote 0 (l.at + 6) l.k (λ (x : ℕ). along_at l.rows (l.at + 6 + x)) l.initial.alongs l.alongs
