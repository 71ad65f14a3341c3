-- What the loop of `east_rows::east_row` keeps.
use Prim.Native.Nat.{ℕ}
use lib.IntN.{pos}
use Rattle.toolkit.specs.Entries.{Entries}
use Rattle.east_rows.specs.RowSums.{east_at}
use Rattle.east_rows.proofs.east_row.Given as goal

abbrev pub invariant-loop-k : goal.invariant-loop-k
invariant-loop-k l = Entries (pos 0) 4112 6 l.k (λ (x : ℕ). pos (east_at l.samples l.alongs l.up l.here l.down x)) l.gradients
