-- What the loop of `south_rows::north_row` keeps.
use Prim.Native.Nat.{ℕ}
use lib.IntN.{pos}
use Rattle.toolkit.specs.Entries.{Entries}
use Rattle.south_rows.specs.SevenRows.{north_sum}
use Rattle.south_rows.proofs.north_row.Given as goal

abbrev pub invariant-loop-k : goal.invariant-loop-k
invariant-loop-k l = Entries (pos 0) 4112 8 l.k (λ (x : ℕ). pos (north_sum l.samples l.pairs l.here l.there x)) l.gradients
