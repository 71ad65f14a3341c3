-- What the loop of `first_pass::line_row` keeps.
use Prim.Native.Nat.{ℕ, ◌+◌, ◌*◌, ◌-◌}
use lib.IntN.{pos}
use Rattle.toolkit.specs.Entries.{Entries}
use Rattle.first_pass.specs.Lines.{across_difference, down_difference}
use Rattle.first_pass.proofs.line_row.Given as goal

abbrev pub invariant-loop-k : goal.invariant-loop-k
invariant-loop-k l =
    Entries (pos 0) 2064 4 (l.k + 4) (λ (x : ℕ). across_difference l.fn.rows.at l.samples (l.halves.start + 2 * (x - 4) + 8)) l.a
    × Entries (pos 0) 2064 4 (l.k + 4) (λ (x : ℕ). down_difference l.fn.rows.at l.samples (l.halves.start + 2 * (x - 4) + 8)) l.b
