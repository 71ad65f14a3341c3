-- What the loop of `second_pass::second_row` keeps.
use Prim.Native.Nat.{ℕ, ◌+◌}
use lib.IntN.{pos}
use Rattle.toolkit.specs.Entries.{Entries}
use Rattle.toolkit.specs.Writes.{Wrote}
use Rattle.second_pass.specs.Picked.{picked_entry, code_entry}
use Rattle.second_pass.proofs.second_row.Given as goal

abbrev pub invariant-loop-k : goal.invariant-loop-k
invariant-loop-k l =
    Wrote (pos 0) l.at l.k (λ (x : ℕ). picked_entry l.trials.across l.trials.vertical l.trials.diagonal l.sums.across l.sums.vertical l.sums.diagonal (x + 4)) l.initial.out l.out
    × Entries 0 2048 0 l.k (code_entry l.sums.across l.sums.vertical l.sums.diagonal l.at l.map) l.codes
