-- What the loop of `second_pass::across_row` keeps.
use Prim.Native.Nat.{◌+◌}
use lib.IntN.{pos}
use Rattle.toolkit.specs.Entries.{Entries}
use Rattle.second_pass.specs.Picked.{across_entry}
use Rattle.second_pass.proofs.across_row.Given as goal

abbrev pub invariant-loop-k : goal.invariant-loop-k
invariant-loop-k l = Entries (pos 0) 2064 4 (l.k + 4) (across_entry l.rd l.rv) l.rh
