-- What the loop of `second_pass::map_row` keeps.
use Prim.Native.Nat.{◌*◌}
use Rattle.toolkit.specs.Writes.{Wrote}
use Rattle.second_pass.specs.Picked.{map_entry}
use Rattle.second_pass.proofs.map_row.Given as goal

abbrev pub invariant-loop-k : goal.invariant-loop-k
invariant-loop-k l = Wrote 0 l.at (2 * l.k) (map_entry l.c l.codes) l.initial.map l.map
