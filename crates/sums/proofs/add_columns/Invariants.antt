-- What the loop of `sums::add_columns` keeps.
use Prim.Native.Nat.{◌+◌}
use lib.IntN.{pos}
use Rattle.toolkit.specs.Entries.{Entries}
use Rattle.sums.specs.Sums.{entries_of, with_columns}
use Rattle.sums.proofs.add_columns.Given as goal

abbrev pub invariant-loop-k : goal.invariant-loop-k
invariant-loop-k l =
    Entries (pos 0) 2064 4 (l.k + 4) (with_columns l.row l.t (entries_of l.initial.sums)) l.sums
    × Entries (pos 0) 2064 (l.k + 4) (l.count + 4) (entries_of l.initial.sums) l.sums
