-- What the loop of `sums::add_rows` keeps.
use Prim.Native.Nat.{◌+◌}
use lib.IntN.{pos}
use Rattle.toolkit.specs.Entries.{Entries}
use Rattle.sums.specs.Sums.{entries_of, with_rows}
use Rattle.sums.proofs.add_rows.Given as goal

abbrev pub invariant-loop-k : goal.invariant-loop-k
invariant-loop-k l =
    Entries (pos 0) 2064 4 (l.k + 4) (with_rows l.row l.plane l.up l.down (entries_of l.initial.sums)) l.sums
    × Entries (pos 0) 2064 (l.k + 4) (l.count + 4) (entries_of l.initial.sums) l.sums
