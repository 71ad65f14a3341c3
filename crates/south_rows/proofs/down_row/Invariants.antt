-- What the loop of `south_rows::down_row` keeps.
use Rattle.toolkit.specs.Entries.{Entries}
use Rattle.south_rows.specs.SevenRows.{down_pair}
use Rattle.south_rows.proofs.down_row.Given as goal

abbrev pub invariant-loop-k : goal.invariant-loop-k
invariant-loop-k l = Entries 0 4112 7 l.k (down_pair l.rows.samples.now l.rows.at) l.pairs
