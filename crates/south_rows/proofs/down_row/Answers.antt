-- `south_rows::down_row` meets its contract. Assumes nothing.
use Rattle.std.proofs.Common.{arith}
use Rattle.south_rows.specs.SevenRowLaws.{small_less}
use Rattle.south_rows.proofs.down_row.Goals as goal

pub down-requires : goal.down-requires
down-requires c = small_less c.requires.small_rows (omega arith)
