-- `south_rows::down` meets its contract. The closure reads an entry inside, and gives a small one (`entry_inside`, `entry_small`). Assumes nothing.
use Rattle.std.proofs.Common.{rules}
use Rattle.std.proofs.iter.Serving.{serving}
use Rattle.south_rows.specs.SevenRowLaws.{entry_inside, entry_small}
use Rattle.south_rows.proofs.down.Goals as goal

pub from_fn-requires : goal.from_fn-requires
from_fn-requires c =
    let inside = entry_inside c.args.rows.samples.now c.args.rows.at c.args.k c.requires in
    grind (serving, inside)

pub pair-requires : goal.pair-requires
pair-requires c =
    let small = entry_small c.args.rows.samples.now c.args.rows.at c.args.k c.requires in
    record { each = λ x l h. search (rules, small) }
