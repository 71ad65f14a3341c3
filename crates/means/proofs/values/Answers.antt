-- `means::values` meets its contract. Assumes nothing.
use Rattle.std.proofs.Common.{rules}
use Rattle.means.specs.Listed.{four_listed}
use Rattle.means.proofs.values.Goals as goal

pub returns : goal.returns
returns c = four_listed c.map.ensures.items.long (search rules) (search rules) (search rules) (search rules)
