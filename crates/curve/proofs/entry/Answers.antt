-- `curve::entry` meets its contract. Assumes nothing.
use Rattle.curve.proofs.EveryEntry.{entry_is}
use Rattle.curve.proofs.entry.Goals as goal

pub returns : goal.returns
returns c = entry_is c.args.v c.requires
