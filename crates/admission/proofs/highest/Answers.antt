-- `admission::highest` meets its contract. Assumes nothing.
use Rattle.std.proofs.Common.{rules}
use Rattle.admission.specs.Extremes.{highest_found}
use Rattle.admission.proofs.highest.Goals as goal

pub returns : goal.returns
returns c = highest_found c.args.samples.now _ (search rules)
