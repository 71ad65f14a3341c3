-- `sums::clear` meets its contract. Assumes nothing.
use Rattle.std.proofs.Common.{arith}
use Rattle.std.proofs.lemmas.Grind.{common_steps}
use Rattle.sums.proofs.clear.Goals as goal

pub returns : goal.returns
returns c = record { size = grind (arith, common_steps); at = λ x l h. grind (arith, common_steps) }
