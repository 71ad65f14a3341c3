-- `means::natural_mean` meets its contract. Assumes nothing.
use native.Mathlib.Omega.{arith}
use Rattle.means.specs.Naturals.{numbers}
use Rattle.means.specs.Products.{quotient_below, products_mean}
use Rattle.means.proofs.natural_mean.Goals as goal

pub paired-d-requires : goal.paired-d-requires
paired-d-requires c = omega (arith, quotient_below c.args.v c.args.g c.requires)

pub returns : goal.returns
returns c = cc (products_mean (numbers c.args.v) (numbers c.args.g) (omega arith))
