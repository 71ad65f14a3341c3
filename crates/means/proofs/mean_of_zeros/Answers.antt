-- `means::mean_of_zeros` meets its contract. Assumes nothing.
use Rattle.method.specs.Planes.{count_zeros}
use Rattle.means.specs.Naturals.{numbers}
use Rattle.means.specs.Zeros.{zeros_mean}
use Rattle.means.proofs.mean_of_zeros.Goals as goal

pub returns : goal.returns
unfolding count_zeros
returns c = cc (zeros_mean (numbers c.args.v) (numbers c.args.g) c.requires.some_zero)
