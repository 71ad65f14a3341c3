-- `east_rows::gradient` meets its contract. Assumes nothing.
use Rattle.std.proofs.Common.{arith}
use Rattle.std.proofs.lemmas.Int.{ints}
use Rattle.east_rows.specs.SumLaws.{apart_naturals}
use Rattle.east_rows.proofs.gradient.Goals as goal

pub returns : goal.returns
returns c = omega (arith, ints, apart_naturals c.args.x c.args.y)
