-- `means::lifted` meets its contract. Assumes nothing.
use Rattle.toolkit.specs.Bounds.{val}
use Rattle.toolkit.specs.BoundRules.{vals}
use Rattle.method.specs.Four.{same_four}
use Rattle.means.proofs.lifted.Goals as goal

pub returns : goal.returns
returns c =
    let k = c.requires.reach_most in
    let v0 = c.requires.values.east_most in
    let v1 = c.requires.values.west_most in
    let v2 = c.requires.values.south_most in
    let v3 = c.requires.values.north_most in
    same_four (val (search vals depth 30) tt) (val (search vals depth 30) tt) (val (search vals depth 30) tt) (val (search vals depth 30) tt)
