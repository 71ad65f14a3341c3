-- `site_values::diagonal` meets its contract. Assumes nothing.
use mathlib.Core.Path.{◌∙◌}
use lib.ListN.{get_or}
use lib.IntN.{pos}
use Rattle.toolkit.specs.Bounds.{val}
use Rattle.toolkit.specs.BoundRules.{vals}
use Rattle.toolkit.specs.Naturals.{natural_sum}
use Rattle.method.specs.Planes.{corner_gradients}
use Rattle.method.specs.Four.{same_four}
use Rattle.site_values.proofs.diagonal.Goals as goal

pub returns : goal.returns
unfolding corner_gradients
returns c =
    let g = c.args.g in
    let n = c.requires in
    let h0 = n.most.east_most in
    let h1 = n.most.west_most in
    let h2 = n.most.south_most in
    let h3 = n.most.north_most in
    same_four (val (search vals depth 30) tt ∙ natural_sum (get_or g 3 (pos 0)) (get_or g 0 (pos 0)) n.north_from n.east_from)
    (val (search vals depth 30) tt ∙ natural_sum (get_or g 3 (pos 0)) (get_or g 1 (pos 0)) n.north_from n.west_from)
    (val (search vals depth 30) tt ∙ natural_sum (get_or g 2 (pos 0)) (get_or g 0 (pos 0)) n.south_from n.east_from)
    (val (search vals depth 30) tt ∙ natural_sum (get_or g 2 (pos 0)) (get_or g 1 (pos 0)) n.south_from n.west_from)
