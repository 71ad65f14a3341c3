-- `differences::corner_mean` meets its contract. Assumes nothing.
use mathlib.Core.Path.{◌≡◌, ◌∙◌}
use lib.Dec.{lit≤}
use Rattle.std.proofs.Common.{rules}
use Rattle.toolkit.specs.Bounds.{val}
use Rattle.toolkit.specs.BoundRules.{vals}
use Rattle.method.specs.Four.{same_four}
use Rattle.method.specs.Planes.{mean_under}
use Rattle.method.proofs.Sizes.{weaker, naturals_as, listed_naturals, corner_gradients_size}
use Rattle.half_rows.specs.Reading.{as_read}
use Rattle.half_rows.specs.SiteGradients.{weighed_naturals}
use Rattle.means.specs.Lifts.{lifted_mean_fits}
use Rattle.differences.specs.Rows.{corners_read}
use Rattle.differences.proofs.corner_mean.Goals as goal
use Rattle.differences.proofs.corner_mean.Goals.{After-values-v}

values_are : (c : After-values-v) → let a = c.args in c.values-v.result ≡ corners_read a.up.now a.down.now a.c a.k
values_are c =
    c.values-v.ensures
    ∙ same_four (as_read (search rules)) (as_read (search rules)) (as_read (search rules)) (as_read (search rules))

pub diagonal-g-requires : goal.diagonal-g-requires
diagonal-g-requires c = rw c.weights.ensures (naturals_as (lit≤ tt) (weighed_naturals c.args.gradients.fit _ c.requires.k_lt_count.0))

pub lifted_mean-requires : goal.lifted_mean-requires
lifted_mean-requires c =
    let g = weighed_naturals c.args.gradients.fit _ c.requires.k_lt_count.0 in
    lifted_mean_fits 4096 81840 (rw (values_are (goal.at.lifted_mean-requires c).After-values-v) (weaker (lit≤ tt) (c.requires.values_fit.each _ c.requires.k_lt_count.0)))
    (listed_naturals _ c.diagonal-g.ensures (rw c.weights.ensures (corner_gradients_size 40920 _ g.most))) tt

pub returns : goal.returns
unfolding mean_under
returns c =
    let h = c.lifted_mean.ensures.1 in
    val (search vals depth 10) tt
    ∙ (rw (values_are (goal.at.returns c).After-values-v, c.diagonal-g.ensures, c.weights.ensures) at c.lifted_mean.ensures.0)
