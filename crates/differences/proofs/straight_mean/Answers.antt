-- `differences::straight_mean` meets its contract. Assumes nothing.
use mathlib.Core.Path.{◌≡◌, ◌∙◌}
use lib.Dec.{lit≤}
use Rattle.std.proofs.Common.{rules}
use Rattle.toolkit.specs.Bounds.{val}
use Rattle.toolkit.specs.BoundRules.{vals}
use Rattle.method.specs.Four.{same_four}
use Rattle.method.specs.Planes.{mean_under}
use Rattle.method.proofs.Sizes.{weaker}
use Rattle.half_rows.specs.Reading.{as_read}
use Rattle.half_rows.specs.SiteGradients.{weighed_naturals}
use Rattle.means.specs.Lifts.{lifted_mean_fits}
use Rattle.differences.specs.Rows.{straight_read}
use Rattle.differences.proofs.straight_mean.Goals as goal
use Rattle.differences.proofs.straight_mean.Goals.{After-values-v}

values_are : (c : After-values-v) →
    let a = c.args in
    c.values-v.result ≡ straight_read a.l.now a.green.now a.below a.above a.k
values_are c =
    c.values-v.ensures
    ∙ same_four (as_read (search rules)) (as_read (search rules)) (as_read (search rules)) (as_read (search rules))

pub lifted_mean-requires : goal.lifted_mean-requires
lifted_mean-requires c =
    lifted_mean_fits 8192 40920 (rw (values_are (goal.at.lifted_mean-requires c).After-values-v) (weaker (lit≤ tt) (c.requires.values_fit.each _ c.requires.k_lt_count.0)))
    (rw c.weights.ensures (weighed_naturals c.args.gradients.fit _ c.requires.k_lt_count.0)) tt

pub returns : goal.returns
unfolding mean_under
returns c =
    let h = c.lifted_mean.ensures.1 in
    val (search vals depth 10) tt ∙ (rw (values_are (goal.at.returns c).After-values-v, c.weights.ensures) at c.lifted_mean.ensures.0)
