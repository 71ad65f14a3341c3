-- `site_values::fuse` meets its contract. Assumes nothing.
use mathlib.Core.Path.{◌≡◌, ◌∙◌}
use lib.IntN.{pos, ◌+ℤ◌, ◌*ℤ◌}
use mir.Facts.{to_z-of_z}
use Rattle.toolkit.specs.Bounds.{val}
use Rattle.toolkit.specs.BoundRules.{vals}
use Rattle.site_values.specs.Roundings.{fused_is, quotient_most}
use Rattle.site_values.proofs.fuse.Goals as goal

pub returns : goal.returns
returns c =
    let h = quotient_most c.shares.result c.shares.ensures.1 in
    val (search vals depth 10) tt ∙ fused_is c.args.d c.args.m _ shares_is
  where
    shares_is : pos c.shares.result ≡ pos 33 *ℤ c.args.d +ℤ pos 67 *ℤ c.args.m +ℤ pos 3276800
    shares_is = rw (to_z-of_z c.ranges.d, to_z-of_z c.ranges.m) at c.shares.ensures.0
