-- `site_values::output` meets its contract. Assumes nothing.
use mathlib.Core.Path.{◌∙◌, ap}
use lib.IntN.{ℤ, pos, ◌-ℤ◌}
use Rattle.toolkit.specs.Bounds.{val}
use Rattle.toolkit.specs.BoundRules.{vals}
use Rattle.toolkit.specs.Shifts.{b_shift}
use Rattle.method.specs.Planes.{final_round}
use Rattle.site_values.specs.Roundings.{quarter}
use Rattle.site_values.proofs.output.Goals as goal

pub returns : goal.returns
unfolding final_round
returns c = val (search (b_shift, vals) depth 30) tt ∙ ap (λ (r : ℤ). r -ℤ pos c.args.black.level) (quarter c.args.q)
