-- `first_pass::line` meets its contract. Each sum is bounded by the samples. Assumes nothing.
use Rattle.std.proofs.Common.{arith}
use Rattle.std.proofs.lemmas.Int.{ints}
use Rattle.toolkit.specs.Bounds.{fits}
use Rattle.toolkit.specs.BoundRules.{vals}
use Rattle.frame.specs.Sites.{highest_sample}
use Rattle.method.specs.Green.{line_estimate, less_eight}
use Rattle.first_pass.specs.Lines.{line_difference}
use Rattle.first_pass.proofs.line.Goals as goal

pub overflow_sub-result-2 : goal.overflow_sub-result-2
unfolding highest_sample
overflow_sub-result-2 c =
    let h = c.requires in
    rw (c.from.ensures, c.from-2.ensures, c.from-3.ensures, c.from-4.ensures, c.from-5.ensures) (fits (search vals depth 30) tt)

pub returns : goal.returns
unfolding line_difference less_eight line_estimate
returns c = let h = c.requires in omega (arith, ints)
