-- `clamp::hold_all` meets its contract. Assumes nothing.
use Rattle.std.proofs.Common.{pos, arith, rules}
use Rattle.toolkit.specs.Filling.{filled_next}
use Rattle.frame.specs.Sites.{highest_sample}
use Rattle.answers.specs.Calls.{held}
use Rattle.clamp.proofs.hold_all.Goals as goal

pub loop-k-preserved : goal.loop-k-preserved
loop-k-preserved c =
    filled_next (held highest_sample) (pos 0) (pos 0) c.args.plane.now c.args.clamped.now _ _ _ (omega arith) c.requires c.loop-k.invariant (search rules)
