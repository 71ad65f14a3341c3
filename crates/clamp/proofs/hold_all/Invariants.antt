-- What the loop of `clamp::hold_all` keeps: the entries before k are held numbers, the others stand as before.
use Rattle.toolkit.specs.Filling.{Filled}
use Rattle.frame.specs.Sites.{highest_sample}
use Rattle.answers.specs.Calls.{held}
use Rattle.clamp.proofs.hold_all.Given as goal

abbrev pub invariant-loop-k : goal.invariant-loop-k
invariant-loop-k l = Filled (held highest_sample) l.plane l.initial.clamped l.clamped l.k
