-- What the loop of `curve::curve_all` keeps: the entries before k went through the curve, the others stand as before.
use Rattle.toolkit.specs.Filling.{Filled}
use Rattle.tone_curve.specs.ToneCurve.{curved_number}
use Rattle.curve.proofs.curve_all.Given as goal

abbrev pub invariant-loop-k : goal.invariant-loop-k
invariant-loop-k l = Filled curved_number l.plane l.initial.curved l.curved l.k
