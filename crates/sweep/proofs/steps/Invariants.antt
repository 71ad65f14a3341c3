-- What the loop of `sweep::steps` keeps: every stage has made t turns. Assumes nothing.
use Rattle.std.proofs.Common.{◌-◌}
use Rattle.frame.specs.Sites.{frame}
use Rattle.positions.specs.Rings.{Round}
use Rattle.sweep.specs.Invariant.{Sweep}
use Rattle.sweep.specs.Loads.{MosaicKept}
use Rattle.sweep.proofs.steps.Given as goal

abbrev pub invariant-loop-t : goal.invariant-loop-t
invariant-loop-t l =
    Sweep (frame l.first.shape l.mosaic) l.first.black.level l.t l.t l.t l.t l.t l.tops l.work l.red l.green l.blue l.map
    × MosaicKept (frame l.first.shape l.mosaic) l.t l.loaded.samples l.loaded.alongs × Round l.base (l.t - 24) l.t
