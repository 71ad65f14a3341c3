-- `sweep::steps` meets its contract: the invariant is that every stage has made t turns. Assumes nothing.
use Rattle.std.proofs.Common.{arith}
use Rattle.positions.specs.RingLaws.{first_round}
use Rattle.sweep.specs.End.{sweep_all}
use Rattle.sweep.proofs.steps.Goals as goal

pub loop-t-init : goal.loop-t-init
loop-t-init c = (c.requires.sweep, c.requires.mosaic_kept, first_round)

pub next_base-base-requires : goal.next_base-base-requires
next_base-base-requires c = (omega (arith, c.requires.sweep.buffers.taken.low), c.loop-t.invariant.2)

pub returns : goal.returns
returns c = sweep_all _ _ c.loop-t.t _ _ _ _ _ _ (omega (arith, c.loop-t-test.false)) c.loop-t.invariant.0
