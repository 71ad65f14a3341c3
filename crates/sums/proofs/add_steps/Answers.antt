-- `sums::add_steps` meets its contract. The loop has made the steps below t (`widens_then`). Assumes nothing.
use Rattle.sums.specs.Room.{room_as}
use Rattle.sums.specs.Widening.{widens_then, widens_to}
use native.Mathlib.Omega.{arith}
use Rattle.sums.proofs.add_steps.Goals as goal

pub loop-t-preserved : goal.loop-t-preserved
loop-t-preserved c =
    let inv = c.loop-t.invariant in
    let e = c.add_step.ensures in
    (room_as e.sums_room_2 (omega arith), widens_to (widens_then inv.1 e.widens) (omega arith))
