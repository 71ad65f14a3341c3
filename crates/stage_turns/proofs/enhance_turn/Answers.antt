-- `stage_turns::enhance_turn` meets its contract: the row that is due. Assumes nothing.
use Rattle.std.proofs.Common.{arith}
use Rattle.stage_turns.specs.Turned.{enhance_turned}
use Rattle.stage_turns.proofs.enhance_turn.Goals as goal

pub returns-in-Some : goal.returns-in-Some
returns-in-Some c =
    let due = c.in-Some.ensures in
    record { enhance_turned = enhance_turned due.0 (omega (arith, due)) (rw (due.1, due.3, due.4) at c.enhance_line.ensures.enhance_stores) }
