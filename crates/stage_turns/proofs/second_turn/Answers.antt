-- `stage_turns::second_turn` meets its contract: the row that is due. Assumes nothing.
use Rattle.std.proofs.Common.{arith, ◌≡◌, ◌-◌}
use Rattle.stage_turns.specs.Turned.{second_turned}
use Rattle.stage_turns.proofs.second_turn.Goals as goal

pub returns-in-Some : goal.returns-in-Some
returns-in-Some c =
    let due = c.in-Some.ensures in
    let here : c.in-Some.i ≡ c.args.turn.t - 12 = due.1 in
    record { second_turned = second_turned due.0 (omega (arith, due)) (rw here at c.second_line.ensures.second_stores) }
