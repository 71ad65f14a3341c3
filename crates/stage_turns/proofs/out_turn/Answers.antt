-- `stage_turns::out_turn` meets its contract: the row that is due. Assumes nothing.
use Rattle.std.proofs.Common.{arith}
use Rattle.stage_turns.specs.Turned.{out_turned}
use Rattle.stage_turns.proofs.out_turn.Goals as goal

pub returns-in-Some-clause-out_turned : goal.returns-in-Some-clause-out_turned
returns-in-Some-clause-out_turned c =
    let due = c.in-Some.ensures in
    out_turned due.0 (omega (arith, due)) (rw (due.1, due.3, due.4) at c.out_line.ensures.out_stores)

pub returns-in-Some-clause-out_turned_2 : goal.returns-in-Some-clause-out_turned_2
returns-in-Some-clause-out_turned_2 c =
    let due = c.in-Some.ensures in
    out_turned due.0 (omega (arith, due)) (rw (due.1, due.3, due.4) at c.out_line.ensures.out_stores_2)

pub returns-in-Some-clause-out_turned_3 : goal.returns-in-Some-clause-out_turned_3
returns-in-Some-clause-out_turned_3 c =
    let due = c.in-Some.ensures in
    out_turned due.0 (omega (arith, due)) (rw (due.1, due.3, due.4) at c.out_line.ensures.out_stores_3)
