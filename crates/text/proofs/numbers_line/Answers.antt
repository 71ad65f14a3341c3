use Rattle.std.proofs.Common.{◌∙◌, ap, arith, length, length-append}
use Rattle.printing.specs.Printing.{numbers_line}
use Rattle.text.specs.Lines.{at_first, behind_space, room_for_byte, at_end, room_for_number, behind_number, BeforeNumber}
use Rattle.text.proofs.numbers_line.Goals as goal
use Rattle.text.proofs.numbers_line.Goals.{then-k-gt0, else-k-gt0}

pub push_str-requires : goal.push_str-requires
push_str-requires g c =
    let room = room_for_byte c.loop-k.invariant c.if-k-gt0.true c.loop-k-test.true in
    let all = length-append c.args.text.now.bytes (numbers_line c.args.numbers.now) in
    (omega arith, omega (arith, room, all, c.requires))

pub number-requires : goal.number-requires
number-requires g c =
    let b : BeforeNumber _ _ c.if-k-gt0.text.bytes c.loop-k.k = elim c.if-k-gt0.branch [
      | then-k-gt0 w ↦ behind_space c.loop-k.invariant w.if-k-gt0.true c.loop-k-test.true (rw w.text-is w.push_str.ensures.bytes)
      | else-k-gt0 w ↦ at_first c.loop-k.invariant (omega arith) c.loop-k-test.true (rw w.text-is)
    ] in
    omega (arith, room_for_number b, length-append c.args.text.now.bytes (numbers_line c.args.numbers.now), c.requires)

pub loop-k-preserved : goal.loop-k-preserved
loop-k-preserved g c =
    let b : BeforeNumber _ _ c.if-k-gt0.text.bytes c.loop-k.k = elim c.if-k-gt0.branch [
      | then-k-gt0 w ↦ behind_space c.loop-k.invariant w.if-k-gt0.true c.loop-k-test.true (rw w.text-is w.push_str.ensures.bytes)
      | else-k-gt0 w ↦ at_first c.loop-k.invariant (omega arith) c.loop-k-test.true (rw w.text-is)
    ] in
    behind_number b c.number.ensures

pub push_str-requires-2 : goal.push_str-requires-2
push_str-requires-2 g c =
    let e = at_end c.loop-k.invariant (omega arith) in
    (omega arith, omega (arith, simp length-append at (ap length e), c.requires))

pub returns : goal.returns
returns g c = c.push_str-2.ensures.bytes ∙ at_end c.loop-k.invariant (omega arith)
