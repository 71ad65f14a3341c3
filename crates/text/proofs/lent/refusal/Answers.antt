-- `text::lent::refusal` meets its contract. Assumes nothing.
use Rattle.std.proofs.Common.{arith}
use Rattle.text.specs.Lines.{digits_64}
use Rattle.text.specs.Pieces.{length_ended, refusal_put}
use Rattle.text.proofs.lent.refusal.Goals as goal

pub number_then-after_number-requires : goal.number_then-after_number-requires
number_then-after_number-requires c =
    omega (
      arith,
      c.requires,
      c.bytes-after_word.ensures.behind,
      c.bytes-after_word.auto.text,
      digits_64 c.number_of.result (omega arith),
    )

pub number_then-requires : goal.number_then-requires
number_then-requires c =
    omega (
      arith,
      c.requires,
      c.bytes-after_word.ensures.behind,
      c.bytes-after_word.auto.text,
      c.number_then-after_number.ensures.behind,
      c.number_then-after_number.auto.text,
      length_ended c.number_of.result 32,
      digits_64 c.number_of.result (omega arith),
      digits_64 c.place_of.result (omega arith),
    )

pub returns : goal.returns
returns c =
    refusal_put c.args.why c.number_of.result c.place_of.result c.number_of.ensures c.place_of.ensures
    (omega (arith, c.requires, digits_64 c.number_of.result (omega arith))) c.bytes-after_word.ensures
    c.number_then-after_number.ensures c.number_then.ensures
