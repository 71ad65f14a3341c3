-- `text::lent::site_line` meets its contract. Assumes nothing.
use Rattle.std.proofs.Common.{arith}
use Rattle.text.specs.Pieces.{length_ended, length_five, five_put}
use Rattle.text.proofs.lent.site_line.Goals as goal

pub number_then-after_row-requires : goal.number_then-after_row-requires
number_then-after_row-requires c =
    omega (
      arith,
      c.requires,
      length_five c.args.row c.args.column c.args.red c.args.green c.args.blue,
    )

pub number_then-after_column-requires : goal.number_then-after_column-requires
number_then-after_column-requires c =
    omega (
      arith,
      c.requires,
      length_five c.args.row c.args.column c.args.red c.args.green c.args.blue,
      c.number_then-after_row.ensures.behind,
      c.number_then-after_row.auto.text,
      length_ended c.args.row 32,
    )

pub number_then-after_red-requires : goal.number_then-after_red-requires
number_then-after_red-requires c =
    omega (
      arith,
      c.requires,
      length_five c.args.row c.args.column c.args.red c.args.green c.args.blue,
      c.number_then-after_row.ensures.behind,
      c.number_then-after_row.auto.text,
      length_ended c.args.row 32,
      c.number_then-after_column.ensures.behind,
      c.number_then-after_column.auto.text,
      length_ended c.args.column 32,
    )

pub number_then-after_green-requires : goal.number_then-after_green-requires
number_then-after_green-requires c =
    omega (
      arith,
      c.requires,
      length_five c.args.row c.args.column c.args.red c.args.green c.args.blue,
      c.number_then-after_row.ensures.behind,
      c.number_then-after_row.auto.text,
      length_ended c.args.row 32,
      c.number_then-after_column.ensures.behind,
      c.number_then-after_column.auto.text,
      length_ended c.args.column 32,
      c.number_then-after_red.ensures.behind,
      c.number_then-after_red.auto.text,
      length_ended c.args.red 32,
    )

pub number_then-requires : goal.number_then-requires
number_then-requires c =
    omega (
      arith,
      c.requires,
      length_five c.args.row c.args.column c.args.red c.args.green c.args.blue,
      c.number_then-after_row.ensures.behind,
      c.number_then-after_row.auto.text,
      length_ended c.args.row 32,
      c.number_then-after_column.ensures.behind,
      c.number_then-after_column.auto.text,
      length_ended c.args.column 32,
      c.number_then-after_red.ensures.behind,
      c.number_then-after_red.auto.text,
      length_ended c.args.red 32,
      c.number_then-after_green.ensures.behind,
      c.number_then-after_green.auto.text,
      length_ended c.args.green 32,
    )

pub returns : goal.returns
returns c =
    five_put c.args.row c.args.column c.args.red c.args.green c.args.blue c.requires
    c.number_then-after_row.ensures c.number_then-after_column.ensures c.number_then-after_red.ensures c.number_then-after_green.ensures
    c.number_then.ensures
