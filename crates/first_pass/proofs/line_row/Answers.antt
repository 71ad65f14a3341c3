-- `first_pass::line_row` meets its contract. The loop has filled the entries below k + 4 of both half rows. Assumes nothing.
use Rattle.std.proofs.Common.{◌≡◌, ◌+◌, ◌*◌, ◌-◌, arith}
use Rattle.toolkit.specs.Entries.{entries_next}
use Rattle.half_rows.specs.Reading.{as_read}
use Rattle.first_pass.specs.Lines.{across_reads}
use Rattle.first_pass.proofs.line_row.Goals as goal

pub line-requires : goal.line-requires
line-requires c =
    let rows = c.args.rows in
    let halves = c.args.halves in
    across_reads (halves.start + 2 * halves.count + 9) (halves.start + 2 * c.loop-k.k + 8) rows.at rows.samples.now
    c.requires.small_rows (omega arith) (omega arith)

pub loop-k-preserved : goal.loop-k-preserved
loop-k-preserved c =
    let k = c.loop-k.k in
    let inv = c.loop-k.invariant in
    let back : k + 4 - 4 ≡ k = omega arith in (
      entries_next inv.0 (omega arith) (omega arith) (rw (back, as_read c.line.type_inv) c.line.ensures),
      entries_next inv.1 (omega arith) (omega arith) (rw (back, as_read c.line-in-loop-k.type_inv) c.line-in-loop-k.ensures),
    )
