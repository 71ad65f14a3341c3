-- `east_rows::east_line` meets its contract. E of the row, then both halves as one store (`east_stored`). Assumes nothing.
use native.Mathlib.Omega.{arith}
use Rattle.frame.specs.Sites.{frame}
use Rattle.east_rows.specs.LineLaws.{first_end, second_end, east_room, halves_room, east_stored}
use Rattle.east_rows.proofs.east_line.Goals as goal

pub east_row-requires : goal.east_row-requires
east_row-requires c =
    record { east_room = east_room (frame c.args.row.shape c.requires.some_samples.samples) _ _ _ _ c.requires.some_samples.holds }

pub take_half-requires : goal.take_half-requires
take_half-requires c =
    let halves = c.of-start.ensures in
    let reads = c.requires.some_samples.holds in (
      omega (arith, reads.taken.narrow, first_end _ _ _ halves.start.1 halves.count.0),
      (halves_room (frame c.args.row.shape c.requires.some_samples.samples) _ _ _ _ _ reads.taken.wide reads.inside halves.count.0
          c.record_at-to.ensures.0 c.requires.work_len).0,
    )

pub take_half-requires-2 : goal.take_half-requires-2
take_half-requires-2 c =
    let halves = c.of-start.ensures in
    let reads = c.requires.some_samples.holds in
    let room = (halves_room (frame c.args.row.shape c.requires.some_samples.samples) _ _ _ _ _ reads.taken.wide reads.inside halves.count.0
    c.record_at-to.ensures.0 c.requires.work_len).1 in
    (omega (arith, reads.taken.narrow, halves.rest.0, second_end _ _ _ halves.start.1 halves.count.0), omega (arith, halves.rest.0, room, c.take_half.ensures.size))

pub returns : goal.returns
returns c =
    let halves = c.of-start.ensures in
    let second = rw halves.rest.0 at c.take_half-2.ensures in record {
      east_stores = record {
        row = λ zs reads. east_stored (frame c.args.row.shape zs) _ _ _ _ reads _ _ _ halves.start.0 halves.count.0
            c.record_at-to.ensures.0 _ c.east_row.ensures c.take_half.ensures second;
      };
    }
