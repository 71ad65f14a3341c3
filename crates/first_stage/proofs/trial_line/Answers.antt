-- `first_stage::trial_line` meets its contract. What is read and what is stored, for any frame (`trial_reads`, `trials_stored`, `codes_stored`).
-- Assumes nothing.
use Rattle.std.proofs.Common.{arith}
use Rattle.frame.specs.Sites.{frame}
use Rattle.method.specs.Green.{vertical, diagonal}
use Rattle.positions.specs.HalfRowLaws.{count_high}
use Rattle.half_rows.specs.SiteGradients.{north_room}
use Rattle.half_rows.specs.Reading.{by_sites}
use Rattle.positions.specs.Places.{plane_row}
use Rattle.first_stage.specs.TrialRows.{lines_small, trial_reads, trials_stored, codes_stored}
use Rattle.first_stage.proofs.trial_line.Goals as goal

pub line_row-requires : goal.line_row-requires
line_row-requires c =
    let halves = c.of-halves.ensures in
    let r = rw (← halves.start.0) at c.requires.some_samples.holds in
    record { c_bound = (halves.start.1, halves.count.2); small_rows = lines_small _ _ _ _ _ _ _ _ _ r halves.count.0 }

pub north-requires : goal.north-requires
north-requires c =
    let row = c.args.row in
    let count = c.of-halves.ensures.count in
    north_room (frame row.shape c.requires.some_samples.samples) row.index row.base 0 _ _ _ c.requires.some_samples.holds.lent
    (omega (arith, count.0, count_high row.shape.width c.of-halves.result.start)) count.2

pub invariant_of-gradients : goal.invariant_of-gradients
invariant_of-gradients c =
    let row = c.args.row in
    let halves = c.of-halves.ensures in
    let r = rw (← halves.start.0) at c.requires.some_samples.holds in
    let lines = c.line_row.ensures in
    let reads = trial_reads (frame row.shape c.requires.some_samples.samples) row.index row.base _ _ _ _ _ _ _ _ _ _ _ r halves.count.0
    c.record_at.ensures.0 c.south_at.ensures c.north.ensures lines.entries lines.entries_2 in
    record { fit = reads.gradients }

pub trial_row-requires : goal.trial_row-requires
trial_row-requires c =
    let row = c.args.row in
    let halves = c.of-halves.ensures in
    let r = rw (← halves.start.0) at c.requires.some_samples.holds in
    let lines = c.line_row.ensures in
    let planes = c.requires.diagonals_len in
    let reads = trial_reads (frame row.shape c.requires.some_samples.samples) row.index row.base _ _ _ _ _ _ _ _ _ _ _ r halves.count.0
    c.record_at.ensures.0 c.south_at.ensures c.north.ensures lines.entries lines.entries_2 in
    let room = plane_row (frame row.shape c.requires.some_samples.samples) row.index c.of-halves.result.count r.lent.taken r.lent.inside
    (omega (arith, halves.count.0, count_high row.shape.width c.of-halves.result.start)) in record {
      sized = (by_sites reads.across_small, by_sites reads.down_small);
      count_in_bounds = (omega arith, omega arith, omega arith);
    }

pub returns : goal.returns
returns c =
    let row = c.args.row in
    let halves = c.of-halves.ensures in
    let east = c.record_at.ensures.0 in
    let south = c.south_at.ensures in
    let lines = c.line_row.ensures in
    let norths = c.north.ensures in
    let stored = c.trial_row.ensures in record {
      trials_stored = record {
        row = λ zs reads.
            let r = rw (← halves.start.0) at reads in
            trials_stored (frame row.shape zs) row.index row.base _ _ _ _ _ _ _ _ _ _ _ r halves.count.0 east south norths lines.entries
            lines.entries_2 diagonal stored.wrote;
      };
      trials_stored_2 = record {
        row = λ zs reads.
            let r = rw (← halves.start.0) at reads in
            trials_stored (frame row.shape zs) row.index row.base _ _ _ _ _ _ _ _ _ _ _ r halves.count.0 east south norths lines.entries
            lines.entries_2 vertical stored.wrote_2;
      };
      codes_formed = record {
        row = λ zs reads.
            let r = rw (← halves.start.0) at reads in
            codes_stored (frame row.shape zs) row.index row.base _ _ _ _ _ _ _ _ _ _ _ r halves.count.0 east south norths lines.entries
            lines.entries_2 stored.wrote_3;
      };
    }
