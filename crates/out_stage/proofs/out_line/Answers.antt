-- `out_stage::out_line` meets its contract. Assumes nothing.
use Rattle.out_rows.specs.RowPlaces.{RowOf}
use Rattle.out_stage.specs.RowOutputs.{outputs_read}
use Rattle.out_stage.specs.PlaneRows.{out_stored}
use Rattle.out_stage.proofs.out_line.Goals as goal
use Rattle.out_stage.proofs.out_line.Goals.{Start}

row_of : (start : Start) → RowOf start.args.row.shape start.args.row.index
row_of start =
    let lent = start.requires.some_samples.holds.reads.reads.lent in
    let t = lent.taken in
    record { wide = t.wide; narrow = t.narrow; tall = t.tall; low = t.low; phase_small = t.phase_small; inside = lent.inside }

pub row_places-p-requires : goal.row_places-p-requires
row_places-p-requires c = (row_of (goal.at.row_places-p-requires c).Start, c.requires.some_samples.holds.reads.reads.lent.round)

pub row_differences-requires : goal.row_differences-requires
row_differences-requires c =
    let lent = c.requires.some_samples in
    rw c.row_places-p.ensures (record { samples = lent.samples; holds = lent.holds.reads })

pub row_outputs-requires : goal.row_outputs-requires
row_outputs-requires c =
    let zs = c.requires.some_samples.samples in
    let lent = c.requires.some_samples.holds in
    let formed = rw c.row_places-p.ensures at c.row_differences.ensures in record {
      some_samples = rw c.row_places-p.ensures (record {
        samples = zs;
        holds = outputs_read lent c.row_at-at.ensures.0 (formed.row zs lent.reads);
      });
      at_bound = c.row_at-at.ensures.1;
    }

pub store_outputs-requires : goal.store_outputs-requires
store_outputs-requires c =
    rw c.row_places-p.ensures (record {
      row = row_of (goal.at.store_outputs-requires c).Start;
      start_is = rw c.row_places-p.ensures at c.row_places-p.result.placed.start_is;
      red_size = c.requires.red_len.0;
      green_size = c.requires.red_len.1;
      blue_size = c.requires.red_len.2;
    })

pub returns : goal.returns
returns c =
    let same = c.row_places-p.ensures in
    let place = c.row_at-at.ensures.0 in
    let formed = rw same at c.row_differences.ensures in
    let made = rw same at c.row_outputs.ensures in
    let stored = rw same at c.store_outputs.ensures in
    record {
      out_stores = out_stored formed place made stored.plane_row;
      out_stores_2 = out_stored formed place made stored.plane_row_2;
      out_stores_3 = out_stored formed place made stored.plane_row_3;
    }
