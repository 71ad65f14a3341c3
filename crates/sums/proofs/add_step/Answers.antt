-- `sums::add_step` meets its contract. One step of the three sums (`widens`). Assumes nothing.
use mathlib.Core.Path.{refl}
use Prim.Native.Nat.{◌*◌}
use native.Mathlib.Omega.{arith}
use Rattle.method.specs.Green.{horizontal, vertical, diagonal}
use Rattle.sums.specs.Widening.{Stepped, both_added, count_is, widens}
use Rattle.sums.specs.Room.{columns_asked, rows_asked, columns_room, before, room_next}
use Rattle.sums.specs.Steps.{middle}
use Rattle.sums.proofs.add_step.Goals as goal

pub add_columns-requires : goal.add_columns-requires
add_columns-requires c =
    let r = c.requires.some_samples.holds in
    let m = c.requires.sums_room in
    let whole = columns_asked r (count_is c.args.planes.shape c.args.planes.index c.args.planes.count c.args.planes.sites c.requires.some_samples.samples) c.requires.t_bound.1 horizontal _ _ r.across_row (before m.across_most (omega arith)) in record { t_bound = whole.0; sized = whole.1 }

pub add_rows-requires : goal.add_rows-requires
add_rows-requires c =
    let r = c.requires.some_samples.holds in
    let m = c.requires.sums_room in
    let whole = rows_asked r (count_is c.args.planes.shape c.args.planes.index c.args.planes.count c.args.planes.sites c.requires.some_samples.samples) c.requires.t_bound.1 vertical _ _ _ _ _ r.down_row r.planes.verticals_held r.planes.verticals_size
    c.row_above.ensures.value c.row_below.ensures.value (before m.down_most (omega arith)) in record { count_in_bounds = (whole.0.0, whole.0.1, whole.0.3); sized = whole.1 }

pub add_columns-requires-2 : goal.add_columns-requires-2
add_columns-requires-2 c =
    let r = c.requires.some_samples.holds in
    let m = c.requires.sums_room in
    let whole = columns_asked r (count_is c.args.planes.shape c.args.planes.index c.args.planes.count c.args.planes.sites c.requires.some_samples.samples) c.requires.t_bound.1 diagonal _ _ r.both_row (before m.both_most (omega arith)) in record { t_bound = whole.0; sized = whole.1 }

pub add_rows-requires-2 : goal.add_rows-requires-2
add_rows-requires-2 c =
    let r = c.requires.some_samples.holds in
    let m = c.requires.sums_room in
    let whole = rows_asked r (count_is c.args.planes.shape c.args.planes.index c.args.planes.count c.args.planes.sites c.requires.some_samples.samples) c.requires.t_bound.1 diagonal _ _ _ _ _ (middle _ r.both_row) r.planes.diagonals_held r.planes.diagonals_size
    c.row_above.ensures.value c.row_below.ensures.value (columns_room r (count_is c.args.planes.shape c.args.planes.index c.args.planes.count c.args.planes.sites c.requires.some_samples.samples) c.requires.t_bound.1 m (omega arith) c.add_columns-2.ensures) in record { count_in_bounds = (whole.0.0, whole.0.1, whole.0.3); sized = whole.1 }

pub returns : goal.returns
returns c =
    let a = c.args in
    let up = c.row_above in
    let down = c.row_below in
    let new : Stepped a.t (up.result * a.planes.shape.width) (down.result * a.planes.shape.width) a.planes.count a.planes.diagonals.now
    a.planes.verticals.now a.trials.now.across a.trials.now.vertical a.trials.now.diagonal a.sums.now.across a.sums.now.vertical
    a.sums.now.diagonal _ _ _ = record {
      across = c.add_columns.ensures;
      down_columns = c.add_rows.ensures;
      both = both_added _ _ _ _ _ _ c.add_columns-2.ensures c.add_rows-2.ensures;
    } in record {
      widens = widens a.planes.shape a.planes.index a.planes.count a.planes.sites a.t _ _ up.result down.result _ _ _ _ _ _ _ _ _ _ _
          c.requires.t_bound.0 c.requires.t_bound.1
          up.ensures.value.0 down.ensures.value.0 refl refl new;
      sums_room_2 = room_next c.requires.some_samples.holds (count_is c.args.planes.shape c.args.planes.index c.args.planes.count c.args.planes.sites c.requires.some_samples.samples) c.requires.t_bound.1 up.result down.result _ _ _ _ _ _ up.ensures.value
          down.ensures.value c.requires.t_bound.0
          c.requires.sums_room new;
    }
