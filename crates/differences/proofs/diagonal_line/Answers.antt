-- `differences::diagonal_line` meets its contract. What is formed of row i is a `DiagonalRow` of any frame whose rows these are. Assumes nothing.
use native.Mathlib.Omega.{arith}
use Rattle.std.proofs.Common.{rules}
use Rattle.positions.specs.Near.{near_north, near_south}
use Rattle.half_rows.specs.SiteGradients.{near_record, north_room}
use Rattle.half_rows.specs.GradientRow.{sites_inside, other_room, gradients_fit}
use Rattle.differences.specs.DiagonalRow.{rest_room, row_one_off, diagonal_row, corner_values_fit, others_stored}
use Rattle.differences.proofs.Means.{means_of, site_of}
use Rattle.differences.proofs.diagonal_line.Goals as goal

pub at-requires : goal.at-requires
at-requires c =
    let lent = c.requires.some_samples.holds.lent in
    let near = near_north _ _ 1 lent.taken.tall lent.inside in
    let above = c.row_above.ensures.value in
    let record_near = near_record lent _ (omega (arith, above)) (omega (arith, above)) above.1 in (record_near.1, record_near.2)

pub at-requires-2 : goal.at-requires-2
at-requires-2 c =
    let lent = c.requires.some_samples.holds.lent in
    let near = near_south _ _ 1 lent.taken.tall lent.inside in
    let below = c.row_below.ensures.value in
    let record_near = near_record lent _ (omega (arith, below)) (omega (arith, below)) below.1 in (record_near.1, record_near.2)

pub north-requires : goal.north-requires
north-requires c =
    let lent = c.requires.some_samples.holds.lent in
    let halves = c.of-start.ensures in
    north_room _ _ _ 0 _ _ _ lent (sites_inside lent halves.start.0 halves.count.0) halves.count.2

pub copy-requires : goal.copy-requires
copy-requires c =
    let halves = c.of-start.ensures in
    let place = rw (c.at.ensures.shape, c.at.ensures.index) at c.final_at-above.ensures in
    let room = rest_room c.requires.some_samples.holds.lent halves.start.0 halves.count.0 _ c.row_above.ensures.value.1 place in
    (omega (arith, room, halves), halves.rest.1)

pub copy-requires-2 : goal.copy-requires-2
copy-requires-2 c =
    let halves = c.of-start.ensures in
    let place = rw (c.at-2.ensures.shape, c.at-2.ensures.index) at c.final_at-below.ensures in
    let room = rest_room c.requires.some_samples.holds.lent halves.start.0 halves.count.0 _ c.row_below.ensures.value.1 place in
    (omega (arith, room, halves), halves.rest.1)

pub invariant_of-gradients : goal.invariant_of-gradients
invariant_of-gradients c =
    let reads = c.requires.some_samples.holds in record {
      fit = gradients_fit (record {
        lent = reads.lent;
        gradients = reads.gradients;
        start = c.of-start.ensures.start.0;
        sites = c.of-start.ensures.count.0;
        north_row = c.north.ensures;
      }) _ _ c.record_at.ensures.0 c.south_at.ensures;
    }

pub means_row-requires-clause-may_form : goal.means_row-requires-clause-may_form
means_row-requires-clause-may_form c =
    let halves = c.of-start.ensures in
    let up_place = rw (c.at.ensures.shape, c.at.ensures.index) at c.final_at-above.ensures in
    let down_place = rw (c.at-2.ensures.shape, c.at-2.ensures.index) at c.final_at-below.ensures in
    let row = diagonal_row c.requires.some_samples.holds halves.start.0 halves.count.0
    c.north.ensures c.row_above.ensures.value.0 c.row_below.ensures.value.0
    (row_one_off up_place (rw halves.rest.0 at c.copy.ensures) c.mirror.ensures)
    (row_one_off down_place (rw halves.rest.0 at c.copy-2.ensures) c.mirror-2.ensures) in
    let fits = corner_values_fit row in
    let low = halves.start.1 in
    λ k h. search rules

pub store-requires : goal.store-requires
store-requires c =
    let halves = c.of-start.ensures in
    (halves.count.2, other_room c.requires.some_samples.holds.lent halves.start.0 halves.count.0 c.other_at.ensures)

pub returns : goal.returns
returns c =
    let halves = c.of-start.ensures in
    let up_place = rw (c.at.ensures.shape, c.at.ensures.index) at c.final_at-above.ensures in
    let down_place = rw (c.at-2.ensures.shape, c.at-2.ensures.index) at c.final_at-below.ensures in
    record {
      diagonal_stores = record {
        row = λ zs reads. others_stored
            (diagonal_row reads halves.start.0 halves.count.0 c.north.ensures
            c.row_above.ensures.value.0 c.row_below.ensures.value.0
            (row_one_off up_place (rw halves.rest.0 at c.copy.ensures) c.mirror.ensures)
            (row_one_off down_place (rw halves.rest.0 at c.copy-2.ensures) c.mirror-2.ensures))
            _ _ c.record_at.ensures.0 c.south_at.ensures _
            (means_of c.means_row.array_long (λ k h. let formed = c.means_row.ensures k h in rw (site_of k) (search rules)))
            c.other_at.ensures c.store.ensures;
      };
    }
