-- `differences::enhance_line` meets its contract. What is formed of row i is an `EnhanceRow` of any frame whose rows these are. Assumes nothing.
use Rattle.std.proofs.Common.{rules}
use Rattle.half_rows.specs.SiteGradients.{north_room}
use Rattle.half_rows.specs.GradientRow.{sites_inside, final_room, gradients_fit}
use Rattle.differences.specs.EnhanceRow.{enhance_row, row_room, values_fit, differences_fit, means_fit, finals_stored}
use Rattle.differences.proofs.Means.{means_of, site_of}
use Rattle.differences.proofs.enhance_line.Goals as goal

pub north-requires : goal.north-requires
north-requires c =
    let lent = c.requires.some_samples.holds.lent in
    let halves = c.of-start.ensures in
    north_room _ _ _ 0 _ _ _ lent (sites_inside lent halves.start.0 halves.count.0) halves.count.2

pub copy-requires : goal.copy-requires
copy-requires c =
    let reads = c.requires.some_samples.holds in
    let halves = c.of-start.ensures in
    (row_room reads halves.start.0 halves.count.0 _ reads.lent.inside, halves.count.2)

pub invariant_of-gradients : goal.invariant_of-gradients
invariant_of-gradients c =
    let reads = c.requires.some_samples.holds in record {
      fit = gradients_fit (record {
        lent = reads.lent;
        gradients = reads.gradients;
        start = c.of-start.ensures.start.0;
        sites = c.of-start.ensures.count.0;
        north_row = c.north.ensures;
      }) _ _ c.record_at.ensures.0 c.south_at.ensures;
    }

pub means_row-requires-clause-may_form : goal.means_row-requires-clause-may_form
means_row-requires-clause-may_form c =
    let reads = c.requires.some_samples.holds in
    let halves = c.of-start.ensures in
    let below = c.row_below.ensures.value in
    let above = c.row_above.ensures.value in
    let row = enhance_row reads halves.start.0 halves.count.0 below.0 above.0 c.north.ensures c.copy.ensures c.mirror.ensures in
    let room_below = row_room reads halves.start.0 halves.count.0 _ below.1 in
    let room_above = row_room reads halves.start.0 halves.count.0 _ above.1 in
    let fits = values_fit row in
    λ k h. search rules

pub fuse_row-requires : goal.fuse_row-requires
fuse_row-requires c =
    let reads = c.requires.some_samples.holds in
    let halves = c.of-start.ensures in
    let row = enhance_row reads halves.start.0 halves.count.0 c.row_below.ensures.value.0 c.row_above.ensures.value.0
    c.north.ensures c.copy.ensures c.mirror.ensures in
    record {
      count_bound = (halves.count.2, final_room reads.lent halves.start.0 halves.count.0 c.final_at.ensures);
      sized = (
        differences_fit row,
        means_fit row _ _ c.record_at.ensures.0 c.south_at.ensures _
            (means_of c.means_row.array_long (λ k h. let formed = c.means_row.ensures k h in rw (site_of k) (search rules))),
      );
    }

pub returns : goal.returns
returns c =
    let halves = c.of-start.ensures in record {
      enhance_stores = record {
        row = λ zs reads. finals_stored
            (enhance_row reads halves.start.0 halves.count.0 c.row_below.ensures.value.0
            c.row_above.ensures.value.0 c.north.ensures c.copy.ensures c.mirror.ensures)
            _ _ c.record_at.ensures.0 c.south_at.ensures _
            (means_of c.means_row.array_long (λ k h. let formed = c.means_row.ensures k h in rw (site_of k) (search rules)))
            c.final_at.ensures c.fuse_row.ensures;
      };
    }
