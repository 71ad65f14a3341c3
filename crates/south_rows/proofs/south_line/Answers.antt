-- `south_rows::south_line` meets its contract. Both halves are one row in halves (`halves_stored`). Assumes nothing.
use native.Mathlib.Omega.{arith}
use Rattle.frame.specs.Sites.{frame}
use Rattle.south_rows.specs.NorthRows.{halves_stored}
use Rattle.south_rows.specs.SevenRowLaws.{north_formed}
use Rattle.south_rows.specs.Lent.{lent_limits, lent_small, count_fits, north_reads, first_fits, second_fits}
use Rattle.south_rows.proofs.south_line.Goals as goal

pub half_count-count-requires : goal.half_count-count-requires
half_count-count-requires c = lent_limits c.requires

pub down_row-requires : goal.down_row-requires
down_row-requires c =
    let l = c.requires in record { w_bound = (lent_limits l).1; small_rows = lent_small l }

pub north_row-requires : goal.north_row-requires
north_row-requires c =
    let l = c.requires in record { north_reads = north_reads l c.down_row.ensures }

pub overflow_add-c : goal.overflow_add-c
overflow_add-c c = omega (arith, lent_limits c.requires)

pub take_half-requires : goal.take_half-requires
take_half-requires c = first_fits c.requires (c.half_count-count.ensures.0)

pub overflow_sub-c : goal.overflow_sub-c
overflow_sub-c c = omega (arith, lent_limits c.requires)

pub overflow_sub-w : goal.overflow_sub-w
overflow_sub-w c =
    count_fits c.requires (c.half_count-count.ensures.0)

pub take_half-requires-2 : goal.take_half-requires-2
take_half-requires-2 c =
    second_fits c.requires (c.half_count-count.ensures.0) c.take_half.ensures.size

pub returns : goal.returns
returns c =
    let a = c.args in
    let samples = a.rows.samples.now in
    let pairs = c.down_row.ensures in
    let first = c.take_half.ensures in record {
      south_stores = record {
        row = λ zs x reads.
            halves_stored (frame a.shape zs) x a.c a.rows.at samples reads _
            (north_formed a.shape.width samples a.rows.at _ pairs c.north_row.ensures) (c.half_count-count.ensures.0) first
            c.take_half-2.ensures;
      };
    }
