-- `second_pass::second_line` meets its contract. What is picked by the least sum is D (`line_stored`), and the codes are those of the
-- decisions (`map_stored`). Assumes nothing.
use mathlib.Core.Path.{refl, ◌∙◌, ap}
use native.Mathlib.Omega.{arith}
use Rattle.toolkit.specs.Entries.{entries_as}
use Rattle.frame.specs.Sites.{frame}
use Rattle.method.specs.Settings.{reach}
use Rattle.positions.specs.HalfRows.{half_count}
use Rattle.sums.specs.Widening.{count_is}
use Rattle.second_pass.specs.Forming.{row_here}
use Rattle.second_pass.specs.Picking.{line_stored}
use Rattle.second_pass.specs.MapRows.{map_stored}
use Rattle.second_pass.proofs.second_line.Goals as goal

pub invariant_of-planes : goal.invariant_of-planes
invariant_of-planes c = record { sites = c.of-start.ensures.count.0 ∙ ap (half_count c.args.shape.width) c.of-start.ensures.start.0 }

pub second_row-requires-clause-count_bound : goal.second_row-requires-clause-count_bound
second_row-requires-clause-count_bound c =
    let p = row_here (frame c.args.shape c.requires.some_samples.samples) _ _ _ _ _ c.requires.some_samples.holds.planes
    c.of-start.ensures.start.0 c.of-start.ensures.count.0 in
    let e = c.requires.out_len in
    (c.of-start.ensures.count.2, omega (arith, p, e), c.sum_row.ensures.sums_room)

pub returns : goal.returns
unfolding reach
returns c =
    let sums = c.sum_row.ensures in
    let rows = c.trial_rows.ensures in
    let a = c.args in
    let second = c.second_row.ensures in record {
      second_stores = record {
        row = λ zs lent.
            let formed = rows.rows zs lent.planes in
            let summed = sums.summed.row zs formed in
            let count = count_is a.shape a.i _ (c.of-start.ensures.count.0 ∙ ap (half_count c.args.shape.width) c.of-start.ensures.start.0) zs in
            record {
              differences_stored = line_stored (frame a.shape zs) a.i _ _ _ _ _ _ _ _ formed summed _ _ _ count second.wrote;
              map_stored = map_stored (frame a.shape zs) a.i _ _ _ _ _ _ _ lent summed
                  (entries_as second.entries (omega arith) (omega (arith, count)) (λ k x y. refl)) _ c.of-start.ensures.start.0
                  c.map_row.ensures;
            };
      };
    }
