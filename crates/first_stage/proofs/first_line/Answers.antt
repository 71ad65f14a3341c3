-- `first_stage::first_line` meets its contract. What the first two lines store is what the third asks (`trials_read`). Assumes nothing.
use Rattle.std.proofs.Common.{refl, arith}
use Rattle.mosaic_rows.specs.RingRowLaws.{near_rows}
use Rattle.first_stage.specs.RingReads.{seven_at, east_reads}
use Rattle.first_stage.specs.GradientRows.{trials_read}
use Rattle.first_stage.proofs.first_line.Goals as goal

pub seven_rows-requires-clause-near_rows : goal.seven_rows-requires-clause-near_rows
seven_rows-requires-clause-near_rows c = near_rows c.requires.some_samples.holds.mosaic _ (omega arith) (omega arith)

pub gradient_line-requires-clause-some_samples : goal.gradient_line-requires-clause-some_samples
gradient_line-requires-clause-some_samples c =
    let some = c.requires.some_samples in
    record { samples = some.samples; holds = east_reads some.holds c.seven_rows.ensures }

pub trial_line-requires-clause-some_samples : goal.trial_line-requires-clause-some_samples
trial_line-requires-clause-some_samples c =
    let some = c.requires.some_samples in
    let lent = some.holds in
    let entries = c.seven_rows.ensures in
    record {
      samples = some.samples;
      holds = trials_read lent.reads refl (seven_at lent.mosaic entries (omega arith) (omega arith))
          (c.top_line.ensures.tops_formed.row some.samples lent.mosaic)
          (c.gradient_line.ensures.gradients_formed.row some.samples (east_reads lent entries));
    }

pub returns : goal.returns
returns c =
    let trial = c.trial_line.ensures in
    let gradient = c.gradient_line.ensures in
    let entries = c.seven_rows.ensures in record {
      first_stores = record {
        row = λ zs lent.
            let tops = c.top_line.ensures.tops_formed.row zs lent.mosaic in
            let stored = gradient.gradients_formed.row zs (east_reads lent entries) in
            let reads = trials_read lent.reads refl (seven_at lent.mosaic entries (omega arith) (omega arith)) tops stored in
            record {
              tops_stored = tops;
              gradients_stored = stored;
              diagonals_stored = trial.trials_stored.row zs reads;
              verticals_stored = trial.trials_stored_2.row zs reads;
              codes_stored = trial.codes_formed.row zs reads;
            };
      };
    }
