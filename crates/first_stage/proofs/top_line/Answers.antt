-- `first_stage::top_line` meets its contract. Where i is 2 or more, nothing is stored. Assumes nothing.
use native.Mathlib.Omega.{arith}
use Rattle.mosaic_rows.specs.RingRowLaws.{near_rows}
use Rattle.first_stage.specs.RingReads.{top_reads}
use Rattle.first_stage.proofs.top_line.Goals as goal

pub seven_rows-requires-clause-near_rows : goal.seven_rows-requires-clause-near_rows
seven_rows-requires-clause-near_rows c = near_rows c.requires.some_samples.holds _ (omega arith) (omega arith)

pub south_line-requires : goal.south_line-requires
south_line-requires c =
    let some = c.requires.some_samples in
    record {
      samples = some.samples;
      row = c.args.row.index;
      reads = top_reads some.holds c.first_chroma.ensures.0 c.seven_rows.ensures;
      room = omega (arith, some.holds.taken.narrow, c.if-i-lt2.true);
    }

pub returns-then-i-lt2 : goal.returns-then-i-lt2
returns-then-i-lt2 c =
    let stored = c.south_line.ensures in record {
      tops_formed = record {
        row = λ zs lent. record {
          here = λ h. stored.south_stores.row zs c.args.row.index (top_reads lent c.first_chroma.ensures.0 c.seven_rows.ensures);
          late = λ h. absurd (omega (arith, c.if-i-lt2.true));
        };
      };
    }
