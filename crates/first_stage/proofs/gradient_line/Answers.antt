-- `first_stage::gradient_line` meets its contract. E, and S behind it, are one store (`gradients_stored`). Assumes nothing.
use Prim.Native.Nat.{◌+◌}
use Rattle.frame.specs.Sites.{frame}
use Rattle.south_rows.specs.NorthRows.{reads_two_down}
use Rattle.first_stage.specs.GradientRows.{gradients_stored, south_room}
use Rattle.first_stage.proofs.gradient_line.Goals as goal

pub south_line-requires : goal.south_line-requires
south_line-requires c =
    let row = c.args.row in
    let some = c.requires.some_samples in
    let reads = some.holds in
    record {
      samples = some.samples;
      row = row.index + 2;
      reads = reads_two_down row.index reads.taken c.first_chroma.ensures.0 reads.seven;
      room = south_room (frame row.shape some.samples) row.index _ reads.taken reads.inside c.requires.work_len
          (c.east_line.ensures.east_stores.row some.samples reads) c.south_at.ensures;
    }

pub returns : goal.returns
returns c =
    let row = c.args.row in
    let south = c.south_line.ensures in record {
      gradients_formed = record {
        row = λ zs reads. gradients_stored (frame row.shape zs) row.index _ (c.east_line.ensures.east_stores.row zs reads)
            (south.south_stores.row zs (row.index + 2) (reads_two_down row.index reads.taken c.first_chroma.ensures.0 reads.seven))
            c.south_at.ensures;
      };
    }
