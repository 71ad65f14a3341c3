-- `sweep::sweep` meets its contract: before the first step the buffers hold nothing that is asked. Assumes nothing.
use Rattle.std.proofs.Common.{refl}
use Rattle.sweep.specs.Loads.{mosaic_none}
use Rattle.sweep.specs.Steps.{sweep_none}
use Rattle.sweep.proofs.sweep.Goals as goal

pub steps-requires : goal.steps-requires
steps-requires c =
    let sizes = c.requires.red_len in
    record {
      sweep = sweep_none (record { taken = c.requires.taken; tops_size = refl; work_size = sizes.4 }) sizes.0 sizes.1 sizes.2 sizes.3;
      mosaic_kept = mosaic_none refl refl;
    }
