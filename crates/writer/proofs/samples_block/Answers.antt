-- `writer::samples_block` meets its contract. Assumes nothing.
use Rattle.frame_file.specs.Lists.{zeros}
use Rattle.writer.proofs.Blocks.{samples_composed}
use Rattle.writer.proofs.samples_block.Goals as goal

pub returns : goal.returns
unfolding zeros
returns c =
    samples_composed _ _ _ _ _ _ _ c.bytes4.ensures c.pack_payload.ensures c.store_bytes.ensures c.store_bytes-2.ensures c.store_check.ensures
