-- `writer::header_block` meets its contract. Assumes nothing.
use Rattle.frame_file.specs.Lists.{zeros}
use Rattle.writer.proofs.Blocks.{header_composed}
use Rattle.writer.proofs.header_block.Goals as goal

pub returns : goal.returns
unfolding zeros
returns c = header_composed _ _ _ _ c.header_front.ensures c.store_bytes.ensures c.store_check.ensures
