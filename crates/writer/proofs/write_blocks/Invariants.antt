-- What the loop of `writer::write_blocks` keeps: the first n blocks are written.
use Rattle.writer.proofs.Files.{Written}
use Rattle.writer.proofs.write_blocks.Given as goal

abbrev pub invariant-loop-n : goal.invariant-loop-n
invariant-loop-n l = Written l.mosaic l.initial.file l.file l.n
