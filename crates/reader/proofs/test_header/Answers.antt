-- `reader::test_header` meets its contract. Assumes nothing.
use Rattle.frame_file.specs.Lists.{part}
use Rattle.frame_file.specs.FrameFile.{header_filler}
use Rattle.reader.proofs.Tests.{filler_refused}
use Rattle.reader.proofs.test_header.Goals as goal

pub returns-then-not-zero : goal.returns-then-not-zero
unfolding part header_filler
returns-then-not-zero c =
    filler_refused _ c.tagged.ensures c.if-not-tagged.false c.header_of.ensures
    c.shape_in_range.ensures c.if-not-shape_in_range.false c.zero.ensures c.if-not-zero.true
