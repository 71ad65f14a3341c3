-- `writer::write_blocks` meets its contract. Assumes nothing.
use Rattle.frame_file.proofs.BlockCount.{some_blocks, block_starts}
use mathlib.Core.Path.{sym, subst, ◌∙◌, ap}
use Prim.Native.Nat.{◌*◌}
use lib.ListN.{length}
use Rattle.frame_file.specs.Lists.{Below, below_part, put_at}
use Rattle.writer.proofs.Files.{first_written, written_next, written_all}
use native.Mathlib.Omega.{arith}
use Rattle.writer.proofs.write_blocks.Goals as goal

pub store_bytes-requires : goal.store_bytes-requires
store_bytes-requires c = omega (arith, c.requires.size, some_blocks (length c.args.mosaic.now))

pub samples_of-requires : goal.samples_of-requires
samples_of-requires c =
    let starts = block_starts (length c.args.mosaic.now) c.loop-n.n (omega (arith, c.count_for-count.ensures.0)) in
    (omega arith, omega (arith, starts))

pub samples_block-requires : goal.samples_block-requires
samples_block-requires c =
    subst (Below 1024) (sym c.samples_of.ensures) (below_part 1024 _ _ _ c.requires.samples_small)

pub loop-n-preserved : goal.loop-n-preserved
loop-n-preserved c =
    let count = c.count_for-count.ensures in
    written_next _ _ _ _ _ _ (omega (arith, count, c.requires.size, c.loop-n.invariant.size))
    c.loop-n.invariant c.samples_of.ensures
    (c.store_bytes-in-loop-n.ensures ∙ ap (put_at c.loop-n.file (512 * c.loop-n.n)) c.samples_block.ensures)

pub returns : goal.returns
returns c =
    written_all c.args.shape c.args.mosaic.now _ _ _
    (omega (arith, c.count_for-count.ensures.0, some_blocks (length c.args.mosaic.now))) c.requires.count
    (omega (arith, c.requires.size)) c.loop-n.invariant
    (first_written _ _ _ _ (c.store_bytes.ensures ∙ ap (put_at c.args.file.now 0) c.header_block.ensures))
