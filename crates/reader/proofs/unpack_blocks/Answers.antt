-- `reader::unpack_blocks` meets its contract. Assumes nothing.
use Rattle.frame_file.proofs.BlockCount.{block_inside}
use Prim.Native.Nat.{◌+◌}
use lib.ListN.{length}
use Rattle.reader.proofs.Samples.{unpacked_next, unpacked_all}
use native.Mathlib.Omega.{arith}
use Rattle.reader.proofs.unpack_blocks.Goals as goal

pub payload-requires : goal.payload-requires
payload-requires c =
    omega (arith, c.requires, block_inside (length c.args.samples.now) (c.loop-k.k + 1) (omega arith) (omega arith))

pub loop-k-preserved : goal.loop-k-preserved
loop-k-preserved c =
    unpacked_next _ _ _ _ (omega arith) c.min-end.ensures c.loop-k.auto.samples c.loop-k.invariant _ _
    c.payload.ensures c.unpack_payload.ensures

pub returns : goal.returns
returns c = unpacked_all _ _ _ (omega arith) c.loop-k.invariant
