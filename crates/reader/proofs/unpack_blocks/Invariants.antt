-- What the loop of `reader::unpack_blocks` keeps: the samples of the first k blocks are stored.
use Prim.Native.Nat.{◌*◌, min}
use lib.ListN.{length}
use Rattle.reader.proofs.Samples.{Unpacked}
use Rattle.reader.proofs.unpack_blocks.Given as goal

abbrev pub invariant-loop-k : goal.invariant-loop-k
invariant-loop-k l = Unpacked l.file l.initial.samples l.samples (min (400 * l.k) (length l.initial.samples))
