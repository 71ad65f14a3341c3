-- What the loop of `reader::test_blocks` keeps: the blocks before block n pass.
use mathlib.Core.Path.{◌≡◌}
use Prim.Native.Nat.{◌-◌}
use Rattle.answers.specs.Calls.{in_order}
use Rattle.frame_file.specs.FrameFile.{block_tests}
use Rattle.reader.proofs.test_blocks.Given as goal

abbrev pub invariant-loop-n : goal.invariant-loop-n
invariant-loop-n l = in_order (block_tests l.file l.samples 1 (l.count - 1)) ≡ in_order (block_tests l.file l.samples l.n (l.count - l.n))
