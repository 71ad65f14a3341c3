-- What the block checker answers. Definitions alone. Assumes nothing.
use Rattle.std.specs.Prelude.{List, [], ◌∷◌, ℕ}
use Rattle.answers.specs.declared.Refusal.TheVariants.{Check, BlockNumber}
use Rattle.answers.specs.Calls.{test, in_order, Answer}
use Rattle.frame_file.specs.FrameFile.{check_holds, number_holds}

-- "7, block: check differs", then "9, block: block number differs", the tests that every block has
unfoldable pub block_answer : List ℕ → ℕ → Answer
block_answer b n = in_order (test (check_holds b) (Check n) ∷ test (number_holds b n) (BlockNumber n) ∷ [])
