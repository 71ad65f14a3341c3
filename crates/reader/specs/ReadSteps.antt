-- What the reader's tests answer, one function of the code at a time. Definitions alone. Assumes nothing.
use Rattle.std.specs.Prelude.{List, [], ◌∷◌, ℕ, length}
use Rattle.answers.specs.declared.Refusal.TheVariants.{FileLength, Header, Filler}
use Rattle.answers.specs.Calls.{test, in_order, Answer}
use Rattle.block.specs.BlockTest.{block_answer}
use Rattle.frame_file.specs.Lists.{all_zero}
use Rattle.frame_file.specs.FrameFile.{block, header_filler, length_allowed, header_allowed, filler_holds}

-- block 0 for 8, 10
unfoldable pub header_answer : List ℕ → Answer
header_answer b = in_order (test (header_allowed b) Header ∷ test (all_zero (header_filler b)) (Filler 0) ∷ [])

-- length, then block 0 for 7, 9, 8, 10
unfoldable pub first_answer : List ℕ → Answer
first_answer file =
    in_order (test (length_allowed (length file)) FileLength ∷ block_answer (block file 0) 0 ∷ header_answer (block file 0) ∷ [])

-- block n, from 1, for 7, 9, 10, in the file of a frame of so many samples
unfoldable pub later_answer : List ℕ → ℕ → ℕ → Answer
later_answer file samples n = in_order (block_answer (block file n) n ∷ test (filler_holds file samples n) (Filler n) ∷ [])
