-- What the block checker answers at each of its tests. Assumes nothing.
use Rattle.answers.specs.Calls.{in_order, no_refusal}
use Rattle.std.specs.Prelude.{Err}
use mathlib.Core.Path.{◌≡◌, sym, ◌∙◌}
use mathlib.Core.List.{List}
use Prim.Native.Nat.{ℕ}
use borrow.Author.Tests.{ne_eqb}
use Rattle.toolkit.specs.Tests.{eqb_yes}
use Rattle.answers.specs.declared.Refusal.TheVariants.{Check, BlockNumber}
use Rattle.frame_file.specs.Lists.{part}
use Rattle.frame_file.specs.FrameFile.{little_endian, block_number, check, stored_check, check_holds, number_holds}
use Rattle.block.specs.BlockTest.{block_answer}

module _ (b : List ℕ) (n stored sum : ℕ) (es : stored ≡ little_endian (part b 508 4)) (ec : sum ≡ check b) where
  pub check_refused : ¬ (stored ≡ sum) → Err (Check n) ≡ block_answer b n
  unfolding block_answer in_order check_holds stored_check
  check_refused h = rw (ne_eqb (little_endian (part b 508 4)) (check b) (λ q. h (es ∙ q ∙ sym ec)))

  module _ (same : stored ≡ sum) (number : ℕ) (en : number ≡ little_endian (part b 0 4)) where
    pub number_refused : ¬ (number ≡ n) → Err (BlockNumber n) ≡ block_answer b n
    unfolding block_answer in_order check_holds stored_check number_holds block_number
    number_refused h = rw (eqb_yes (sym es ∙ same ∙ ec), ne_eqb (little_endian (part b 0 4)) n (λ q. h (en ∙ q)))

    pub block_passes : number ≡ n → no_refusal ≡ block_answer b n
    unfolding block_answer in_order check_holds stored_check number_holds block_number
    block_passes e = rw (eqb_yes (sym es ∙ same ∙ ec), eqb_yes (sym en ∙ e))
