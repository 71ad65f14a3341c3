-- What the reader's tests answer at each of their returns. Assumes nothing.
use Rattle.std.specs.Prelude.{Err}
use mathlib.Core.Path.{◌≡◌, refl, sym, ◌∙◌, ap}
use mathlib.Core.Bool.{Bool, true, false}
use mathlib.Core.List.{List, [], ◌∷◌}
use Prim.Native.Nat.{ℕ, suc, ◌+◌, ◌*◌, ◌-◌, ◌%◌, ◌≤◌, ◌<◌}
use native.Mathlib.Numerals.{add-one}
use native.Mathlib.Omega.{arith}
use lib.ListN.{length, drop}
use lib.Dec.{eqb}
use Rattle.std.specs.List.{list_all}
use borrow.Author.Tests.{ne_eqb}
use Rattle.toolkit.specs.Tests.{leb_yes, leb_no, eqb_yes}
use Rattle.frame.specs.declared.Shape.{Shape}
use Rattle.answers.specs.declared.Refusal.{Refusal}
use Rattle.answers.specs.declared.Refusal.TheVariants.{FileLength, Check, Header, BlockNumber, Filler}
use Rattle.answers.proofs.Admission.{last_alone}
use Rattle.answers.specs.Calls.{test, in_order, Answer, no_refusal}
use Rattle.admission.specs.ShapeTest.{shape_allowed}
use Rattle.block.specs.BlockTest.{block_answer}
use Rattle.frame_file.specs.Lists.{all_zero}
use Rattle.frame_file.specs.FrameFile.{block, block_filler, has_tag, header, header_filler, payload, unpacked_payload, length_allowed, check_holds, number_holds, header_allowed, filler_holds, block_tests}
use Rattle.frame_file.proofs.BlockCount.{some_blocks, block_starts}
use Rattle.reader.specs.ReadSteps.{header_answer, first_answer, later_answer}

-- ---- zero bytes

pub each_zero : (l : List ℕ) → list_all (λ z. eqb z 0) l ≡ all_zero l
unfolding all_zero
each_zero [] = refl
each_zero (z ∷ l) = rw (each_zero l)

-- ---- block 0

module _ (b : List ℕ) {t : Bool} (et : t ≡ has_tag b) where
  pub tag_refused : t ≡ false → Err Header ≡ header_answer b
  unfolding header_answer header_allowed in_order
  tag_refused h = rw (sym et ∙ h)

  module _ (ht : t ≡ true) {shape : Shape} (es : shape ≡ header b) {s : Bool} (e : s ≡ shape_allowed shape) where
    allowed_is : header_allowed b ≡ s
    unfolding header_allowed shape_allowed
    allowed_is = rw (sym et ∙ ht) (sym (e ∙ ap shape_allowed es))

    pub shape_refused : s ≡ false → Err Header ≡ header_answer b
    unfolding header_answer in_order
    shape_refused h = rw (allowed_is ∙ h)

    module _ (hs : s ≡ true) {z : Bool} (ez : z ≡ all_zero (header_filler b)) where
      pub filler_refused : z ≡ false → Err (Filler 0) ≡ header_answer b
      unfolding header_answer in_order
      filler_refused h = rw (allowed_is ∙ hs, sym ez ∙ h)

      pub header_done : z ≡ true → no_refusal ≡ header_answer b
      unfolding header_answer in_order
      header_done h = rw (allowed_is ∙ hs, sym ez ∙ h)

-- ---- the length, and block 0

module _ (file : List ℕ) where
  pub short : length file < 512 → Err FileLength ≡ first_answer file
  unfolding first_answer length_allowed in_order
  short h = rw (leb_no h)

  module _ (long : 512 ≤ length file) where
    pub uneven : ¬ (length file % 512 ≡ 0) → Err FileLength ≡ first_answer file
    unfolding first_answer length_allowed in_order
    uneven h = rw (leb_yes long, ne_eqb (length file % 512) 0 h)

    module _ (even : length file % 512 ≡ 0) where
      pub block_refused : (why : Refusal) → block_answer (block file 0) 0 ≡ Err why → Err why ≡ first_answer file
      unfolding first_answer length_allowed in_order
      block_refused why e = rw (leb_yes long, eqb_yes even, e)

      pub header_next : (answer : Answer) → block_answer (block file 0) 0 ≡ no_refusal → answer ≡ header_answer (block file 0)
          → answer ≡ first_answer file
      unfolding first_answer length_allowed in_order
      header_next answer d e = rw (leb_yes long, eqb_yes even, d, last_alone (header_answer (block file 0))) e

-- ---- block n, from 1

module _ (file : List ℕ) (m n : ℕ) {b : List ℕ} (eb : b ≡ block file n) {answer : Answer} (ea : answer ≡ block_answer b n) where
  answer_is : block_answer (block file n) n ≡ answer
  answer_is = sym (ea ∙ ap (λ (b : List ℕ). block_answer b n) eb)

  pub later_refused : (why : Refusal) → answer ≡ Err why → Err why ≡ later_answer file m n
  unfolding later_answer in_order
  later_refused why e = rw (answer_is ∙ e)

  module _ (done : answer ≡ no_refusal) {z : Bool} (ez : z ≡ all_zero (block_filler b)) where
    bytes_are : all_zero (block_filler (block file n)) ≡ z
    bytes_are = sym (ez ∙ ap (λ (b : List ℕ). all_zero (block_filler b)) eb)

    pub bytes_refused : z ≡ false → Err (Filler n) ≡ later_answer file m n
    unfolding later_answer filler_holds in_order
    bytes_refused h = rw (answer_is ∙ done, bytes_are ∙ h)

    module _ (hz : z ≡ true) {p : List ℕ} (ep : p ≡ payload file n) {y : Bool}
        (ey : y ≡ all_zero (drop (m - 400 * (n - 1)) (unpacked_payload p))) where
      samples_are : all_zero (drop (m - 400 * (n - 1)) (unpacked_payload (payload file n))) ≡ y
      samples_are = sym (ey ∙ ap (λ (l : List ℕ). all_zero (drop (m - 400 * (n - 1)) (unpacked_payload l))) ep)

      pub samples_refused : y ≡ false → Err (Filler n) ≡ later_answer file m n
      unfolding later_answer filler_holds in_order
      samples_refused h = rw (answer_is ∙ done, bytes_are ∙ hz, samples_are ∙ h)

      pub later_done : y ≡ true → no_refusal ≡ later_answer file m n
      unfolding later_answer filler_holds in_order
      later_done h = rw (answer_is ∙ done, bytes_are ∙ hz, samples_are ∙ h)

-- ---- blocks 1, 2, ..

three_tests : (check number filler : Bool) (n : ℕ) (rest : List Answer)
    → in_order (test check (Check n) ∷ test number (BlockNumber n) ∷ test filler (Filler n) ∷ rest)
    ≡ in_order (in_order (in_order (test check (Check n) ∷ test number (BlockNumber n) ∷ []) ∷ test filler (Filler n) ∷ []) ∷ rest)
unfolding in_order
three_tests true true true n rest = refl
three_tests true true false n rest = refl
three_tests true false filler n rest = refl
three_tests false number filler n rest = refl

-- what the tests of blocks n, n + 1, .. answer, as far as the count
abbrev from_block : List ℕ → ℕ → ℕ → ℕ → Answer
from_block file m n count = in_order (block_tests file m n (count - n))

module _ (file : List ℕ) (m n count : ℕ) (h : n < count) where
  later_step : from_block file m n count ≡ in_order (later_answer file m n ∷ block_tests file m (n + 1) (count - (n + 1)))
  unfolding block_tests later_answer block_answer
  later_step =
      let left : count - n ≡ suc (count - (n + 1)) = omega arith in
      rw (left, add-one)
      (three_tests (check_holds (block file n)) (number_holds (block file n) n) (filler_holds file m n) n _)

  pub later_on : later_answer file m n ≡ no_refusal
      → in_order (block_tests file m n (count - n)) ≡ in_order (block_tests file m (n + 1) (count - (n + 1)))
  unfolding in_order
  later_on e = later_step ∙ rw e

  pub later_stop : (why : Refusal) → later_answer file m n ≡ Err why → in_order (block_tests file m n (count - n)) ≡ Err why
  unfolding in_order
  later_stop why e = later_step ∙ rw e

pub later_end : (file : List ℕ) (m n count : ℕ) → n ≡ count → in_order (block_tests file m n (count - n)) ≡ no_refusal
unfolding block_tests in_order
later_end file m n count h = let none : count - n ≡ 0 = omega arith in rw none

-- ---- the laws that the proof of each function uses

pub ruleset header_laws = (tag_refused, shape_refused, header_done)

pub ruleset first_laws = (short, uneven, header_next)

pub ruleset later_laws = (bytes_refused, samples_refused, later_done)

pub ruleset blocks_laws = (later_on, later_end, some_blocks, block_starts)
