-- What write answers at each of its returns, and what it leaves. Assumes nothing.
use Rattle.std.specs.Prelude.{Err}
use mathlib.Core.Path.{◌≡◌, sym, ◌∙◌, ap}
use mathlib.Core.Bool.{true}
use mathlib.Core.List.{List, [], ◌∷◌}
use Prim.Native.Nat.{ℕ, ◌*◌}
use native.Mathlib.Omega.{arith}
use lib.Dec.{eqb}
use lib.ListN.{length}
use borrow.Author.Tests.{ne_eqb}
use Rattle.toolkit.specs.Tests.{eqb_yes}
use Rattle.frame.specs.declared.Shape.{Shape}
use Rattle.answers.specs.declared.Refusal.{Refusal}
use Rattle.answers.specs.declared.Refusal.TheVariants.{BufferLength}
use Rattle.frame.specs.Sites.{frame, highest_sample}
use Rattle.answers.specs.Calls.{test, in_order, samples_answer, Answer, no_refusal}
use Rattle.answers.proofs.Admission.{samples_done}
use Rattle.admission.specs.ShapeTest.{shape_answer, count_answer}
use Rattle.admission.specs.InOrder.{shape_first, count_is}
use Rattle.admission.specs.Allowed.{shape_passes, count_passes, count_most}
use Rattle.frame_file.specs.Lists.{below_from}
use Rattle.frame_file.specs.FrameFile.{block_count, file_length, written_file, write_answer, file_after_write}
use Rattle.calls.specs.WhatCallsLeave.{WriteLeaves}
use Rattle.writer.specs.Ready.{Ready}

module _ (shape : Shape) (mosaic file : List ℕ) where
  abbrev answer : Answer
  answer = write_answer (frame shape mosaic) (length file)

  -- numbers 1 and 2, then 3, then 4, then 5
  answer_is : answer ≡ in_order (
      shape_answer shape
      ∷ count_answer shape (length mosaic)
      ∷ test (eqb (length file) (file_length (frame shape mosaic))) BufferLength
      ∷ samples_answer mosaic
      ∷ []
      )
  unfolding write_answer
  answer_is = shape_first shape mosaic _ ∙ rw (count_is shape mosaic)

  -- what write returns and leaves
  abbrev pub Wrote : Answer → List ℕ → Type 0
  Wrote = WriteLeaves (frame shape mosaic) file

  -- a refusal is answered, and leaves the file
  refused_so : (why : Refusal) → answer ≡ Err why → Wrote (Err why) file
  unfolding file_after_write
  refused_so why e = record { answered = sym e; file_left = rw e }

  pub shape_refused : (why : Refusal) → shape_answer shape ≡ Err why → Wrote (Err why) file
  unfolding in_order
  shape_refused why e = refused_so why (answer_is ∙ rw e)

  pub count_refused : shape_answer shape ≡ no_refusal → (why : Refusal) → count_answer shape (length mosaic) ≡ Err why
      → Wrote (Err why) file
  unfolding in_order
  count_refused done why e = refused_so why (answer_is ∙ rw (done, e))

  module _ (done : shape_answer shape ≡ no_refusal) (count : count_answer shape (length mosaic) ≡ no_refusal) where
    file_length_is : file_length (frame shape mosaic) ≡ 512 * block_count (length mosaic)
    unfolding file_length
    file_length_is = ap (λ (n : ℕ). 512 * block_count n) (sym (count_passes shape (length mosaic) count))

    pub size_refused : ¬ (length file ≡ 512 * block_count (length mosaic)) → Wrote (Err BufferLength) file
    unfolding in_order
    size_refused h =
        refused_so BufferLength
        (answer_is ∙ rw (done, count, ne_eqb (length file) (file_length (frame shape mosaic)) (λ q. h (q ∙ file_length_is))))

    module _ (size : length file ≡ 512 * block_count (length mosaic)) where
      right_size : eqb (length file) (file_length (frame shape mosaic)) ≡ true
      right_size = eqb_yes (size ∙ sym file_length_is)

      pub samples_refused : (why : Refusal) → samples_answer mosaic ≡ Err why → Wrote (Err why) file
      unfolding in_order
      samples_refused why e = refused_so why (answer_is ∙ rw (done, count, right_size, e))

      module _ (small : samples_answer mosaic ≡ no_refusal) where
        pub ready : Ready shape mosaic (length file)
        unfolding highest_sample
        ready = record {
          phase_small = (shape_passes shape done).phase;
          count = count_passes shape (length mosaic) count;
          most = count_most shape (length mosaic) done count;
          samples_small = below_from 1024 mosaic (omega arith) (λ k h. omega (arith, samples_done mosaic small k h));
          size = size;
        }

        pub all_written : (last : List ℕ) → last ≡ written_file (frame shape mosaic) → Wrote no_refusal last
        unfolding file_after_write in_order
        all_written last e = let d : answer ≡ no_refusal = answer_is ∙ rw (done, count, right_size, small) in record { answered = sym d; file_left = rw d e }
