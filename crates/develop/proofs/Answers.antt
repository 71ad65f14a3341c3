-- What develop's tests answer at each of their returns. Assumes nothing.
use Rattle.std.specs.Prelude.{Err}
use mathlib.Core.Path.{◌≡◌, sym, ◌∙◌, ap}
use mathlib.Core.Bool.{Bool, true, false}
use mathlib.Core.List.{List, [], ◌∷◌}
use Prim.Native.Nat.{ℕ, ◌≤◌}
use lib.ListN.{length}
use Rattle.frame.specs.declared.Shape.{Shape}
use Rattle.answers.specs.declared.Refusal.{Refusal}
use Rattle.answers.specs.declared.Refusal.TheVariants.{BufferLength}
use Rattle.frame.specs.Sites.{frame}
use Rattle.answers.specs.Calls.{test, and_then, in_order, samples_answer, black_answer, under_answer, lengths_fit, lengths_allowed, develop_answer, Answer, no_refusal}
use Rattle.answers.specs.declared.Lengths.{Lengths}
use Rattle.answers.proofs.Admission.{in_order_append, in_order_done, last_alone, eleven_in_figures}
use Rattle.admission.specs.ShapeTest.{shape_answer, count_answer}
use Rattle.admission.specs.InOrder.{shape_first, count_is}
use Rattle.admission.specs.Allowed.{count_passes}

-- ---- numbers 1, 2, 11 and 3

module _ (shape : Shape) (b count : ℕ) where
  abbrev pub first_answer : Answer
  first_answer = in_order (shape_answer shape ∷ black_answer b ∷ count_answer shape count ∷ [])

  -- what has passed them
  pub record Passes : Type 0 where
    pub shape_passes : shape_answer shape ≡ no_refusal
    pub black_passes : b ≤ 255
    pub count_passes : count_answer shape count ≡ no_refusal

  pub first_passes : first_answer ≡ no_refusal → Passes
  first_passes e =
      let (shapes, (blacks, (counts, end))) = in_order_done _ e in
      record { shape_passes = shapes; black_passes = (eleven_in_figures b).0 blacks; count_passes = counts }

-- ---- the numbers in order

module _ (shape : Shape) (b : ℕ) (mosaic : List ℕ) (l : Lengths) where
  abbrev answer : Answer
  answer = develop_answer (frame shape mosaic) b l

  answer_is : answer ≡ and_then (first_answer shape b (length mosaic))
      (in_order (test (lengths_allowed (frame shape mosaic) l) BufferLength ∷ samples_answer mosaic ∷ under_answer b mosaic ∷ []))
  unfolding develop_answer
  answer_is =
      shape_first shape mosaic _ ∙ rw (count_is shape mosaic)
      (in_order_append (shape_answer shape ∷ black_answer b ∷ count_answer shape (length mosaic) ∷ []) _)

  pub first_refused : (why : Refusal) → first_answer shape b (length mosaic) ≡ Err why → Err why ≡ answer
  first_refused why e = sym (answer_is ∙ rw e)

  module _ (done : first_answer shape b (length mosaic) ≡ no_refusal) {t : Bool} (fit : t ≡ lengths_fit (length mosaic) l) where
    allowed_is : lengths_allowed (frame shape mosaic) l ≡ t
    unfolding lengths_allowed
    allowed_is =
        ap (λ (n : ℕ). lengths_fit n l) (sym (count_passes shape (length mosaic) (first_passes shape b (length mosaic) done).count_passes))
        ∙ sym fit

    pub lengths_refused : t ≡ false → Err BufferLength ≡ answer
    unfolding in_order
    lengths_refused h = sym (answer_is ∙ rw (done, allowed_is ∙ h))

    module _ (h : t ≡ true) where
      pub samples_refused : (why : Refusal) → samples_answer mosaic ≡ Err why → Err why ≡ answer
      unfolding in_order
      samples_refused why e = sym (answer_is ∙ rw (done, allowed_is ∙ h, e))

      pub under_tested : samples_answer mosaic ≡ no_refusal → (a : Answer) → a ≡ under_answer b mosaic → a ≡ answer
      unfolding in_order
      under_tested e a u = u ∙ sym (answer_is ∙ rw (done, allowed_is ∙ h, e) (last_alone (under_answer b mosaic)))
