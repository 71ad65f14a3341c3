-- The tests of a frame as the code makes them: numbers 1 and 2 are one test, of the shape; the numbers in order are 1 and 2, 11, 3, 4, 5, 12.
-- Assumes nothing.
use Rattle.std.specs.Prelude.{◌≡◌, refl, Bool, true, false, ◌&&◌, [], ◌∷◌, List, ℕ, length}
use Rattle.std.proofs.Common.{◌∙◌}
use Rattle.frame.specs.declared.Shape.{Shape}
use Rattle.answers.specs.declared.Refusal.TheVariants.{Size, Phase, BufferLength}
use Rattle.frame.specs.Sites.{frame, side_allowed, phase_allowed}
use Rattle.answers.specs.Calls.{test, in_order, and_then, sides_answer, phase_answer, mosaic_answer, samples_answer, Answer}
use Rattle.answers.proofs.Admission.{last_alone}
use Rattle.admission.specs.ShapeTest.{shape_answer, count_answer}

two_in_one : (sides phase : Bool) (rest : List Answer)
    → in_order (test sides Size ∷ test phase Phase ∷ rest) ≡ in_order (in_order (test sides Size ∷ test phase Phase ∷ []) ∷ rest)
unfolding in_order
two_in_one true true rest = refl
two_in_one true false rest = refl
two_in_one false phase rest = refl

pub shape_first : (shape : Shape) (mosaic : List ℕ) (rest : List Answer)
    → in_order (sides_answer (frame shape mosaic) ∷ phase_answer (frame shape mosaic) ∷ rest) ≡ in_order (shape_answer shape ∷ rest)
unfolding sides_answer phase_answer shape_answer
shape_first shape mosaic rest =
    two_in_one (side_allowed shape.width && side_allowed shape.height) (phase_allowed shape.phase) rest

pub count_is : (shape : Shape) (mosaic : List ℕ) → mosaic_answer (frame shape mosaic) ≡ count_answer shape (length mosaic)
unfolding mosaic_answer count_answer
count_is shape mosaic = refl

pub numbers_in_order : (shape : Shape) (mosaic : List ℕ) (eleven : Answer) (allowed : Bool) (twelve : Answer)
    → in_order (sides_answer (frame shape mosaic) ∷ phase_answer (frame shape mosaic) ∷ eleven ∷ mosaic_answer (frame shape mosaic)
    ∷ test allowed BufferLength ∷ samples_answer mosaic ∷ twelve ∷ [])
    ≡ and_then (shape_answer shape)
    (and_then eleven
    (and_then (count_answer shape (length mosaic)) (and_then (test allowed BufferLength) (and_then (samples_answer mosaic) twelve))))
unfolding in_order
numbers_in_order shape mosaic eleven allowed twelve =
    shape_first shape mosaic
    (eleven ∷ mosaic_answer (frame shape mosaic) ∷ test allowed BufferLength ∷ samples_answer mosaic ∷ twelve ∷ [])
    ∙ rw (count_is shape mosaic, last_alone twelve)
