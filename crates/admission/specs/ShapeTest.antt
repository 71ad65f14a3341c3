-- The tests of a shape. Definitions alone; their law is in `InOrder`. Assumes nothing.
use Rattle.std.specs.Prelude.{Bool, ◌&&◌, [], ◌∷◌, ℕ, ◌*◌, eqb}
use Rattle.frame.specs.declared.Shape.{Shape}
use Rattle.answers.specs.declared.Refusal.TheVariants.{Size, Phase, MosaicLength}
use Rattle.frame.specs.Sites.{side_allowed, phase_allowed}
use Rattle.answers.specs.Calls.{test, in_order, Answer}

-- W, H and the phase are allowed
unfoldable pub shape_allowed : Shape → Bool
shape_allowed shape = side_allowed shape.width && (side_allowed shape.height && phase_allowed shape.phase)

-- numbers 1 and 2, in this order
unfoldable pub shape_answer : Shape → Answer
shape_answer shape =
    in_order (test (side_allowed shape.width && side_allowed shape.height) Size ∷ test (phase_allowed shape.phase) Phase ∷ [])

-- number 3, for a mosaic of the given length
unfoldable pub count_answer : Shape → ℕ → Answer
count_answer shape mosaic_length = test (eqb mosaic_length (shape.height * shape.width)) MosaicLength
