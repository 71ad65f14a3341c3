-- What holds of a shape that passes numbers 1 and 2, and of a count that passes 3. Assumes nothing.
use Rattle.answers.specs.Calls.{no_refusal}
use Rattle.std.specs.Prelude.{◌≡◌, ℕ, ◌*◌, ◌≤◌}
use Rattle.std.proofs.Common.{mul-le-mul, arith}
use Rattle.toolkit.specs.Tests.{holds, leb_le, eqb_eq, and_true}
use Rattle.frame.specs.declared.Shape.{Shape}
use Rattle.answers.specs.declared.Refusal.TheVariants.{Size, Phase, MosaicLength}
use Rattle.frame.specs.Sites.{side_allowed, phase_allowed}
use Rattle.answers.proofs.Admission.{test_done, in_order_done}
use Rattle.frame.proofs.Sites.{side_high}
use Rattle.admission.specs.ShapeTest.{shape_answer, count_answer}

pub record Allowed (shape : Shape) : Type 0 where
  pub width : shape.width ≤ 4096
  pub height : shape.height ≤ 4096
  pub phase : shape.phase ≤ 3

pub shape_passes : (shape : Shape) → shape_answer shape ≡ no_refusal → Allowed shape
unfolding shape_answer phase_allowed
shape_passes shape e =
    let (sides, (phase, end)) = in_order_done _ e in
    let both = and_true (side_allowed shape.width) (side_allowed shape.height) (test_done _ Size sides) in
    record {
      width = side_high (holds both.0);
      height = side_high (holds both.1);
      phase = leb_le _ 3 (test_done _ Phase phase);
    }

pub count_passes : (shape : Shape) (count : ℕ) → count_answer shape count ≡ no_refusal → count ≡ shape.height * shape.width
unfolding count_answer
count_passes shape count e = eqb_eq _ _ (test_done _ MosaicLength e)

-- W·H of such a shape
pub count_most : (shape : Shape) (count : ℕ) → shape_answer shape ≡ no_refusal → count_answer shape count ≡ no_refusal → count ≤ 16777216
count_most shape count s e =
    let a = shape_passes shape s in
    omega (arith, count_passes shape count e, mul-le-mul a.height a.width)
