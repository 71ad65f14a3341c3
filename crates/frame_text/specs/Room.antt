-- How much room the text takes: a heading of 23 bytes and at most 25 for each of 1,024 sites. Assumes nothing.
use Rattle.std.specs.Prelude.{◌≡◌, List, ℕ, zero, suc, ◌+◌, ◌*◌, ◌/◌, ◌%◌, ◌<◌, ◌≤◌, ltb, ℤ, length}
use Rattle.std.proofs.Common.{div-le_self, arith, length-append}
use Rattle.std.proofs.Math.Nat.{mod-le}
use Rattle.toolkit.specs.Tests.{by_test, ltb_lt, ltb_ge}
use Rattle.frame_file.specs.Lists.{joined}
use Rattle.printing.specs.Printing.{heading}
use Rattle.text.specs.Lines.{site_line_short}
use Rattle.frame_text.specs.PlanesText.{planes_line, text_of_planes, ClampedNumbers}

-- 23 + 1,024 · 25
abbrev pub text_room : ℕ
text_room = 25623

joined_short : (n most : ℕ) (piece : ℕ → List ℕ) → ((k : ℕ) → k < n → length (piece k) ≤ most) → length (joined n piece) ≤ most * n
unfolding joined
joined_short zero most piece each = omega arith
joined_short (suc n) most piece each =
    omega (arith, length-append (joined n piece) (piece n), joined_short n most piece (λ k h. each k (omega arith)), each n (omega arith))

-- fewer pieces are no longer
pub joined_longer : (n k : ℕ) (piece : ℕ → List ℕ) → k < n → length (joined k piece) + length (piece k) ≤ length (joined n piece)
unfolding joined
joined_longer zero k piece h = absurd (omega arith)
joined_longer (suc n) k piece h = by_test (ltb k n) _
    (λ t. omega (arith, length-append (joined n piece) (piece n), joined_longer n k piece (ltb_lt _ _ t)))
    (λ t. let e : k ≡ n = omega (arith, ltb_ge k n t) in rw e (omega (arith, length-append (joined n piece) (piece n))))

pub planes_text_fits : (W : ℕ) (r g b : List ℤ) → ClampedNumbers r → ClampedNumbers g → ClampedNumbers b → length r ≤ 1024
    → length (text_of_planes W r g b) ≤ text_room
unfolding text_of_planes planes_line heading
planes_text_fits W r g b cr cg cb few =
    omega (
      arith,
      length-append heading (joined (length r) (planes_line W r g b)),
      joined_short (length r) 25 (planes_line W r g b)
          (λ k h. site_line_short (k / W) (k % W) _ _ _ (omega (arith, div-le_self k W)) (omega (arith, mod-le k W)) (omega (arith, cr.high k))
          (omega (arith, cg.high k)) (omega (arith, cb.high k))),
    )
