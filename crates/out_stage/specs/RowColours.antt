-- Whether a row has red or blue, what the next row has, and the colours of a green site's neighbours. Assumes nothing.
use Rattle.std.specs.Prelude.{◌≡◌, refl, cond, ℕ, zero, suc, ◌+◌, ◌/◌, ◌%◌, ◌≤◌, eqb, ℤ, pos}
use Rattle.std.proofs.Common.{◌∙◌, arith}
use Rattle.std.proofs.Math.IntN.{nat_abs}
use Rattle.frame.specs.Sites.{red, blue, colour, around}
use Rattle.frame.specs.Colours.{trade}
use Rattle.frame.proofs.Colours.{colour_parity, colour_around}
use Rattle.positions.specs.HalfRows.{chroma_start}
use Rattle.records.specs.SiteColours.{row_colour, chroma_colour}

pub row_red : (p i : ℕ) → (i + p / 2) % 2 ≡ 0 → row_colour p i ≡ red
unfolding row_colour
row_red p i e = rw e

pub row_blue : (p i : ℕ) → ¬ ((i + p / 2) % 2 ≡ 0) → row_colour p i ≡ blue
unfolding row_colour
row_blue p i h = let e : (i + p / 2) % 2 ≡ 1 = omega (arith, h) in rw e

row_next : (p i : ℕ) → row_colour p (i + 1) ≡ trade (row_colour p i)
unfolding row_colour
row_next p i = go ((i + p / 2) % 2) refl
  where
    go : (a : ℕ) → (i + p / 2) % 2 ≡ a
        → cond (eqb ((i + 1 + p / 2) % 2) 0) red blue ≡ trade (cond (eqb ((i + p / 2) % 2) 0) red blue)
    go zero e = let b : (i + 1 + p / 2) % 2 ≡ 1 = omega arith in rw (e, b)
    go (suc zero) e = let b : (i + 1 + p / 2) % 2 ≡ 0 = omega arith in rw (e, b)
    go (suc (suc a)) e = absurd (omega arith)

-- ---- beside a green site stands the row's colour, above and below it the other of red and blue
module _ (H W p i j : ℕ) (tall : 2 ≤ H) (wide : 2 ≤ W) (h : ¬ (j % 2 ≡ chroma_start p i)) where
  pub beside_colour : (o : ℤ) → nat_abs o ≡ 1 → around H W (colour p) i j (pos 0) o ≡ row_colour p i
  unfolding chroma_start
  beside_colour o e =
      colour_around H W p i j (pos 0) o tall wide
      ∙ (colour_parity p (i + 0) (j + nat_abs o) i (j + 1) (omega arith) (omega arith) ∙ chroma_colour p i (j + 1) (omega (arith, h)))

  pub off_colour : (o : ℤ) → nat_abs o ≡ 1 → around H W (colour p) i j o (pos 0) ≡ trade (row_colour p i)
  unfolding chroma_start
  off_colour o e =
      colour_around H W p i j o (pos 0) tall wide
      ∙ (colour_parity p (i + nat_abs o) (j + 0) (i + 1) j (omega arith) (omega arith) ∙ (chroma_colour p (i + 1) j (omega (arith, h)) ∙ row_next p i))
