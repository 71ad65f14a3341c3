-- The colour of a row's red or blue sites, and of its other sites. Assumes nothing.
use Rattle.std.specs.Prelude.{◌≡◌, refl, cond, false, ℕ, zero, suc, ◌+◌, ◌*◌, ◌/◌, ◌%◌, eqb}
use Rattle.std.proofs.Common.{true≢false, arith}
use Rattle.toolkit.specs.Tests.{by_test}
use Rattle.frame.specs.Sites.{Colour, red, green, blue, rggb, colour}
use Rattle.frame.specs.Colours.{trade, is_green}
use Rattle.method.specs.Planes.{same}
use Rattle.positions.specs.HalfRows.{chroma_start}
use Rattle.positions.specs.HalfRowLaws.{chroma_small}

-- which of red and blue row i has
unfoldable pub row_colour : ℕ → ℕ → Colour
row_colour p i = cond (eqb ((i + p / 2) % 2) 0) red blue

pub row_not_green : (p i : ℕ) → is_green (row_colour p i) ≡ false
unfolding row_colour
row_not_green p i = by_test (eqb ((i + p / 2) % 2) 0) _ (λ t. rw t) (λ t. rw t)

-- the first half of a row
pub chroma_colour : (p i j : ℕ) → j % 2 ≡ chroma_start p i → colour p i j ≡ row_colour p i
unfolding colour rggb chroma_start row_colour
chroma_colour p i j h = go ((i + p / 2) % 2) refl
  where
    go : (a : ℕ) → (i + p / 2) % 2 ≡ a → rggb (i + p / 2) (j + p % 2) ≡ cond (eqb ((i + p / 2) % 2) 0) red blue
    go zero e = let b : (j + p % 2) % 2 ≡ 0 = omega arith in rw (e, b)
    go (suc zero) e = let b : (j + p % 2) % 2 ≡ 1 = omega arith in rw (e, b)
    go (suc (suc a)) e = absurd (omega arith)

-- the second half
pub second_half_green : (p i j : ℕ) → ¬ (j % 2 ≡ chroma_start p i) → colour p i j ≡ green
unfolding colour rggb chroma_start
second_half_green p i j h = go ((i + p / 2) % 2) ((j + p % 2) % 2) refl refl
  where
    go : (a b : ℕ) → (i + p / 2) % 2 ≡ a → (j + p % 2) % 2 ≡ b → rggb (i + p / 2) (j + p % 2) ≡ green
    go zero zero e f = absurd (h (omega arith))
    go zero (suc zero) e f = rw (e, f)
    go (suc zero) zero e f = rw (e, f)
    go (suc zero) (suc zero) e f = absurd (h (omega arith))
    go (suc (suc a)) b e f = absurd (omega arith)
    go zero (suc (suc b)) e f = absurd (omega arith)
    go (suc zero) (suc (suc b)) e f = absurd (omega arith)

-- a colour other than green is not its traded one
not_traded : (c : Colour) → is_green c ≡ false → same c (trade c) ≡ false
not_traded red e = refl
not_traded green e = absurd (true≢false e)
not_traded blue e = refl

-- a red or blue site is not of the other colour
pub chroma_not_traded : (p i c k : ℕ) → c ≡ chroma_start p i → same (colour p i (c + 2 * k)) (trade (colour p i (c + 2 * k))) ≡ false
chroma_not_traded p i c k e =
    rw (chroma_colour p i (c + 2 * k) (omega (arith, chroma_small p i))) (not_traded (row_colour p i) (row_not_green p i))
