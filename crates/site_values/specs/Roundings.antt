-- The roundings of the last steps, as the code forms them. Assumes nothing.
use Rattle.std.specs.Prelude.{◌≡◌, ℕ, ◌+◌, ◌*◌, ◌/◌, ◌%◌, ◌<◌, ◌≤◌, ℤ, pos, ◌+ℤ◌, ◌-ℤ◌, ◌*ℤ◌, ◌≤ℤ◌, ◌<ℤ◌}
use Rattle.std.proofs.Common.{sym, div-add-mod', mod-lt, arith}
use Rattle.std.specs.Int.Signed.{shr_z}
use Rattle.toolkit.specs.Differences.{as_difference}
use Rattle.toolkit.specs.Orders.{to_naturals}
use Rattle.toolkit.specs.Rounding.{floor_div, floor_low, floor_high, round_half_up, round_is}
use Rattle.method.specs.Settings.{fusion_share}
use Rattle.method.specs.Planes.{inner_round, fused}

-- ---- round(q/4) is ⌊(q + 2)/4⌋
pub quarter : (q : ℤ) → shr_z (q +ℤ pos 2) 4 ≡ round_half_up q 4
quarter q = sym (round_is q (floor_div (q +ℤ pos 2) 4) 4 (omega arith)
    (low q (floor_div (q +ℤ pos 2) 4) (floor_low (q +ℤ pos 2) 4 (omega arith)))
    (high q (floor_div (q +ℤ pos 2) 4) (floor_high (q +ℤ pos 2) 4 (omega arith))))
  where
    low : (q r : ℤ) → (r *ℤ pos 4) ≤ℤ (q +ℤ pos 2) → (pos 8 *ℤ r) ≤ℤ (pos 2 *ℤ q +ℤ pos 4)
    low q r = rw (as_difference q, as_difference r) (simp to_naturals (omega arith))

    high : (q r : ℤ) → (q +ℤ pos 2) <ℤ (r *ℤ pos 4 +ℤ pos 4) → (pos 2 *ℤ q +ℤ pos 4) <ℤ (pos 8 *ℤ r +ℤ pos 8)
    high q r = rw (as_difference q, as_difference r) (simp to_naturals (omega arith))

-- ---- round(n/200) is ⌊(n + 100)/200⌋, of an n that is lifted by 200·16,384
two_hundredth : (n : ℤ) (u : ℕ) → pos u ≡ n +ℤ pos 3276800 → pos ((u + 100) / 200) -ℤ pos 16384 ≡ round_half_up n 200
two_hundredth n u e =
    sym (round_is n (pos ((u + 100) / 200) -ℤ pos 16384) 200 (omega arith)
    (low n ((u + 100) / 200) ((u + 100) % 200) e (div-add-mod' (u + 100) 200))
    (high n ((u + 100) / 200) ((u + 100) % 200) e (div-add-mod' (u + 100) 200) (mod-lt (u + 100) (omega arith))))
  where
    low : (n : ℤ) (q r : ℕ) → pos u ≡ n +ℤ pos 3276800 → q * 200 + r ≡ u + 100
        → (pos 400 *ℤ (pos q -ℤ pos 16384)) ≤ℤ (pos 2 *ℤ n +ℤ pos 200)
    low n q r = rw (as_difference n) (simp to_naturals (omega arith))

    high : (n : ℤ) (q r : ℕ) → pos u ≡ n +ℤ pos 3276800 → q * 200 + r ≡ u + 100 → r < 200
        → (pos 2 *ℤ n +ℤ pos 200) <ℤ (pos 400 *ℤ (pos q -ℤ pos 16384) +ℤ pos 400)
    high n q r = rw (as_difference n) (simp to_naturals (omega arith))

pub fused_is : (d m : ℤ) (u : ℕ) → pos u ≡ pos 33 *ℤ d +ℤ pos 67 *ℤ m +ℤ pos 3276800 → pos ((u + 100) / 200) -ℤ pos 16384 ≡ fused fusion_share d m
unfolding fused inner_round fusion_share
fused_is d m u e = two_hundredth (pos 33 *ℤ d +ℤ pos 67 *ℤ m) u e

pub quotient_most : (u : ℕ) → u ≤ 6553600 → (u + 100) / 200 ≤ 32768
quotient_most u h = omega (arith, div-add-mod' (u + 100) 200)

-- ---- the shares of two numbers that are lifted by 32,768
pub shares_are : (d m : ℤ) (a b : ℕ) → pos a ≡ d +ℤ pos 32768 → pos b ≡ m +ℤ pos 32768
    → pos (33 * a + 67 * b) ≡ pos 33 *ℤ d +ℤ pos 67 *ℤ m +ℤ pos 3276800
shares_are d m a b = rw (as_difference d, as_difference m) (simp to_naturals (omega arith))
