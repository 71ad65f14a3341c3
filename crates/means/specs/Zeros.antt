-- "if some gradients are 0, only their values count, equally": the mean of those values, as the code forms it. Assumes nothing.
use Rattle.std.specs.Prelude.{◌≡◌, refl, List, ℕ, zero, suc, ◌+◌, ◌*◌, ◌<◌, ◌≤◌, get_or, ℤ, pos}
use Rattle.std.proofs.Common.{mul-le-mul, arith}
use Rattle.toolkit.specs.Rounding.{round_half_up}
use Rattle.toolkit.specs.Tests.{ltb_yes}
use Rattle.method.specs.Gradients.{FourDirections}
use Rattle.method.specs.Planes.{inner_round, one_if_zero, count_zeros, weight, weights, times, sum_of_four, weighted_sum, total, weighted_mean}
use Rattle.method.specs.Sizes.{AtMost}
use Rattle.means.specs.Naturals.{numbers, signed}
use Rattle.means.specs.Products.{zero_counts, other_counts_not, same_quotient}

-- some gradient is 0
pub record ZerosFit (v g : List ℕ) : Type 0 where
  pub values : AtMost 65535 (numbers v)
  pub some_zero : 0 < count_zeros (numbers g)

pub counts_zero : {g : ℕ} → g ≡ 0 → 1 ≡ one_if_zero g
counts_zero e = rw (e, zero_counts)

pub counts_other : {g : ℕ} → ¬ (g ≡ 0) → 0 ≡ one_if_zero g
counts_other {g = zero} h = absurd (h refl)
counts_other {g = suc g} h = rw (other_counts_not g)

pub zeros_mean : (v g : FourDirections ℕ) → 0 < count_zeros g
    → round_half_up
    (pos (one_if_zero g.east * v.east + one_if_zero g.west * v.west
    + (one_if_zero g.south * v.south + one_if_zero g.north * v.north)))
    (count_zeros g) ≡
    weighted_mean (signed v) g
unfolding weighted_mean inner_round weighted_sum sum_of_four times total weights weight count_zeros
zeros_mean v g h = rw (ltb_yes h) (same_quotient _ _ _ _ (omega arith) refl)

-- two values, each counted or not
pair_most : (e w x y : ℕ) → e ≤ 1 → w ≤ 1 → x ≤ 65535 → y ≤ 65535 → e * x + w * y ≤ 131070
pair_most e w x y p q r s = omega (arith, mul-le-mul p r, mul-le-mul q s)

-- e, w, s and n are 1 for a gradient of 0, 0 for any other
pub record Ones (g : List ℕ) (e w s n : ℕ) : Type 0 where
  pub east : (e ≡ one_if_zero (get_or g 0 0)) × (e ≤ 1)
  pub west : (w ≡ one_if_zero (get_or g 1 0)) × (w ≤ 1)
  pub south : (s ≡ one_if_zero (get_or g 2 0)) × (s ≤ 1)
  pub north : (n ≡ one_if_zero (get_or g 3 0)) × (n ≤ 1)

module _ (v g : List ℕ) {e w s n : ℕ} (fit : ZerosFit v g) (ones : Ones g e w s n) where
  pub across_most : e * get_or v 0 0 + w * get_or v 1 0 ≤ 131070
  across_most = pair_most _ _ _ _ ones.east.1 ones.west.1 fit.values.east_most fit.values.west_most

  pub down_most : s * get_or v 2 0 + n * get_or v 3 0 ≤ 131070
  down_most = pair_most _ _ _ _ ones.south.1 ones.north.1 fit.values.south_most fit.values.north_most

  pub count_above : 0 < e + w + s + n
  unfolding count_zeros
  count_above = omega (arith, ones.east.0, ones.west.0, ones.south.0, ones.north.0, fit.some_zero)

  pub mean_is : {a b : ℕ} {z : ℤ} → z ≡ round_half_up (pos (a + b)) (e + w + s + n) → a ≡ e * get_or v 0 0 + w * get_or v 1 0
      → b ≡ s * get_or v 2 0 + n * get_or v 3 0
      → z ≡ weighted_mean (signed (numbers v)) (numbers g)
  unfolding count_zeros
  mean_is r p q =
      rw (r, p, q, ones.east.0, ones.west.0, ones.south.0, ones.north.0) (zeros_mean (numbers v) (numbers g) fit.some_zero)
