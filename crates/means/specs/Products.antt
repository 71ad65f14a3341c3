-- The mean by products, as the code forms it. All weights are times the product of the four gradients, so that each is the product of
-- the other three; where the sum of the weights is 0, two gradients or more are 0, and the values of those alone count. Assumes nothing.
use Rattle.std.specs.Prelude.{◌≡◌, refl, List, ℕ, zero, suc, ◌+◌, ◌*◌, ◌/◌, ◌^◌, ◌<◌, ◌≤◌, eqb, get_or, ℤ, pos, ◌+ℤ◌, ◌*ℤ◌, ◌≤ℤ◌, ◌<ℤ◌}
use Rattle.std.proofs.Common.{sym, ◌∙◌, mul-le-mul, div-add-mod', mod-lt, arith}
use Rattle.toolkit.specs.Orders.{to_naturals}
use Rattle.toolkit.specs.Rounding.{round_half_up, round_is}
use Rattle.toolkit.specs.Tests.{by_test, eqb_eq}
use Rattle.method.specs.Gradients.{FourDirections}
use Rattle.method.specs.Planes.{inner_round, one_if_zero, count_zeros, weight, weights, times, sum_of_four, weighted_sum, total, weighted_mean}
use Rattle.method.specs.Sizes.{AtMost}
use Rattle.method.proofs.Sizes.{weaker}
use Rattle.means.specs.Naturals.{numbers, signed, NaturalMeanFits}

abbrev four : ℕ → ℕ → ℕ → ℕ → FourDirections ℕ
four e w s n = record { east = e; west = w; south = s; north = n }

abbrev pub numerator : FourDirections ℕ → FourDirections ℕ → ℕ
numerator v g =
    (v.east * g.west + v.west * g.east) * (g.south * g.north)
    + (v.south * g.north + v.north * g.south) * (g.east * g.west)

abbrev pub denominator : FourDirections ℕ → ℕ
denominator g = (g.east + g.west) * (g.south * g.north) + (g.south + g.north) * (g.east * g.west)

-- ---- rounding

-- as the code rounds
pub natural_round : (n d : ℕ) → 0 < d → pos ((n + d / 2) / d) ≡ round_half_up (pos n) d
natural_round n d h = sym (round_is (pos n) (pos ((n + d / 2) / d)) d h low high)
  where
    low : (pos (2 * d) *ℤ pos ((n + d / 2) / d)) ≤ℤ (pos 2 *ℤ pos n +ℤ pos d)
    low = simp to_naturals (omega (arith, div-add-mod' (n + d / 2) d))

    high : (pos 2 *ℤ pos n +ℤ pos d) <ℤ (pos (2 * d) *ℤ pos ((n + d / 2) / d) +ℤ pos (2 * d))
    high = simp to_naturals (omega (arith, div-add-mod' (n + d / 2) d, mod-lt (n + d / 2) h))

-- a whole quotient
round_whole : (n k d : ℕ) → 0 < d → n ≡ k * d → round_half_up (pos n) d ≡ pos k
round_whole n k d h e = round_is (pos n) (pos k) d h low high
  where
    low : (pos (2 * d) *ℤ pos k) ≤ℤ (pos 2 *ℤ pos n +ℤ pos d)
    low = simp to_naturals (omega arith)

    high : (pos 2 *ℤ pos n +ℤ pos d) <ℤ (pos (2 * d) *ℤ pos k +ℤ pos (2 * d))
    high = simp to_naturals (omega arith)

-- one value alone
alone : (k n d m : ℕ) → 0 < d → n ≡ k * d → m ≡ k * 1 → round_half_up (pos n) d ≡ round_half_up (pos m) 1
alone k n d m h p q = round_whole n k d h p ∙ sym (round_whole m k 1 (omega arith) q)

pub same_quotient : (n m d e : ℕ) → n ≡ m → d ≡ e → round_half_up (pos n) d ≡ round_half_up (pos m) e
same_quotient n m d e p q = rw (p, q)

-- ---- the law

pub zero_counts : one_if_zero 0 ≡ 1
unfolding one_if_zero
zero_counts = refl

pub other_counts_not : (x : ℕ) → one_if_zero (suc x) ≡ 0
unfolding one_if_zero
other_counts_not x = by_test (eqb (suc x) 0) _ (λ t. absurd (above (eqb_eq _ _ t))) (λ t. rw t refl)
  where
    above : suc x ≡ 0 → ⊥
    above e = omega arith

by_products : (a b c d e w s n : ℕ) → 0 < denominator (four e w s n)
    → round_half_up (pos (numerator (four a b c d) (four e w s n))) (denominator (four e w s n)) ≡
    weighted_mean (signed (four a b c d)) (four e w s n)
unfolding weighted_mean inner_round weighted_sum sum_of_four times total weights weight count_zeros
by_products a b c d zero zero s n h = absurd (omega arith)
by_products a b c d zero (suc w) zero n h = absurd (omega arith)
by_products a b c d zero (suc w) (suc s) zero h = absurd (omega arith)
by_products a b c d (suc e) zero zero n h = absurd (omega arith)
by_products a b c d (suc e) zero (suc s) zero h = absurd (omega arith)
by_products a b c d (suc e) (suc w) zero zero h = absurd (omega arith)
by_products a b c d zero (suc w) (suc s) (suc n) h =
    simp (zero_counts, other_counts_not) (alone a _ _ _ h (omega arith) (omega arith))
by_products a b c d (suc e) zero (suc s) (suc n) h =
    simp (zero_counts, other_counts_not) (alone b _ _ _ h (omega arith) (omega arith))
by_products a b c d (suc e) (suc w) zero (suc n) h =
    simp (zero_counts, other_counts_not) (alone c _ _ _ h (omega arith) (omega arith))
by_products a b c d (suc e) (suc w) (suc s) zero h =
    simp (zero_counts, other_counts_not) (alone d _ _ _ h (omega arith) (omega arith))
by_products a b c d (suc e) (suc w) (suc s) (suc n) h =
    simp (zero_counts, other_counts_not) (same_quotient _ _ _ _ (omega arith) (omega arith))

pub products_mean : (v g : FourDirections ℕ) → 0 < denominator g
    → round_half_up (pos (numerator v g)) (denominator g) ≡ weighted_mean (signed v) g
products_mean v g h = by_products _ _ _ _ _ _ _ _ h

-- ---- gradients of 0

zeros_of : (e w s n : ℕ) → denominator (four e w s n) ≡ 0 → 0 < count_zeros (four e w s n)
unfolding count_zeros one_if_zero
zeros_of zero w s n h = omega arith
zeros_of (suc e) zero s n h = omega arith
zeros_of (suc e) (suc w) zero n h = omega arith
zeros_of (suc e) (suc w) (suc s) zero h = omega arith
zeros_of (suc e) (suc w) (suc s) (suc n) h = absurd (omega arith)

pub some_zero : (g : FourDirections ℕ) → denominator g ≡ 0 → 0 < count_zeros g
some_zero g h = zeros_of _ _ _ _ h

-- ---- the sums fit a u64

product_below : (x y : ℕ) → x ≤ 81856 → y ≤ 81856 → x * y < 2 ^ 64
product_below x y p q = omega (arith, mul-le-mul p q)

pair_most : (x y z u a b : ℕ) → x ≤ a → y ≤ b → z ≤ a → u ≤ b → x * y + z * u ≤ 2 * (a * b)
pair_most x y z u a b p q r s = omega (arith, mul-le-mul p q, mul-le-mul r s)

pair_below : (x y z u : ℕ) → x ≤ 65535 → y ≤ 81856 → z ≤ 65535 → u ≤ 81856 → x * y + z * u < 2 ^ 64
pair_below x y z u p q r s = omega (arith, mul-le-mul p q, mul-le-mul r s)

sum_most : (x y b : ℕ) → x ≤ b → y ≤ b → x + y ≤ 2 * b
sum_most x y b p q = omega arith

module _ (v g : List ℕ) (r : NaturalMeanFits v g) where
  abbrev values : AtMost 65535 (numbers v)
  values = weaker r.value_most r.values

  abbrev gradients : AtMost 81856 (numbers g)
  gradients = weaker r.gradient_most r.gradients

  pub across_below : get_or g 0 0 * get_or g 1 0 < 2 ^ 64
  across_below = product_below _ _ gradients.east_most gradients.west_most

  pub down_below : get_or g 2 0 * get_or g 3 0 < 2 ^ 64
  down_below = product_below _ _ gradients.south_most gradients.north_most

  pub values_across_below : get_or v 0 0 * get_or g 1 0 + get_or v 1 0 * get_or g 0 0 < 2 ^ 64
  values_across_below = pair_below _ _ _ _ values.east_most gradients.west_most values.west_most gradients.east_most

  pub values_down_below : get_or v 2 0 * get_or g 3 0 + get_or v 3 0 * get_or g 2 0 < 2 ^ 64
  values_down_below = pair_below _ _ _ _ values.south_most gradients.north_most values.north_most gradients.south_most

  pub quotient_below : numerator (numbers v) (numbers g) + denominator (numbers g) < 2 ^ 64
  quotient_below =
      let g0 = r.gradients.east_most in
      let g1 = r.gradients.west_most in
      let g2 = r.gradients.south_most in
      let g3 = r.gradients.north_most in
      let a = pair_most _ _ _ _ r.value r.gradient r.values.east_most g1 r.values.west_most g0 in
      let b = pair_most _ _ _ _ r.value r.gradient r.values.south_most g3 r.values.north_most g2 in
      let across = mul-le-mul g0 g1 in
      let down = mul-le-mul g2 g3 in
      let above = pair_most _ _ _ _ (2 * (r.value * r.gradient)) (r.gradient * r.gradient) a down b across in
      let below = pair_most _ _ _ _ (2 * r.gradient) (r.gradient * r.gradient) (sum_most _ _ _ g0 g1) down (sum_most _ _ _ g2 g3) across in
      together _ _ r.value r.gradient above below r.room
    where
      together : (x y a b : ℕ) → x ≤ 2 * (2 * (a * b) * (b * b)) → y ≤ 2 * (2 * b * (b * b))
          → (a + 1) * (b * (b * b)) ≤ 4600000000000000000 → x + y < 2 ^ 64
      together x y a b p q h = omega arith

-- ---- from what the code formed to the mean

pub same_sum : {a b x y : ℕ} (p q : ℕ) → a ≡ x → b ≡ y → a * p + b * q ≡ x * p + y * q
same_sum p q e f = cc

pub above_zero : {d : ℕ} → ¬ (d ≡ 0) → 0 < d
above_zero {d = zero} h = absurd (h refl)
above_zero {d = suc d} h = omega arith

pub same_round : {z : ℤ} {n m d e : ℕ} → z ≡ round_half_up (pos n) d → n ≡ m → d ≡ e → z ≡ round_half_up (pos m) e
same_round r p q = cc
