-- How far each step of the method reads around a site. Assumes nothing.
use Rattle.std.specs.Prelude.{◌≡◌, ℕ, zero, suc, ◌+◌, ◌*◌, ◌≤◌, ℤ, negsuc, neg_ℤ, nat_abs, ◌+ℤ◌, ◌-ℤ◌, ◌*ℤ◌}
use Rattle.std.proofs.Math.Path.{refl}
use Rattle.std.proofs.Common.{ap, arith}
use Rattle.std.proofs.Math.IntN.{pos}
use Rattle.toolkit.specs.Orders.{to_naturals}
use Rattle.frame.specs.Sites.{Around}
use Rattle.frame.specs.InnerSites.{margin}
use Rattle.method.specs.Settings.{reach}
use Rattle.method.specs.Gradients.{exchanged, six_tap, six_tap_pair, eastbound, east_gradient, west_gradient, gradients}
use Rattle.method.specs.Green.{Direction, horizontal, vertical, diagonal, horizontal_estimate, estimate, sum_about, column_sum, horizontal_sum, vertical_sum, diagonal_sum, second_pass}
use Rattle.method.specs.Planes.{straight, diagonally, corners}
use Rattle.inner_sites.specs.Distances.{AlikeTo, Reads, gradient_distance, second_pass_distance, enhancement_distance, corner_distance, neighbour_distance, differences_off, finals_off, greens_off, trials_off, reading_distance}

-- ---- the gradients and the estimates of green

-- the six columns of s lie no farther off than gradients read
abbrev SixNear : ℤ → Type 0
SixNear c =
    (nat_abs (c -ℤ pos 2) ≤ gradient_distance) × (nat_abs (c -ℤ pos 1) ≤ gradient_distance) × (nat_abs c ≤ gradient_distance)
    × (nat_abs (c +ℤ pos 1) ≤ gradient_distance) × (nat_abs (c +ℤ pos 2) ≤ gradient_distance) × (nat_abs (c +ℤ pos 3) ≤ gradient_distance)

module _ (N N' : Around ℤ) (same : AlikeTo gradient_distance N N') where
  six_tap_alike : (r c : ℤ) → nat_abs r ≤ gradient_distance → SixNear c → six_tap N r c ≡ six_tap N' r c
  unfolding six_tap
  six_tap_alike r c h n =
      rw (same r _ h n.0, same r _ h n.1, same r _ h n.2, same r _ h n.3, same r _ h n.4, same r _ h n.5) refl

  pair_alike : (r c : ℤ) → nat_abs r ≤ gradient_distance → SixNear c → SixNear (c +ℤ pos 1) → six_tap_pair N r c ≡ six_tap_pair N' r c
  unfolding six_tap_pair
  pair_alike r c h a b = rw (six_tap_alike r c h a, six_tap_alike r (c +ℤ pos 1) h b) refl

  eastbound_alike : (c : ℤ) → SixNear c → SixNear (c +ℤ pos 1) → eastbound N c ≡ eastbound N' c
  unfolding eastbound gradient_distance
  eastbound_alike c a b =
      rw (
        same (pos 0) c (omega arith) a.2,
        same (pos 0) (c +ℤ pos 2) (omega arith) a.4,
        pair_alike (pos 0) c (omega arith) a b,
        pair_alike (neg_ℤ (pos 1)) c (omega arith) a b,
        pair_alike (pos 1) c (omega arith) a b,
      ) refl

  east_alike : east_gradient N ≡ east_gradient N'
  unfolding east_gradient gradient_distance
  east_alike = eastbound_alike (pos 0) (omega arith) (omega arith)

  west_alike : west_gradient N ≡ west_gradient N'
  unfolding west_gradient gradient_distance
  west_alike = eastbound_alike (neg_ℤ (pos 2)) (omega arith) (omega arith)

  horizontal_alike : horizontal_estimate N ≡ horizontal_estimate N'
  unfolding horizontal_estimate gradient_distance
  horizontal_alike =
      rw (
        same (pos 0) (neg_ℤ (pos 1)) (omega arith) (omega arith),
        same (pos 0) (pos 1) (omega arith) (omega arith),
        same (pos 0) (pos 0) (omega arith) (omega arith),
        same (pos 0) (neg_ℤ (pos 2)) (omega arith) (omega arith),
        same (pos 0) (pos 2) (omega arith) (omega arith),
      ) refl

pub gradients_read : Reads gradient_distance gradients
unfolding gradients
gradients_read N N' same =
    let turned : AlikeTo gradient_distance (exchanged N) (exchanged N') = λ r c h k. same c r k h in
    rw (
      east_alike N N' same,
      west_alike N N' same,
      east_alike (exchanged N) (exchanged N') turned,
      west_alike (exchanged N) (exchanged N') turned,
    ) refl

pub estimates_read : (k : Direction) → Reads gradient_distance (estimate k)
unfolding estimate
estimates_read horizontal N N' same = horizontal_alike N N' same
estimates_read vertical N N' same = horizontal_alike (exchanged N) (exchanged N') (λ r c h k. same c r k h)
estimates_read diagonal N N' same =
    rw (horizontal_alike N N' same, horizontal_alike (exchanged N) (exchanged N') (λ r c h k. same c r k h)) refl

-- ---- the second pass: 2·t columns or rows off, t to the reach

sum_alike : (n : ℕ) (f g : ℤ → ℕ) → ((t : ℤ) → nat_abs t ≤ n → f t ≡ g t) → sum_about n f ≡ sum_about n g
unfolding sum_about
sum_alike zero f g e = e (pos 0) (omega arith)
sum_alike (suc n) f g e =
    rw (e (negsuc n) (omega arith), e (pos (suc n)) (omega arith), sum_alike n f g (λ t h. e t (omega arith))) refl

twice : (t : ℤ) → nat_abs (pos 2 *ℤ t) ≡ 2 * nat_abs t
twice (pos n) = refl
twice (negsuc n) = simp to_naturals (omega arith)

module _ (n : ℕ) (N N' : Around ℤ) (same : AlikeTo (second_pass_distance n) N N') where
  column_sum_alike : column_sum n N ≡ column_sum n N'
  unfolding column_sum second_pass_distance
  column_sum_alike = sum_alike n _ _ λ t h.
      rw (same (pos 0) (pos 0) (omega arith) (omega arith), same (pos 0) (pos 2 *ℤ t) (omega arith) (omega (arith, twice t))) refl

pub second_pass_read : (n : ℕ) → Reads (second_pass_distance n) (λ (N : Around (Direction → ℤ)). second_pass n (λ k r c. N r c k))
unfolding second_pass horizontal_sum vertical_sum diagonal_sum
second_pass_read n N N' same =
    rw (
      column_sum_alike n (λ r c. N r c horizontal) (λ r c. N' r c horizontal) (along horizontal),
      column_sum_alike n (λ r c. N c r vertical) (λ r c. N' c r vertical) (down vertical),
      column_sum_alike n (λ r c. N r c diagonal) (λ r c. N' r c diagonal) (along diagonal),
      column_sum_alike n (λ r c. N c r diagonal) (λ r c. N' c r diagonal) (down diagonal),
    ) refl
  where
    along : (k : Direction) → AlikeTo (second_pass_distance n) (λ r c. N r c k) (λ r c. N' r c k)
    along k r c h l = ap (λ (q : Direction → ℤ). q k) (same r c h l)

    down : (k : Direction) → AlikeTo (second_pass_distance n) (λ r c. N c r k) (λ r c. N' c r k)
    down k r c h l = along k c r l h

-- ---- what stands straight or diagonally off

abs_neg : (k : ℕ) → nat_abs (neg_ℤ (pos k)) ≡ k
abs_neg k = simp to_naturals (omega arith)

pub straight_reads : {X : Type 0} (k : ℕ) → Reads {X = X} k (straight k)
unfolding straight
straight_reads k N N' same =
    rw (
      same (pos 0) (pos k) (omega arith) (omega arith),
      same (pos 0) (neg_ℤ (pos k)) (omega arith) (omega (arith, abs_neg k)),
      same (pos k) (pos 0) (omega arith) (omega arith),
      same (neg_ℤ (pos k)) (pos 0) (omega (arith, abs_neg k)) (omega arith),
    ) refl

pub corners_read : {X : Type 0} → Reads {X = X} corner_distance corners
unfolding corner_distance corners diagonally
corners_read N N' same =
    rw (
      same (neg_ℤ (pos 1)) (pos 1) (omega arith) (omega arith),
      same (neg_ℤ (pos 1)) (neg_ℤ (pos 1)) (omega arith) (omega arith),
      same (pos 1) (pos 1) (omega arith) (omega arith),
      same (pos 1) (neg_ℤ (pos 1)) (omega arith) (omega arith),
    ) refl

-- ---- how far each of them is read for a site, in figures

-- for every reach
pub twice_and_eight : (n : ℕ) → reading_distance n ≡ 2 * n + 8
unfolding reading_distance trials_off greens_off finals_off differences_off neighbour_distance corner_distance enhancement_distance second_pass_distance gradient_distance
twice_and_eight n = omega arith

-- for that of every frame
pub distances_in_figures : (differences_off ≡ 1) × (finals_off ≡ 2) × (greens_off ≡ 4) × (trials_off reach ≡ 10) × (reading_distance reach ≡ 14)
unfolding reading_distance trials_off greens_off finals_off differences_off neighbour_distance corner_distance enhancement_distance second_pass_distance gradient_distance reach
distances_in_figures = (refl, refl, refl, refl, refl)

-- the request's bound leaves room for all of it, whatever the reach
pub within_margin : (n : ℕ) → n ≤ 4 → reading_distance n ≤ margin
within_margin n h = omega (arith, twice_and_eight n)
