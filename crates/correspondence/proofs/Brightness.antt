-- A constant added to every sample is added to every output, and every decision stays: stage by stage. Assumes nothing.
use Rattle.std.specs.Prelude.{◌≡◌, ℕ, ◌+◌, ℤ, neg_ℤ, ◌+ℤ◌, ◌-ℤ◌, ◌*ℤ◌}
use Rattle.std.proofs.Common.{◌∙◌}
use Rattle.std.proofs.Math.Path.{ap, ap₂, fun_ext}
use native.Mathlib.Omega.{arith}
use Rattle.std.proofs.Math.IntN.{pos, nat_abs, *ℤ_comm}
use Rattle.toolkit.specs.Tests.{by_test}
use Rattle.toolkit.specs.Differences.{as_difference}
use Rattle.toolkit.specs.Orders.{to_naturals}
use Rattle.toolkit.specs.Rounding.{round_shift}
use Rattle.frame.specs.Sites.{Colour, green, Around, around}
use Rattle.method.specs.Settings.{Settings}
use Rattle.method.specs.Gradients.{Mosaic, around_in, samples_around, exchanged, apart, taps, six_tap, six_tap_pair, eastbound, east_gradient, west_gradient, gradients, gradients_at}
use Rattle.method.specs.Green.{Direction, horizontal, vertical, diagonal, line_estimate, horizontal_estimate, estimate, Outcome, first_pass, outcome_at, first_pass_or, green_or, less_eight, trial_difference, second_pass, second_pass_at, green_at, decision_code, chroma_decision_at, decision_at, decision_entry}
use Rattle.method.specs.Planes.{straight_gradients, mean_under, straight, green_difference, mean_two_off, final_difference, same, chroma_site_difference, colour_difference, green_quarters, quarters, final_round, output}
use Rattle.method.proofs.ColourLaws.{directions_path}
use Rattle.method.proofs.GreenLaws.{diagonal_is_whole, green_is_decided}
use Rattle.method.proofs.PlaneLaws.{same_fused}
use Rattle.correspondence.specs.Comparison.{trading}
use Rattle.correspondence.proofs.MosaicChanges.{Matches, Sides, around_changed}

-- ---- one site

-- every sample around it k more
abbrev brighter_around : ℤ → Around ℤ → Around ℤ
brighter_around k Z r c = Z r c +ℤ k

apart_brighter : (x y k : ℤ) → apart (x +ℤ k) (y +ℤ k) ≡ apart x y
unfolding apart
apart_brighter x y k = rw (as_difference x, as_difference y, as_difference k) (simp to_naturals (omega arith))

taps_brighter : (a b c d e f k : ℤ) → taps (a +ℤ k) (b +ℤ k) (c +ℤ k) (d +ℤ k) (e +ℤ k) (f +ℤ k) ≡ taps a b c d e f
unfolding taps
taps_brighter a b c d e f k =
    rw (as_difference a, as_difference b, as_difference c, as_difference d, as_difference e, as_difference f, as_difference k)
    (simp to_naturals (omega arith))

module _ (k : ℤ) where
  pair_brighter : (Z : Around ℤ) (r c : ℤ) → six_tap_pair (brighter_around k Z) r c ≡ six_tap_pair Z r c
  unfolding six_tap_pair six_tap
  pair_brighter Z r c = ap₂ (λ (x y : ℤ). nat_abs x + nat_abs y) (taps_brighter _ _ _ _ _ _ k) (taps_brighter _ _ _ _ _ _ k)

  eastbound_brighter : (Z : Around ℤ) (c : ℤ) → eastbound (brighter_around k Z) c ≡ eastbound Z c
  unfolding eastbound
  eastbound_brighter Z c =
      omega (
        arith,
        apart_brighter (Z (pos 0) c) (Z (pos 0) (c +ℤ pos 2)) k,
        pair_brighter Z (pos 0) c,
        pair_brighter Z (neg_ℤ (pos 1)) c,
        pair_brighter Z (pos 1) c,
      )

  gradients_brighter : (Z : Around ℤ) → gradients (brighter_around k Z) ≡ gradients Z
  unfolding gradients east_gradient west_gradient
  gradients_brighter Z =
      directions_path (eastbound_brighter Z _) (eastbound_brighter Z _) (eastbound_brighter (exchanged Z) _)
      (eastbound_brighter (exchanged Z) _)

  line_brighter : (l r x y z : ℤ) → line_estimate (l +ℤ k) (r +ℤ k) (x +ℤ k) (y +ℤ k) (z +ℤ k) ≡ line_estimate l r x y z +ℤ pos 8 *ℤ k
  unfolding line_estimate
  line_brighter l r x y z =
      rw (as_difference l, as_difference r, as_difference x, as_difference y, as_difference z, as_difference k)
      (simp to_naturals (omega arith))

  horizontal_brighter : (Z : Around ℤ) → horizontal_estimate (brighter_around k Z) ≡ horizontal_estimate Z +ℤ pos 8 *ℤ k
  unfolding horizontal_estimate
  horizontal_brighter Z = line_brighter _ _ _ _ _

  -- of two doubled numbers
  double_shift : (g h d d' : ℤ) → pos 2 *ℤ d ≡ g +ℤ h → pos 2 *ℤ d' ≡ (g +ℤ pos 8 *ℤ k) +ℤ (h +ℤ pos 8 *ℤ k) → d' ≡ d +ℤ pos 8 *ℤ k
  double_shift g h d d' =
      rw (as_difference g, as_difference h, as_difference d, as_difference d', as_difference k) (simp to_naturals (omega arith))

  estimate_brighter : (d : Direction) (Z : Around ℤ) → estimate d (brighter_around k Z) ≡ estimate d Z +ℤ pos 8 *ℤ k
  unfolding estimate
  estimate_brighter horizontal Z = horizontal_brighter Z
  estimate_brighter vertical Z = horizontal_brighter (exchanged Z)
  estimate_brighter diagonal Z =
      double_shift (horizontal_estimate Z) (horizontal_estimate (exchanged Z)) (estimate diagonal Z)
      (estimate diagonal (brighter_around k Z)) (diagonal_is_whole Z)
      (diagonal_is_whole (brighter_around k Z) ∙ ap₂ (λ (x y : ℤ). x +ℤ y) (horizontal_brighter Z) (horizontal_brighter (exchanged Z)))

  less_eight_brighter : (x X : ℤ) → less_eight (x +ℤ pos 8 *ℤ k) (X +ℤ k) ≡ less_eight x X
  unfolding less_eight
  less_eight_brighter x X = rw (as_difference x, as_difference X, as_difference k) (simp to_naturals (omega arith))

  four_brighter : (X : ℤ) → pos 4 *ℤ (X +ℤ k) ≡ pos 4 *ℤ X +ℤ pos 4 *ℤ k
  four_brighter X = rw (as_difference X, as_difference k) (simp to_naturals (omega arith))

  plus_four_brighter : (d X : ℤ) → d +ℤ pos 4 *ℤ (X +ℤ k) ≡ d +ℤ pos 4 *ℤ X +ℤ pos 4 *ℤ k
  plus_four_brighter d X = rw (as_difference d, as_difference X, as_difference k) (simp to_naturals (omega arith))

  minus_brighter : (g d : ℤ) → g +ℤ pos 4 *ℤ k -ℤ d ≡ g -ℤ d +ℤ pos 4 *ℤ k
  minus_brighter g d = rw (as_difference g, as_difference d, as_difference k) (simp to_naturals (omega arith))

  final_round_brighter : (q : ℤ) → final_round (q +ℤ pos 4 *ℤ k) ≡ final_round q +ℤ k
  unfolding final_round
  final_round_brighter q = rw (*ℤ_comm (pos 4) k) (round_shift q k 4 (omega arith))

-- ---- the stages

-- m' is m with k added to every sample
pub record Brighter (k : ℤ) (m m' : Mosaic) : Type 0 where
  pub sides : Sides trading m m'
  pub samples : Matches trading m (λ i j. m.sample_at i j +ℤ k) m'.sample_at
  pub colours : Matches trading m m.colour_at m'.colour_at

module _ (k : ℤ) (m m' : Mosaic) (b : Brighter k m m') where
  around_same : {X : Type 0} (q q' : ℕ → ℕ → X) → Matches trading m q q' → Matches trading m (around_in m q) (around_in m' q')
  around_same q q' e = around_changed trading m m' b.sides q q' e

  samples_brighter : Matches trading m (λ i j. brighter_around k (samples_around m i j)) (samples_around m')
  unfolding around
  samples_brighter = around_same (λ i j. m.sample_at i j +ℤ k) m'.sample_at b.samples

  gradients_same : Matches trading m (gradients_at m) (gradients_at m')
  unfolding gradients_at
  gradients_same i j hi hj = ap gradients (samples_brighter i j hi hj) ∙ gradients_brighter k _

  outcome_same : Matches trading m (outcome_at m) (outcome_at m')
  unfolding outcome_at
  outcome_same i j hi hj = ap₂ (λ (s : Settings). first_pass s.threshold) b.sides.settings_stay (gradients_same i j hi hj)

  green_or_brighter : (d : Direction) → Matches trading m (λ i j. green_or m d i j +ℤ pos 8 *ℤ k) (green_or m' d)
  unfolding green_or
  green_or_brighter d i j hi hj =
      ap₂ (λ (o : Outcome) (Z : Around ℤ). estimate (first_pass_or o d) Z) (outcome_same i j hi hj) (samples_brighter i j hi hj)
      ∙ estimate_brighter k _ _

  trial_same : (d : Direction) → Matches trading m (trial_difference m d) (trial_difference m' d)
  unfolding trial_difference
  trial_same d i j hi hj = ap₂ less_eight (green_or_brighter d i j hi hj) (b.samples i j hi hj) ∙ less_eight_brighter k _ _

  second_pass_same : Matches trading m (second_pass_at m) (second_pass_at m')
  unfolding second_pass_at
  second_pass_same i j hi hj =
      ap₂ (λ (s : Settings). second_pass s.reach) b.sides.settings_stay
      (fun_ext λ d. around_same (trial_difference m d) (trial_difference m' d) (trial_same d) i j hi hj)

  decision_same : Matches trading m (decision_at m) (decision_at m')
  unfolding decision_at chroma_decision_at
  decision_same i j hi hj = rw (b.colours i j hi hj, outcome_same i j hi hj, second_pass_same i j hi hj)

  -- every code stays
  pub entry_same : Matches trading m (decision_entry m) (decision_entry m')
  unfolding decision_entry
  entry_same i j hi hj = ap decision_code (decision_same i j hi hj)

  green_brighter : Matches trading m (λ i j. green_at m i j +ℤ pos 8 *ℤ k) (green_at m')
  green_brighter i j hi hj =
      green_is_decided m' i j
      ∙ rw (green_is_decided m i j, second_pass_same i j hi hj) (green_or_brighter (second_pass_at m i j) i j hi hj)

  green_difference_same : Matches trading m (green_difference m) (green_difference m')
  unfolding green_difference
  green_difference_same i j hi hj = ap₂ less_eight (green_brighter i j hi hj) (b.samples i j hi hj) ∙ less_eight_brighter k _ _

  final_difference_same : Matches trading m (final_difference m) (final_difference m')
  unfolding final_difference mean_two_off
  final_difference_same i j hi hj =
      same_fused (ap (λ (s : Settings). s.share) b.sides.settings_stay) (green_difference_same i j hi hj)
      (ap₂ (mean_under straight_gradients) (gradients_same i j hi hj)
      (ap (straight 2) (around_same (green_difference m) (green_difference m') green_difference_same i j hi hj)))

  chroma_site_same : (c : Colour) → Matches trading m (chroma_site_difference m c) (chroma_site_difference m' c)
  unfolding chroma_site_difference
  chroma_site_same c i j hi hj =
      rw (
        b.colours i j hi hj,
        final_difference_same i j hi hj,
        around_same (final_difference m) (final_difference m') final_difference_same i j hi hj,
        gradients_same i j hi hj,
      )

  colour_difference_same : (c : Colour) → Matches trading m (colour_difference m c) (colour_difference m' c)
  unfolding colour_difference
  colour_difference_same c i j hi hj =
      rw (
        b.colours i j hi hj,
        chroma_site_same c i j hi hj,
        around_same (chroma_site_difference m c) (chroma_site_difference m' c) (chroma_site_same c) i j hi hj,
        gradients_same i j hi hj,
      )

  green_quarters_brighter : Matches trading m (λ i j. green_quarters m i j +ℤ pos 4 *ℤ k) (green_quarters m')
  unfolding green_quarters
  green_quarters_brighter i j hi hj = rw (b.colours i j hi hj, b.samples i j hi hj, final_difference_same i j hi hj)
      (by_test (same (m.colour_at i j) green) _ (λ t. rw t (four_brighter k (m.sample_at i j)))
      (λ t. rw t (plus_four_brighter k (final_difference m i j) (m.sample_at i j))))

  quarters_brighter : (c : Colour) → Matches trading m (λ i j. quarters m c i j +ℤ pos 4 *ℤ k) (quarters m' c)
  unfolding quarters
  quarters_brighter c i j hi hj = rw (green_quarters_brighter i j hi hj, colour_difference_same c i j hi hj)
      (by_test (same c green) _ (λ t. rw t) (λ t. rw t (minus_brighter k (green_quarters m i j) (colour_difference m c i j))))

  -- every output has the constant added
  pub output_brighter : (c : Colour) → Matches trading m (λ i j. output m c i j +ℤ k) (output m' c)
  unfolding output
  output_brighter c i j hi hj =
      rw (b.colours i j hi hj, b.samples i j hi hj, quarters_brighter c i j hi hj, final_round_brighter k (quarters m c i j))
      (by_test (same (m.colour_at i j) c) _ (λ t. rw t) (λ t. rw t))
