-- Where the outputs lie: samples from 0 to T give outputs from −2T to 3T, stage by stage. Assumes nothing.
use Rattle.std.specs.Prelude.{◌≡◌, ℕ, ◌+◌, ◌*◌, ◌-◌, ◌<◌, ◌≤◌, ℤ, neg_ℤ, ◌+ℤ◌, ◌-ℤ◌, ◌*ℤ◌, ◌≤ℤ◌}
use Rattle.std.proofs.Math.Path.{ap₂}
use Rattle.std.proofs.Math.Nat.{mul-le-mul_left}
use Rattle.std.proofs.Common.{arith}
use Rattle.std.proofs.Math.IntN.{pos}
use Rattle.toolkit.specs.Tests.{by_test}
use Rattle.toolkit.specs.Differences.{as_difference}
use Rattle.toolkit.specs.Orders.{Ranged, to_naturals}
use Rattle.toolkit.specs.Rounding.{round_half_up, round_least, round_most}
use Rattle.frame.specs.Sites.{Colour, green, Around, around}
use Rattle.frame.proofs.Reflection.{reflect_lt, reflect_here}
use Rattle.method.specs.Settings.{SettingsAllowed}
use Rattle.method.specs.Gradients.{Mosaic, around_in, samples_around, FourDirections}
use Rattle.method.specs.Green.{Direction, horizontal, vertical, diagonal, line_estimate, horizontal_estimate, estimate, green_or, less_eight, trial_difference, second_pass_at}
use Rattle.method.specs.Planes.{inner_round, times, sum_of_four, weighted_sum, total, weighted_mean, mean_under, green_difference, straight, mean_two_off, fused, final_difference, same, diagonally, corners, chroma_site_difference, colour_difference, green_quarters, quarters, final_round, output}
use Rattle.method.proofs.GreenLaws.{diagonal_is_whole, green_is_decided}
use Rattle.method.proofs.MeanLaws.{total_above}

-- ---- numbers

round_ranged : (lo hi : ℕ) (n : ℤ) (d : ℕ) → 0 < d → Ranged (lo * d) (hi * d) n → Ranged lo hi (round_half_up n d)
round_ranged lo hi n d h r = (round_least n (neg_ℤ (pos lo)) d h (low n r.0), round_most n (pos hi) d h (high n r.1))
  where
    low : (n : ℤ) → neg_ℤ (pos (lo * d)) ≤ℤ n → (neg_ℤ (pos lo) *ℤ pos d) ≤ℤ n
    low n = rw (as_difference n) (simp to_naturals (omega arith))

    high : (n : ℤ) → n ≤ℤ pos (hi * d) → n ≤ℤ (pos hi *ℤ pos d)
    high n = rw (as_difference n) (simp to_naturals (omega arith))

pub natural_ranged : (T n : ℕ) → n ≤ T → Ranged 0 T (pos n)
natural_ranged T n h = simp to_naturals (omega arith)

-- ---- the differences of green

module _ (T : ℕ) where
  line_ranged : (l r x y z : ℤ) → Ranged 0 T l → Ranged 0 T r → Ranged 0 T x → Ranged 0 T y → Ranged 0 T z
      → Ranged (8 * T) (8 * T) (less_eight (line_estimate l r x y z) x)
  unfolding less_eight line_estimate
  line_ranged l r x y z =
      rw (as_difference l, as_difference r, as_difference x, as_difference y, as_difference z) (simp to_naturals (omega arith))

  -- a number midway between two
  midway_ranged : (B : ℕ) (g h d x : ℤ) → pos 2 *ℤ d ≡ g +ℤ h → Ranged B B (less_eight g x) → Ranged B B (less_eight h x)
      → Ranged B B (less_eight d x)
  unfolding less_eight
  midway_ranged B g h d x = rw (as_difference g, as_difference h, as_difference d, as_difference x) (simp to_naturals (omega arith))

  estimate_ranged : (k : Direction) (Z : Around ℤ) → ((r c : ℤ) → Ranged 0 T (Z r c))
      → Ranged (8 * T) (8 * T) (less_eight (estimate k Z) (Z (pos 0) (pos 0)))
  unfolding estimate horizontal_estimate
  estimate_ranged horizontal Z s = line_ranged _ _ _ _ _ (s _ _) (s _ _) (s _ _) (s _ _) (s _ _)
  estimate_ranged vertical Z s = line_ranged _ _ _ _ _ (s _ _) (s _ _) (s _ _) (s _ _) (s _ _)
  estimate_ranged diagonal Z s =
      midway_ranged (8 * T) (estimate horizontal Z) (estimate vertical Z) (estimate diagonal Z) (Z (pos 0) (pos 0)) (diagonal_is_whole Z)
      (line_ranged _ _ _ _ _ (s _ _) (s _ _) (s _ _) (s _ _) (s _ _)) (line_ranged _ _ _ _ _ (s _ _) (s _ _) (s _ _) (s _ _) (s _ _))

-- ---- means

-- all four values
pub record Four (P : ℤ → Type 0) (v : FourDirections ℤ) : Type 0 where
  pub at_east : P v.east
  pub at_west : P v.west
  pub at_south : P v.south
  pub at_north : P v.north

module _ (B : ℕ) where
  times_ranged : (w : ℕ) (v : ℤ) → Ranged B B v → Ranged (B * w) (B * w) (times w v)
  unfolding times
  times_ranged w v =
      rw (as_difference v)
      (simp to_naturals (λ h. (omega (arith, mul-le-mul_left w h.0), omega (arith, mul-le-mul_left w h.1))))

  sum_ranged : (a b c d : ℕ) (x y z u : ℤ) → Ranged (B * a) (B * a) x → Ranged (B * b) (B * b) y → Ranged (B * c) (B * c) z
      → Ranged (B * d) (B * d) u
      → Ranged (B * (a + b + c + d)) (B * (a + b + c + d)) (sum_of_four x y z u)
  unfolding sum_of_four
  sum_ranged a b c d x y z u = rw (as_difference x, as_difference y, as_difference z, as_difference u) (simp to_naturals (omega arith))

  pub mean_ranged : (v : FourDirections ℤ) (g : FourDirections ℕ) → Four (Ranged B B) v → Ranged B B (weighted_mean v g)
  unfolding weighted_mean weighted_sum total inner_round
  mean_ranged v g r = round_ranged B B _ _ (total_above g)
      (sum_ranged _ _ _ _ _ _ _ _ (times_ranged _ _ r.at_east) (times_ranged _ _ r.at_west) (times_ranged _ _ r.at_south)
      (times_ranged _ _ r.at_north))

  -- any mean is the weighted mean of its values under some gradients
  pub mean_under_ranged : (paired : FourDirections ℕ → FourDirections ℕ) (g : FourDirections ℕ) (v : FourDirections ℤ) → Four (Ranged B B) v
      → Ranged B B (mean_under paired g v)
  unfolding mean_under
  mean_under_ranged paired g v r = mean_ranged v _ r

  shares_ranged : (s t : ℕ) (x y : ℤ) → Ranged (2 * B * s) (2 * B * s) x → Ranged (2 * B * t) (2 * B * t) y
      → Ranged (B * (2 * (s + t))) (B * (2 * (s + t))) (x +ℤ y)
  shares_ranged s t x y = rw (as_difference x, as_difference y) (simp to_naturals (omega arith))

fused_ranged : (B share : ℕ) → share ≤ 100 → (D M : ℤ) → Ranged (2 * B) (2 * B) D → Ranged (2 * B) (2 * B) M → Ranged B B (fused share D M)
unfolding fused inner_round times
fused_ranged B share h D M p q =
    let whole : share + (100 - share) ≡ 100 = omega arith in
    round_ranged B B _ 200 (omega arith)
    (rw (whole) at (shares_ranged B share (100 - share) _ _ (times_ranged (2 * B) share D p) (times_ranged (2 * B) (100 - share) M q)))

straight_four : (P : ℤ → Type 0) (k : ℕ) (N : Around ℤ) → ((r c : ℤ) → P (N r c)) → Four P (straight k N)
unfolding straight
straight_four P k N h = record { at_east = h _ _; at_west = h _ _; at_south = h _ _; at_north = h _ _ }

corners_four : (P : ℤ → Type 0) (N : Around ℤ) → ((r c : ℤ) → P (N r c)) → Four P (corners N)
unfolding corners diagonally
corners_four P N h = record { at_east = h _ _; at_west = h _ _; at_south = h _ _; at_north = h _ _ }

-- ---- planes

module _ (T : ℕ) where
  measured_ranged : (X : ℤ) → Ranged 0 T X → Ranged (2 * T) (3 * T) X
  measured_ranged X = rw (as_difference X) (simp to_naturals (omega arith))

  four_ranged : (X : ℤ) → Ranged 0 T X → Ranged (4 * T) (8 * T) (pos 4 *ℤ X)
  four_ranged X = rw (as_difference X) (simp to_naturals (omega arith))

  plus_four_ranged : (d X : ℤ) → Ranged (4 * T) (4 * T) d → Ranged 0 T X → Ranged (4 * T) (8 * T) (d +ℤ pos 4 *ℤ X)
  plus_four_ranged d X = rw (as_difference d, as_difference X) (simp to_naturals (omega arith))

  green_quarters_wider : (q : ℤ) → Ranged (4 * T) (8 * T) q → Ranged (2 * T * 4) (3 * T * 4) q
  green_quarters_wider q = rw (as_difference q) (simp to_naturals (omega arith))

  minus_ranged : (q d : ℤ) → Ranged (4 * T) (8 * T) q → Ranged (4 * T) (4 * T) d → Ranged (2 * T * 4) (3 * T * 4) (q -ℤ d)
  minus_ranged q d = rw (as_difference q, as_difference d) (simp to_naturals (omega arith))

  doubled : (z : ℤ) → Ranged (8 * T) (8 * T) z → Ranged (2 * (4 * T)) (2 * (4 * T)) z
  doubled z = rw (as_difference z) (simp to_naturals (omega arith))

-- ---- the stages

-- every sample of m is from 0 to T
pub record SamplesRanged (T : ℕ) (m : Mosaic) : Type 0 where
  pub height_low : 2 ≤ m.height
  pub width_low : 2 ≤ m.width
  pub samples : (i j : ℕ) → i < m.height → j < m.width → Ranged 0 T (m.sample_at i j)

module _ (T : ℕ) (m : Mosaic) (s : SamplesRanged T m) where
  abbrev Everywhere : (ℤ → Type 0) → (ℕ → ℕ → ℤ) → Type 0
  Everywhere P q = (i j : ℕ) → i < m.height → j < m.width → P (q i j)

  pub around_ranged : (P : ℤ → Type 0) (q : ℕ → ℕ → ℤ) → Everywhere P q → (i j : ℕ) (r c : ℤ) → P (around_in m q i j r c)
  unfolding around
  around_ranged P q h i j r c = h _ _ (reflect_lt _ _ s.height_low) (reflect_lt _ _ s.width_low)

  here : (i j : ℕ) → i < m.height → j < m.width → samples_around m i j (pos 0) (pos 0) ≡ m.sample_at i j
  unfolding around
  here i j hi hj = ap₂ m.sample_at (reflect_here _ i s.height_low hi) (reflect_here _ j s.width_low hj)

  pub trial_difference_ranged : (k : Direction) → Everywhere (Ranged (8 * T) (8 * T)) (trial_difference m k)
  unfolding trial_difference green_or
  trial_difference_ranged k i j hi hj =
      rw (← (here i j hi hj)) (estimate_ranged T _ (samples_around m i j) (around_ranged (Ranged 0 T) m.sample_at s.samples i j))

  pub green_difference_ranged : Everywhere (Ranged (8 * T) (8 * T)) (green_difference m)
  unfolding green_difference trial_difference
  green_difference_ranged i j hi hj = rw (green_is_decided m i j) (trial_difference_ranged (second_pass_at m i j) i j hi hj)

  module _ (allowed : SettingsAllowed m.settings) where
    pub final_difference_ranged : Everywhere (Ranged (4 * T) (4 * T)) (final_difference m)
    unfolding final_difference mean_two_off
    final_difference_ranged i j hi hj =
        fused_ranged (4 * T) _ (omega (arith, allowed.share_high)) _ _ (doubled T _ (green_difference_ranged i j hi hj)) (doubled T _
        (mean_under_ranged (8 * T) _ _ _
        (straight_four (Ranged (8 * T) (8 * T)) 2 _
        (around_ranged (Ranged (8 * T) (8 * T)) (green_difference m) green_difference_ranged i j))))

    pub chroma_site_ranged : (c : Colour) → Everywhere (Ranged (4 * T) (4 * T)) (chroma_site_difference m c)
    unfolding chroma_site_difference
    chroma_site_ranged c i j hi hj = by_test (same (m.colour_at i j) c) _ (λ t. rw t (final_difference_ranged i j hi hj))
        (λ t. rw t
        (mean_under_ranged (4 * T) _ _ _
        (corners_four (Ranged (4 * T) (4 * T)) _
        (around_ranged (Ranged (4 * T) (4 * T)) (final_difference m) final_difference_ranged i j))))

    pub colour_difference_ranged : (c : Colour) → Everywhere (Ranged (4 * T) (4 * T)) (colour_difference m c)
    unfolding colour_difference
    colour_difference_ranged c i j hi hj = by_test (same (m.colour_at i j) green) _
        (λ t. rw t
        (mean_under_ranged (4 * T) _ _ _
        (straight_four (Ranged (4 * T) (4 * T)) 1 _
        (around_ranged (Ranged (4 * T) (4 * T)) (chroma_site_difference m c) (chroma_site_ranged c) i j))))
        (λ t. rw t (chroma_site_ranged c i j hi hj))

    pub green_quarters_ranged : Everywhere (Ranged (4 * T) (8 * T)) (green_quarters m)
    unfolding green_quarters
    green_quarters_ranged i j hi hj = by_test (same (m.colour_at i j) green) _ (λ t. rw t (four_ranged T _ (s.samples i j hi hj)))
        (λ t. rw t (plus_four_ranged T _ _ (final_difference_ranged i j hi hj) (s.samples i j hi hj)))

    pub quarters_ranged : (c : Colour) → Everywhere (Ranged (2 * T * 4) (3 * T * 4)) (quarters m c)
    unfolding quarters
    quarters_ranged c i j hi hj = by_test (same c green) _ (λ t. rw t (green_quarters_wider T _ (green_quarters_ranged i j hi hj)))
        (λ t. rw t (minus_ranged T _ _ (green_quarters_ranged i j hi hj) (colour_difference_ranged c i j hi hj)))

    -- every output lies in −2T to 3T
    pub output_ranged : (c : Colour) → Everywhere (Ranged (2 * T) (3 * T)) (output m c)
    unfolding output final_round
    output_ranged c i j hi hj = by_test (same (m.colour_at i j) c) _ (λ t. rw t (measured_ranged T _ (s.samples i j hi hj)))
        (λ t. rw t (round_ranged (2 * T) (3 * T) _ 4 (omega arith) (quarters_ranged c i j hi hj)))
