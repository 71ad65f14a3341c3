-- How large the quantities of a frame are whose samples are from 0 to the highest: for casts, and for what a mean or a sum may be handed.
-- Assumes nothing.
use Rattle.std.specs.Prelude.{◌≡◌, List, ℕ, ◌*◌, ◌<◌, ◌≤◌, ℤ, pos, nat_abs, get_or, ◌≤ℤ◌}
use Rattle.std.proofs.Common.{zero-le, le_trans, arith, le→leb}
use Rattle.toolkit.specs.Differences.{as_difference}
use Rattle.toolkit.specs.Orders.{Ranged, to_naturals}
use Rattle.frame.specs.Sites.{Frame, Colour, sample, around}
use Rattle.frame.proofs.Reflection.{reflect_lt}
use Rattle.method.specs.Settings.{SettingsAllowed, threshold, reach, fusion_share, usual_settings}
use Rattle.method.specs.Gradients.{mosaic, around_in, samples_around, FourDirections, gradients_at}
use Rattle.method.specs.Green.{Direction, trial_difference}
use Rattle.method.specs.Four.{sizes, listed}
use Rattle.method.specs.Planes.{weighted_mean, weighing, mean_under, green_difference, final_difference, chroma_site_difference, colour_difference, corner_gradients}
use Rattle.method.proofs.GradientLaws.{gradients_bound}
use Rattle.method.proofs.Range.{mean_ranged, SamplesRanged, natural_ranged, trial_difference_ranged, green_difference_ranged, final_difference_ranged, chroma_site_ranged, colour_difference_ranged}
use Rattle.method.specs.Sizes.{AtMost, Naturals}

-- a number's size, from the two ends of its range, and back
pub ranged_size : (lo hi m : ℕ) (z : ℤ) → lo ≤ m → hi ≤ m → Ranged lo hi z → nat_abs z ≤ m
ranged_size lo hi m z = rw (as_difference z) (simp to_naturals (omega arith))

pub size_ranged : (m : ℕ) (z : ℤ) → nat_abs z ≤ m → Ranged m m z
size_ranged m z = rw (as_difference z) (simp to_naturals (omega arith))

pub weaker : {k m : ℕ} {g : FourDirections ℕ} → k ≤ m → AtMost k g → AtMost m g
weaker h s = record {
  east_most = le_trans s.east_most h;
  west_most = le_trans s.west_most h;
  south_most = le_trans s.south_most h;
  north_most = le_trans s.north_most h;
}

pub naturals_as : {k m : ℕ} {l : List ℤ} → k ≤ m → Naturals k l → Naturals m l
naturals_as h n = record {
  most = weaker h n.most;
  east_from = n.east_from;
  west_from = n.west_from;
  south_from = n.south_from;
  north_from = n.north_from;
}

-- gradients that are a site's
pub listed_naturals : {m : ℕ} {g : List ℤ} (d : FourDirections ℕ) → g ≡ listed d → AtMost m d → Naturals m g
listed_naturals {m} d e s = rw e (record { most = s; east_from = from _; west_from = from _; south_from = from _; north_from = from _ })
  where
    from : (k : ℕ) → pos 0 ≤ℤ pos k
    from k = record { le = le→leb 0 k zero-le }

-- each corner has the sum of two
pub corner_gradients_size : (m : ℕ) (g : FourDirections ℕ) → AtMost m g → AtMost (2 * m) (corner_gradients g)
unfolding corner_gradients
corner_gradients_size m g s = record {
  east_most = omega (arith, s.north_most, s.east_most);
  west_most = omega (arith, s.north_most, s.west_most);
  south_most = omega (arith, s.south_most, s.east_most);
  north_most = omega (arith, s.south_most, s.west_most);
}

-- a mean is no larger than the largest of its values
pub mean_size : (m : ℕ) (v : FourDirections ℤ) (g : FourDirections ℕ) → AtMost m (sizes v) → nat_abs (weighted_mean v g) ≤ m
mean_size m v g s =
    ranged_size m m m _ (omega arith) (omega arith) (mean_ranged m v g (record {
      at_east = size_ranged m v.east s.east_most;
      at_west = size_ranged m v.west s.west_most;
      at_south = size_ranged m v.south s.south_most;
      at_north = size_ranged m v.north s.north_most;
    }))

-- the settings of every frame are in their ranges
pub usual_allowed : SettingsAllowed usual_settings
unfolding threshold reach fusion_share
usual_allowed = record {
  threshold_low = omega arith;
  threshold_high = omega arith;
  reach_low = omega arith;
  reach_high = omega arith;
  share_high = omega arith;
}

-- whatever gradients it is under
pub mean_under_size : (m : ℕ) (paired : FourDirections ℕ → FourDirections ℕ) (g : FourDirections ℕ) (v : FourDirections ℤ) → AtMost m (sizes v)
    → nat_abs (mean_under paired g v) ≤ m
unfolding mean_under
mean_under_size m paired g v s = mean_size m v _ s

-- the gradients that means weigh are no larger than those of the site
pub weighing_size : (m : ℕ) (g : FourDirections ℕ) → AtMost m g → AtMost m (weighing g)
unfolding weighing
weighing_size m g s = s

-- what is so at every site is so around each place
pub around_size : (f : Frame) → 2 ≤ f.height → 2 ≤ f.width → (m : ℕ) (q : ℕ → ℕ → ℤ)
    → ((i j : ℕ) → i < f.height → j < f.width → nat_abs (q i j) ≤ m) → (i j : ℕ) (r c : ℤ) → nat_abs (around_in (mosaic f) q i j r c) ≤ m
unfolding mosaic around
around_size f tall wide m q each i j r c = each _ _ (reflect_lt _ _ tall) (reflect_lt _ _ wide)

module _ {highest : ℕ} (f : Frame) (tall : 2 ≤ f.height) (wide : 2 ≤ f.width) (ranged : (k : ℕ) → get_or f.samples k 0 ≤ highest) where
  pub samples_ranged : SamplesRanged highest (mosaic f)
  unfolding mosaic sample
  samples_ranged = record { height_low = tall; width_low = wide; samples = λ i j hi hj. natural_ranged highest _ (ranged _) }

  settings_allowed : SettingsAllowed (mosaic f).settings
  unfolding mosaic
  settings_allowed = usual_allowed

  pub sample_around_ranged : (i j : ℕ) (r c : ℤ) → Ranged 0 highest (samples_around (mosaic f) i j r c)
  unfolding mosaic around sample
  sample_around_ranged i j r c = natural_ranged highest _ (ranged _)

  -- "at most 40,920" where the highest sample is 1,023; also where (i,j) is no site
  pub gradients_size : (i j : ℕ) → AtMost (40 * highest) (gradients_at (mosaic f) i j)
  unfolding gradients_at
  gradients_size i j =
      let b = gradients_bound highest (samples_around (mosaic f) i j) (sample_around_ranged i j) in
      record { east_most = b.0; west_most = b.1; south_most = b.2; north_most = b.3 }

  -- r_H, r_V and r_D
  pub trial_difference_size : (k : Direction) (i j : ℕ) → i < f.height → j < f.width → nat_abs (trial_difference (mosaic f) k i j) ≤ 8 * highest
  unfolding mosaic
  trial_difference_size k i j hi hj =
      ranged_size (8 * highest) (8 * highest) _ _ (omega arith) (omega arith) (trial_difference_ranged highest (mosaic f) samples_ranged k i j hi hj)

  -- D
  pub green_difference_size : (i j : ℕ) → i < f.height → j < f.width → nat_abs (green_difference (mosaic f) i j) ≤ 8 * highest
  unfolding mosaic
  green_difference_size i j hi hj =
      ranged_size (8 * highest) (8 * highest) _ _ (omega arith) (omega arith) (green_difference_ranged highest (mosaic f) samples_ranged i j hi hj)

  pub final_difference_size : (i j : ℕ) → i < f.height → j < f.width → nat_abs (final_difference (mosaic f) i j) ≤ 4 * highest
  unfolding mosaic
  final_difference_size i j hi hj =
      ranged_size (4 * highest) (4 * highest) _ _ (omega arith) (omega arith) (final_difference_ranged highest (mosaic f) samples_ranged settings_allowed i j hi hj)

  pub chroma_site_difference_size : (c : Colour) (i j : ℕ) → i < f.height → j < f.width
      → nat_abs (chroma_site_difference (mosaic f) c i j) ≤ 4 * highest
  unfolding mosaic
  chroma_site_difference_size c i j hi hj =
      ranged_size (4 * highest) (4 * highest) _ _ (omega arith) (omega arith) (chroma_site_ranged highest (mosaic f) samples_ranged settings_allowed c i j hi hj)

  pub colour_difference_size : (c : Colour) (i j : ℕ) → i < f.height → j < f.width → nat_abs (colour_difference (mosaic f) c i j) ≤ 4 * highest
  unfolding mosaic
  colour_difference_size c i j hi hj =
      ranged_size (4 * highest) (4 * highest) _ _ (omega arith) (omega arith) (colour_difference_ranged highest (mosaic f) samples_ranged settings_allowed c i j hi hj)
