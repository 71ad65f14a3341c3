-- A changed frame is admitted, its mosaic is the changed mosaic, and so its numbers and the entries of its map stand at the matching
-- points: one change; the lists of them stand in `ChangeLists`. Assumes nothing.
use Rattle.std.specs.Prelude.{◌≡◌, ℕ, ◌+◌, ◌*◌, ◌-◌, ◌/◌, ◌%◌, ◌<◌, ◌≤◌, eqb, length}
use Rattle.std.proofs.Math.Path.{refl, ap}
use Rattle.std.proofs.Common.{sym, ◌∙◌, mod-lt, div-lt_iff_lt-mul, arith}
use Rattle.std.proofs.Math.Arith.{digits_lt}
use Rattle.std.proofs.Math.Dec.{T}
use Rattle.std.proofs.Math.IntN.{pos}
use Rattle.std.proofs.Math.ListN.{get_or}
use Rattle.toolkit.specs.Tests.{by_test}
use Rattle.toolkit.specs.Tables.{get_d_tabulate}
use Rattle.toolkit.specs.Raster.{raster, length_raster, getD_raster}
use Rattle.frame.specs.Sites.{Frame, Colour, sample, highest_sample, side_allowed, phase_allowed, colour, mirrored_phase, flipped_phase, transposed_phase, traded_phase}
use Rattle.frame.proofs.Colours.{by_phase, colour_mirrored, colour_flipped, colour_transposed, colour_traded}
use Rattle.answers.specs.Given.{Given}
use Rattle.answers.specs.Calls.{most_under, Admitted, AdmittedAt}
use Rattle.frame.proofs.Sites.{side_low}
use Rattle.method.specs.Gradients.{mosaic}
use Rattle.method.specs.Green.{decision_entry}
use Rattle.method.specs.Planes.{output, less_black, number_at, entry_at}
use Rattle.method.proofs.PlaneLaws.{number_is_output, entry_is_code}
use Rattle.correspondence.specs.Comparison.{Change, left_right, top_bottom, transposing, trading, matching_row, matching_column, changed_height, changed_width, changed_phase, changed_samples, changed, given_changed}
use Rattle.correspondence.proofs.Decisions.{act_code}
use Rattle.correspondence.proofs.MosaicChanges.{act_colour, Changed, entry_both, output_both}

-- ---- one change

module _ (f : Frame) where
  -- each sample goes to its matching point
  sample_matches : (g : Change) (i j : ℕ) → i < f.height → j < f.width
      → sample (changed g f) (matching_row g f.height f.width i j) (matching_column g f.height f.width i j) ≡ sample f i j
  unfolding changed changed_samples sample
  sample_matches left_right i j hi hj =
      getD_raster f.height f.width _ i (f.width - 1 - j) 0 hi (omega arith)
      ∙ ap (λ (k : ℕ). get_or f.samples (i * f.width + k) 0) (omega arith)
  sample_matches top_bottom i j hi hj =
      getD_raster f.height f.width _ (f.height - 1 - i) j 0 (omega arith) hj
      ∙ ap (λ (k : ℕ). get_or f.samples (k * f.width + j) 0) (omega arith)
  sample_matches transposing i j hi hj = getD_raster f.width f.height _ j i 0 hj hi
  sample_matches trading i j hi hj = refl

-- the colour at the matching point
colour_matches : (g : Change) (H W p i j : ℕ) → T (phase_allowed p) → i < H → j < W
    → colour (changed_phase g H W p) (matching_row g H W i j) (matching_column g H W i j) ≡ act_colour g (colour p i j)
unfolding changed_phase
colour_matches left_right H W p i j a hi hj = colour_mirrored W p i j hj
colour_matches top_bottom H W p i j a hi hj = colour_flipped H p i j a hi
colour_matches transposing H W p i j a hi hj = colour_transposed p i j a
colour_matches trading H W p i j a hi hj = colour_traded p i j a

phase_matches : (g : Change) (H W p : ℕ) → T (phase_allowed p) → T (phase_allowed (changed_phase g H W p))
unfolding changed_phase mirrored_phase flipped_phase transposed_phase traded_phase phase_allowed
phase_matches left_right H W p =
    by_test (eqb (W % 2) 1) _ (λ t. rw t (λ a. a)) (λ t. rw t (by_phase (λ p. T (phase_allowed (p / 2 * 2 + (1 - p % 2)))) tt tt tt tt p))
phase_matches top_bottom H W p =
    by_test (eqb (H % 2) 1) _ (λ t. rw t (λ a. a)) (λ t. rw t (by_phase (λ p. T (phase_allowed ((1 - p / 2) * 2 + p % 2))) tt tt tt tt p))
phase_matches transposing H W p = by_phase (λ p. T (phase_allowed (transposed_phase p))) tt tt tt tt p
phase_matches trading H W p = by_phase (λ p. T (phase_allowed (traded_phase p))) tt tt tt tt p

-- the matching point lies in the changed frame
pub matching_inside : (g : Change) (H W i j : ℕ) → i < H → j < W
    → (matching_row g H W i j < changed_height g H W) × (matching_column g H W i j < changed_width g H W)
matching_inside left_right H W i j hi hj = omega arith
matching_inside top_bottom H W i j hi hj = omega arith
matching_inside transposing H W i j hi hj = omega arith
matching_inside trading H W i j hi hj = omega arith

-- both sides of the changed frame are sides of the first
changed_sides : (g : Change) (P : ℕ → Type 0) {H W : ℕ} → P H → P W → P (changed_height g H W) × P (changed_width g H W)
changed_sides left_right P h w = (h, w)
changed_sides top_bottom P h w = (h, w)
changed_sides transposing P h w = (w, h)
changed_sides trading P h w = (h, w)

module _ (f : Frame) (a : Admitted f) where
  changed_count : (g : Change)
      → length (changed_samples g f) ≡ changed_height g f.height f.width * changed_width g f.height f.width
  unfolding changed_samples
  changed_count left_right = length_raster _ _ _
  changed_count top_bottom = length_raster _ _ _
  changed_count transposing = length_raster _ _ _
  changed_count trading = a.samples_count

  -- what holds of every sample holds of every one of the changed frame
  module _ (P : ℕ → Type 0) (each : (k : ℕ) → k < length f.samples → P (get_or f.samples k 0)) where
    at_site : (i j : ℕ) → i < f.height → j < f.width → P (sample f i j)
    unfolding sample
    at_site i j hi hj = each (i * f.width + j) (rw a.samples_count (digits_lt hi hj))

    in_raster : (H W : ℕ) (q : ℕ → ℕ → ℕ) → 2 ≤ W → ((i j : ℕ) → i < H → j < W → P (q i j)) → (k : ℕ) → k < length (raster H W q)
        → P (get_or (raster H W q) k 0)
    unfolding raster
    in_raster H W q wide site k h =
        let inside : k < H * W = omega (arith, length_raster H W q) in
        rw (get_d_tabulate (H * W) (λ k. q (k / W) (k % W)) k 0 inside)
        (site (k / W) (k % W) ((div-lt_iff_lt-mul (omega arith)).1 inside) (mod-lt k (omega arith)))

    changed_each : (g : Change) (k : ℕ) → k < length (changed_samples g f) → P (get_or (changed_samples g f) k 0)
    unfolding changed_samples
    changed_each left_right = in_raster _ _ _ (side_low a.width_allowed) (λ i j hi hj. at_site i _ hi (omega arith))
    changed_each top_bottom = in_raster _ _ _ (side_low a.width_allowed) (λ i j hi hj. at_site _ j (omega arith) hj)
    changed_each transposing = in_raster _ _ _ (side_low a.height_allowed) (λ i j hi hj. at_site j i hj hi)
    changed_each trading = each

  pub changed_admitted : (g : Change) → Admitted (changed g f)
  unfolding changed
  changed_admitted g = record {
    width_allowed = (changed_sides g (λ n. T (side_allowed n)) a.height_allowed a.width_allowed).1;
    height_allowed = (changed_sides g (λ n. T (side_allowed n)) a.height_allowed a.width_allowed).0;
    phase_is_allowed = phase_matches g f.height f.width f.phase a.phase_is_allowed;
    samples_count = changed_count g;
    samples_in_range = changed_each (λ z. z ≤ highest_sample) a.samples_in_range g;
  }

  changed_mosaic : (g : Change) → Changed g (mosaic f) (mosaic (changed g f))
  unfolding mosaic changed
  changed_mosaic g = record {
    sides = record {
      height_is = refl;
      width_is = refl;
      settings_stay = refl;
      height_low = side_low a.height_allowed;
      width_low = side_low a.width_allowed;
    };
    samples = λ i j hi hj. ap pos (sample_matches f g i j hi hj);
    colours = λ i j hi hj. colour_matches g f.height f.width f.phase i j a.phase_is_allowed hi hj;
  }

pub changed_admitted_at : (given : Given) → AdmittedAt given → (g : Change) → AdmittedAt (given_changed g given)
unfolding changed
changed_admitted_at given a g = record {
  admitted = changed_admitted given.frame a.admitted g;
  black_low = a.black_low;
  none_under = changed_each given.frame a.admitted (λ z. given.black ≤ z + most_under) a.none_under g;
}

-- what one change does at a point
module _ (g : Change) (f : Frame) (i j : ℕ) (hi : i < f.height) (hj : j < f.width) where
  abbrev row : ℕ
  row = matching_row g f.height f.width i j

  abbrev column : ℕ
  column = matching_column g f.height f.width i j

  pub point_inside : (row < (changed g f).height) × (column < (changed g f).width)
  unfolding changed
  point_inside = matching_inside g f.height f.width i j hi hj

  module _ (a : Admitted f) where
    pub point_colour : colour (changed g f).phase row column ≡ act_colour g (colour f.phase i j)
    unfolding changed
    point_colour = colour_matches g f.height f.width f.phase i j a.phase_is_allowed hi hj

    outputs_match : (c : Colour) → output (mosaic (changed g f)) (act_colour g c) row column ≡ output (mosaic f) c i j
    unfolding mosaic
    outputs_match c = output_both g (mosaic f) (mosaic (changed g f)) (changed_mosaic f a g) c i j hi hj

    pub point_number : (b : ℕ) (c : Colour) → number_at (changed g f) b (act_colour g c) row column ≡ number_at f b c i j
    point_number b c =
        number_is_output (changed g f) b (act_colour g c) row column point_inside.0 point_inside.1
        ∙ (ap (less_black b) (outputs_match c) ∙ sym (number_is_output f b c i j hi hj))

    codes_match : decision_entry (mosaic (changed g f)) row column ≡ act_code g (decision_entry (mosaic f) i j)
    unfolding mosaic
    codes_match = entry_both g (mosaic f) (mosaic (changed g f)) (changed_mosaic f a g) i j hi hj

    pub point_entry : entry_at (changed g f) row column ≡ act_code g (entry_at f i j)
    point_entry =
        entry_is_code (changed g f) row column point_inside.0 point_inside.1
        ∙ (codes_match ∙ ap (act_code g) (sym (entry_is_code f i j hi hj)))
