-- The planes and the decision map computed in stages: what a stage gives at each site is kept in a table, which the next stage reads. So
-- they are computed with each quantity formed one time for each site; `plane_staged` and `map_staged` say that they are the planes and
-- the map. Assumes nothing.
use Rattle.std.specs.Prelude.{◌≡◌, refl, cond, List, ◌∷◌, ℕ, zero, suc, ◌+◌, ◌*◌, ◌/◌, ◌%◌, ◌<◌, ◌≤◌, ℤ, pos, ◌+ℤ◌, ◌-ℤ◌, ◌*ℤ◌, get_or}
use Rattle.std.proofs.Math.Path.{sym, ap, fun_ext}
use Rattle.std.proofs.Common.{◌∙◌, ap₂, div-lt_iff_lt-mul, mod-lt, arith}
use Rattle.toolkit.specs.Tables.{tabulate}
use Rattle.toolkit.specs.Raster.{raster, getD_raster}
use Rattle.frame.specs.Sites.{Frame, Colour, green}
use Rattle.method.specs.Gradients.{Mosaic, mosaic, around_in, samples_around, FourDirections, gradients_at}
use Rattle.method.specs.Green.{Direction, horizontal, vertical, diagonal, estimate, first_pass, outcome_at, first_pass_or, green_or, less_eight, trial_difference, second_pass, second_pass_at, decided, decision_code, chroma_decision_at, decision_of, decision_at, decision_entry, decision_map}
use Rattle.method.proofs.GreenLaws.{green_is_decided}
use Rattle.method.specs.Planes.{straight_gradients, mean_under, green_difference, straight, mean_two_off, fused, final_difference, same, corners, corner_gradients, chroma_site_difference, colour_difference, green_quarters, quarters, final_round, output, less_black, plane}
use Rattle.correspondence.specs.Comparison.{trading}
use Rattle.correspondence.proofs.MosaicChanges.{Matches, Sides, around_changed}

-- ---- the stages: each as method's definition of the same quantity, read off what the stages before it gave

-- a quantity, kept in a table of all sites
unfoldable pub kept : {X : Type 0} → Mosaic → X → (ℕ → ℕ → X) → ℕ → ℕ → X
kept m d q = let entries = raster m.height m.width q in λ i j. get_or entries (i * m.width + j) d

abbrev pub no_gradients : FourDirections ℕ
no_gradients = record { east = 0; west = 0; south = 0; north = 0 }

abbrev pub by_direction : {X : Type 0} → X → X → X → Direction → X
by_direction h v d horizontal = h
by_direction h v d vertical = v
by_direction h v d diagonal = d

module _ (m : Mosaic) where
  -- r_k, from the gradients
  unfoldable pub trial_stage : (ℕ → ℕ → FourDirections ℕ) → Direction → ℕ → ℕ → ℤ
  trial_stage G k i j = less_eight (estimate (first_pass_or (first_pass m.settings.threshold (G i j)) k) (samples_around m i j)) (m.sample_at i j)

  -- D, from r_H, r_V and r_D
  unfoldable pub difference_stage : (Direction → ℕ → ℕ → ℤ) → ℕ → ℕ → ℤ
  difference_stage r i j = r (second_pass m.settings.reach (λ k. around_in m (r k) i j)) i j

  -- the decision's code, from the gradients and r_H, r_V and r_D
  unfoldable pub decision_stage : (ℕ → ℕ → FourDirections ℕ) → (Direction → ℕ → ℕ → ℤ) → ℕ → ℕ → ℕ
  decision_stage G r i j =
      decision_code (decision_of (m.colour_at i j)
      (decided (first_pass m.settings.threshold (G i j)) (second_pass m.settings.reach (λ k. around_in m (r k) i j))))

  -- the final difference, from D and the gradients
  unfoldable pub final_stage : (ℕ → ℕ → ℤ) → (ℕ → ℕ → FourDirections ℕ) → ℕ → ℕ → ℤ
  final_stage D G i j = fused m.settings.share (D i j) (mean_under straight_gradients (G i j) (straight 2 (around_in m D i j)))

  -- green minus c at the red and blue sites, from the final differences and the gradients
  unfoldable pub chroma_stage : Colour → (ℕ → ℕ → ℤ) → (ℕ → ℕ → FourDirections ℕ) → ℕ → ℕ → ℤ
  chroma_stage c F G i j =
      cond (same (m.colour_at i j) c) (F i j) (mean_under corner_gradients (G i j) (corners (around_in m F i j)))

  -- green minus c at every site, from these
  unfoldable pub colour_stage : (ℕ → ℕ → ℤ) → (ℕ → ℕ → FourDirections ℕ) → ℕ → ℕ → ℤ
  colour_stage C G i j =
      cond (same (m.colour_at i j) green) (mean_under straight_gradients (G i j) (straight 1 (around_in m C i j))) (C i j)

  -- the output, from the final differences and green minus c
  unfoldable pub output_stage : Colour → (ℕ → ℕ → ℤ) → (ℕ → ℕ → ℤ) → ℕ → ℕ → ℤ
  output_stage c F B i j =
      let green_in_quarters = cond (same (m.colour_at i j) green) (pos 4 *ℤ m.sample_at i j) (F i j +ℤ pos 4 *ℤ m.sample_at i j) in
      cond (same (m.colour_at i j) c) (m.sample_at i j)
      (final_round (cond (same c green) green_in_quarters (green_in_quarters -ℤ B i j)))

  -- r_H, r_V and r_D, kept, from the gradients
  unfoldable pub kept_trials : (ℕ → ℕ → FourDirections ℕ) → Direction → ℕ → ℕ → ℤ
  kept_trials G =
      let r_H = kept m (pos 0) (trial_stage G horizontal) in
      let r_V = kept m (pos 0) (trial_stage G vertical) in
      let r_D = kept m (pos 0) (trial_stage G diagonal) in
      by_direction r_H r_V r_D

  -- the final differences, kept, from the gradients
  unfoldable pub kept_finals : (ℕ → ℕ → FourDirections ℕ) → ℕ → ℕ → ℤ
  kept_finals G =
      let r = kept_trials G in
      let D = kept m (pos 0) (difference_stage r) in
      kept m (pos 0) (final_stage D G)

  unfoldable pub staged_output : Colour → ℕ → ℕ → ℤ
  staged_output c =
      let G = kept m no_gradients (gradients_at m) in
      let F = kept_finals G in
      let C = kept m (pos 0) (chroma_stage c F G) in
      output_stage c F (colour_stage C G)

  unfoldable pub staged_entry : ℕ → ℕ → ℕ
  staged_entry =
      let G = kept m no_gradients (gradients_at m) in
      let r = kept_trials G in
      decision_stage G r

-- the black level comes off last
unfoldable pub staged_plane : Frame → ℕ → Colour → List ℤ
staged_plane f b c = let numbers = staged_output (mosaic f) c in raster f.height f.width (λ i j. less_black b (numbers i j))

unfoldable pub staged_map : Frame → List ℕ
staged_map f = raster f.height f.width (staged_entry (mosaic f))

-- ---- the stages give the quantities

module _ (m : Mosaic) (s : Sides trading m m) where
  around_same : {X : Type 0} (q q' : ℕ → ℕ → X) → Matches trading m q q' → Matches trading m (around_in m q) (around_in m q')
  around_same q q' e = around_changed trading m m s q q' e

  kept_same : {X : Type 0} (d : X) (q q' : ℕ → ℕ → X) → Matches trading m q q' → Matches trading m q (kept m d q')
  unfolding kept
  kept_same d q q' e i j hi hj = getD_raster m.height m.width q' i j d hi hj ∙ e i j hi hj

  module _ (G : ℕ → ℕ → FourDirections ℕ) (g : Matches trading m (gradients_at m) G) where
    trial_same : (k : Direction) → Matches trading m (trial_difference m k) (trial_stage m G k)
    unfolding trial_difference green_or outcome_at trial_stage
    trial_same k i j hi hj = rw (g i j hi hj)

    final_same : (D : ℕ → ℕ → ℤ) → Matches trading m (green_difference m) D → Matches trading m (final_difference m) (final_stage m D G)
    unfolding final_difference mean_two_off final_stage
    final_same D e i j hi hj = rw (e i j hi hj, around_same (green_difference m) D e i j hi hj, g i j hi hj)

    chroma_same : (c : Colour) (F : ℕ → ℕ → ℤ) → Matches trading m (final_difference m) F
        → Matches trading m (chroma_site_difference m c) (chroma_stage m c F G)
    unfolding chroma_site_difference chroma_stage
    chroma_same c F e i j hi hj = rw (e i j hi hj, around_same (final_difference m) F e i j hi hj, g i j hi hj)

    colour_same : (c : Colour) (C : ℕ → ℕ → ℤ) → Matches trading m (chroma_site_difference m c) C
        → Matches trading m (colour_difference m c) (colour_stage m C G)
    unfolding colour_difference colour_stage
    colour_same c C e i j hi hj = rw (e i j hi hj, around_same (chroma_site_difference m c) C e i j hi hj, g i j hi hj)

  difference_same : (r : Direction → ℕ → ℕ → ℤ) → ((k : Direction) → Matches trading m (trial_difference m k) (r k))
      → Matches trading m (green_difference m) (difference_stage m r)
  unfolding green_difference second_pass_at trial_difference difference_stage
  difference_same r e i j hi hj =
      rw (green_is_decided m i j, fun_ext λ k. around_same (trial_difference m k) (r k) (e k) i j hi hj) (e _ i j hi hj)

  output_same : (c : Colour) (F B : ℕ → ℕ → ℤ) → Matches trading m (final_difference m) F → Matches trading m (colour_difference m c) B
      → Matches trading m (output m c) (output_stage m c F B)
  unfolding output quarters green_quarters output_stage
  output_same c F B e b i j hi hj = rw (e i j hi hj, b i j hi hj)

  module _ (G : ℕ → ℕ → FourDirections ℕ) (g : Matches trading m (gradients_at m) G) where
    trials_same : (k : Direction) → Matches trading m (trial_difference m k) (kept_trials m G k)
    unfolding kept_trials
    trials_same horizontal = kept_same _ _ _ (trial_same G g horizontal)
    trials_same vertical = kept_same _ _ _ (trial_same G g vertical)
    trials_same diagonal = kept_same _ _ _ (trial_same G g diagonal)

    finals_same : Matches trading m (final_difference m) (kept_finals m G)
    unfolding kept_finals
    finals_same = kept_same _ _ _ (final_same G g _ (kept_same _ _ _ (difference_same _ trials_same)))

    entries_same : (r : Direction → ℕ → ℕ → ℤ) → ((k : Direction) → Matches trading m (trial_difference m k) (r k))
        → Matches trading m (decision_entry m) (decision_stage m G r)
    unfolding decision_entry decision_at chroma_decision_at outcome_at second_pass_at decision_stage
    entries_same r e i j hi hj = rw (g i j hi hj, fun_ext λ k. around_same (trial_difference m k) (r k) (e k) i j hi hj)

    outputs_same : (c : Colour) (F : ℕ → ℕ → ℤ) → Matches trading m (final_difference m) F
        → Matches trading m (output m c) (output_stage m c F (colour_stage m (kept m (pos 0) (chroma_stage m c F G)) G))
    outputs_same c F e = output_same c F _ e (colour_same G g c _ (kept_same _ _ _ (chroma_same G g c F e)))

  gradients_same : Matches trading m (gradients_at m) (kept m no_gradients (gradients_at m))
  gradients_same = kept_same _ _ _ (λ i j hi hj. refl)

  staged_same : (c : Colour) → Matches trading m (output m c) (staged_output m c)
  unfolding staged_output
  staged_same c = outputs_same _ gradients_same c _ (finals_same _ gradients_same)

  staged_entry_same : Matches trading m (decision_entry m) (staged_entry m)
  unfolding staged_entry
  staged_entry_same = entries_same _ gradients_same _ (trials_same _ gradients_same)

-- ---- the planes and the map

tabulate_same : {X : Type 0} (n : ℕ) (f g : ℕ → X) → ((k : ℕ) → k < n → f k ≡ g k) → tabulate n f ≡ tabulate n g
unfolding tabulate
tabulate_same zero f g e = refl
tabulate_same (suc n) f g e =
    ap₂ (λ x l. x ∷ l) (e 0 (omega arith)) (tabulate_same n (λ k. f (suc k)) (λ k. g (suc k)) (λ k h. e (suc k) (omega arith)))

raster_same : {X : Type 0} (H W : ℕ) (q q' : ℕ → ℕ → X) → 0 < W → ((i j : ℕ) → i < H → j < W → q i j ≡ q' i j)
    → raster H W q ≡ raster H W q'
unfolding raster
raster_same H W q q' w e = tabulate_same (H * W) _ _ (λ k h. e (k / W) (k % W) ((div-lt_iff_lt-mul w).1 h) (mod-lt k w))

module _ (f : Frame) (h : 2 ≤ f.height) (w : 2 ≤ f.width) where
  sides : Sides trading (mosaic f) (mosaic f)
  unfolding mosaic
  sides = record { height_is = refl; width_is = refl; settings_stay = refl; height_low = h; width_low = w }

  -- the planes of a frame at a black level, by stages
  pub plane_staged : (b : ℕ) (c : Colour) → plane f b c ≡ staged_plane f b c
  unfolding plane staged_plane mosaic
  plane_staged b c =
      raster_same f.height f.width _ _ (omega arith)
      (λ i j hi hj. ap (less_black b) (sym (staged_same (mosaic f) sides c i j hi hj)))

  -- and its map
  pub map_staged : decision_map f ≡ staged_map f
  unfolding decision_map staged_map mosaic
  map_staged =
      raster_same f.height f.width (decision_entry (mosaic f)) (staged_entry (mosaic f)) (omega arith)
      (λ i j hi hj. sym (staged_entry_same (mosaic f) sides i j hi hj))
