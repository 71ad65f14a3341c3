-- A changed mosaic has the outputs and the decisions of the first at matching points: stage by stage, from the samples around a site
-- to its output.
-- Assumes nothing.
use Rattle.std.specs.Prelude.{◌≡◌, refl, ℕ, ◌<◌, ◌≤◌, ℤ}
use Rattle.std.proofs.Common.{sym, ◌∙◌}
use Rattle.std.proofs.Math.Path.{ap, ap₂, fun_ext}
use Rattle.frame.specs.Sites.{Colour, red, green, blue, around}
use Rattle.frame.proofs.Reflection.{reflect_lt, reflect_mirror}
use Rattle.frame.specs.Colours.{trade}
use Rattle.method.specs.Settings.{Settings}
use Rattle.method.specs.Gradients.{Mosaic, around_in, samples_around, gradients, gradients_at}
use Rattle.method.specs.Green.{Direction, Outcome, estimate, first_pass, outcome_at, first_pass_or, green_or, less_eight, trial_difference, second_pass, second_pass_at, green_at, Decision, decision_code, chroma_decision_at, decision_of, decision_at, decision_entry}
use Rattle.method.proofs.GreenLaws.{green_is_decided}
use Rattle.method.proofs.PlaneLaws.{same_fused}
use Rattle.method.specs.Planes.{mean_under, straight_gradients, corner_gradients, green_difference, straight, mean_two_off, final_difference, same, corners, chroma_site_difference, colour_difference, green_quarters, quarters, output}
use Rattle.correspondence.specs.Comparison.{Change, left_right, top_bottom, transposing, trading, matching_row, matching_column, changed_height, changed_width}
use Rattle.correspondence.proofs.SiteChanges.{act, act_directions, act_direction, act_outcome, gradients_changed, estimate_changed, first_pass_changed, first_pass_or_changed, act_direction_twice, second_pass_changed, straight_changed, corners_changed}
use Rattle.correspondence.proofs.Decisions.{act_decision, act_code, decided_changed, code_changed}
use Rattle.correspondence.proofs.MeanChanges.{straight_mean_changed, corner_mean_changed}

-- ---- two mosaics that correspond

-- a colour's name after a change
abbrev pub act_colour : Change → Colour → Colour
act_colour left_right c = c
act_colour top_bottom c = c
act_colour transposing c = c
act_colour trading c = trade c

-- q' has at each matching point what q has
abbrev pub Matches : {X : Type 0} → Change → Mosaic → (ℕ → ℕ → X) → (ℕ → ℕ → X) → Type 0
Matches g m q q' =
    (i j : ℕ) → i < m.height → j < m.width
    → q' (matching_row g m.height m.width i j) (matching_column g m.height m.width i j) ≡ q i j

-- m' has the sides of m after the change, and the settings of m
pub record Sides (g : Change) (m m' : Mosaic) : Type 0 where
  pub height_is : m'.height ≡ changed_height g m.height m.width
  pub width_is : m'.width ≡ changed_width g m.height m.width
  pub settings_stay : m'.settings ≡ m.settings
  pub height_low : 2 ≤ m.height
  pub width_low : 2 ≤ m.width

-- m' is m after the change
pub record Changed (g : Change) (m m' : Mosaic) : Type 0 where
  pub sides : Sides g m m'
  pub samples : Matches g m m.sample_at m'.sample_at
  pub colours : Matches g m (λ i j. act_colour g (m.colour_at i j)) m'.colour_at

-- what stands around the matching point
pub around_changed : {X : Type 0} (g : Change) (m m' : Mosaic) → Sides g m m' → (q q' : ℕ → ℕ → X) → Matches g m q q'
    → Matches g m (λ i j. act g (around_in m q i j)) (around_in m' q')
unfolding around
around_changed left_right m m' s q q' e i j hi hj = fun_ext λ r. fun_ext λ c.
    rw (s.height_is, s.width_is, reflect_mirror m.width j c s.width_low hj)
    (e _ _ (reflect_lt _ _ s.height_low) (reflect_lt _ _ s.width_low))
around_changed top_bottom m m' s q q' e i j hi hj = fun_ext λ r. fun_ext λ c.
    rw (s.height_is, s.width_is, reflect_mirror m.height i r s.height_low hi)
    (e _ _ (reflect_lt _ _ s.height_low) (reflect_lt _ _ s.width_low))
around_changed transposing m m' s q q' e i j hi hj = fun_ext λ r. fun_ext λ c.
    rw (s.height_is, s.width_is) (e _ _ (reflect_lt _ _ s.height_low) (reflect_lt _ _ s.width_low))
around_changed trading m m' s q q' e i j hi hj = fun_ext λ r. fun_ext λ c.
    rw (s.height_is, s.width_is) (e _ _ (reflect_lt _ _ s.height_low) (reflect_lt _ _ s.width_low))

-- ---- colours

same_changed : (g : Change) (c d : Colour) → same (act_colour g c) (act_colour g d) ≡ same c d
same_changed left_right c d = refl
same_changed top_bottom c d = refl
same_changed transposing c d = refl
same_changed trading red red = refl
same_changed trading red green = refl
same_changed trading red blue = refl
same_changed trading green red = refl
same_changed trading green green = refl
same_changed trading green blue = refl
same_changed trading blue red = refl
same_changed trading blue green = refl
same_changed trading blue blue = refl

green_stays : (g : Change) → act_colour g green ≡ green
green_stays left_right = refl
green_stays top_bottom = refl
green_stays transposing = refl
green_stays trading = refl

same_green : (g : Change) (c : Colour) → same (act_colour g c) green ≡ same c green
same_green g c = ap (same (act_colour g c)) (sym (green_stays g)) ∙ same_changed g c green

decision_of_changed : (g : Change) (c : Colour) (d : Decision)
    → decision_of (act_colour g c) (act_decision g d) ≡ act_decision g (decision_of c d)
decision_of_changed left_right c d = refl
decision_of_changed top_bottom c d = refl
decision_of_changed transposing red d = refl
decision_of_changed transposing green d = refl
decision_of_changed transposing blue d = refl
decision_of_changed trading red d = refl
decision_of_changed trading green d = refl
decision_of_changed trading blue d = refl

-- ---- the stages

module _ (g : Change) (m m' : Mosaic) (t : Changed g m m') where
  around_both : {X : Type 0} (q q' : ℕ → ℕ → X) → Matches g m q q' → Matches g m (λ i j. act g (around_in m q i j)) (around_in m' q')
  around_both q q' e = around_changed g m m' t.sides q q' e

  samples_both : Matches g m (λ i j. act g (samples_around m i j)) (samples_around m')
  samples_both = around_both m.sample_at m'.sample_at t.samples

  gradients_both : Matches g m (λ i j. act_directions g (gradients_at m i j)) (gradients_at m')
  unfolding gradients_at
  gradients_both i j hi hj = ap gradients (samples_both i j hi hj) ∙ gradients_changed g _

  outcome_both : Matches g m (λ i j. act_outcome g (outcome_at m i j)) (outcome_at m')
  unfolding outcome_at
  outcome_both i j hi hj =
      ap₂ (λ (s : Settings). first_pass s.threshold) t.sides.settings_stay (gradients_both i j hi hj) ∙ first_pass_changed _ g _

  green_or_both : (k : Direction) → Matches g m (green_or m k) (green_or m' (act_direction g k))
  unfolding green_or
  green_or_both k i j hi hj =
      ap₂ estimate
      (ap (λ (o : Outcome). first_pass_or o (act_direction g k)) (outcome_both i j hi hj) ∙ first_pass_or_changed g _ k)
      (samples_both i j hi hj)
      ∙ estimate_changed g _ _

  trial_both : (k : Direction) → Matches g m (trial_difference m k) (trial_difference m' (act_direction g k))
  unfolding trial_difference
  trial_both k i j hi hj = ap₂ less_eight (green_or_both k i j hi hj) (t.samples i j hi hj)

  trial_from : (k : Direction) → Matches g m (trial_difference m (act_direction g k)) (trial_difference m' k)
  trial_from k i j hi hj = rw (act_direction_twice g k) at (trial_both (act_direction g k) i j hi hj)

  second_pass_both : Matches g m (λ i j. act_direction g (second_pass_at m i j)) (second_pass_at m')
  unfolding second_pass_at
  second_pass_both i j hi hj =
      ap₂ (λ (s : Settings). second_pass s.reach) t.sides.settings_stay
      (fun_ext λ k. around_both (trial_difference m (act_direction g k)) (trial_difference m' k) (trial_from k) i j hi hj)
      ∙ second_pass_changed _ g (λ k. around_in m (trial_difference m k) i j)

  decision_both : Matches g m (λ i j. act_decision g (decision_at m i j)) (decision_at m')
  unfolding decision_at chroma_decision_at
  decision_both i j hi hj =
      rw (
        t.colours i j hi hj,
        outcome_both i j hi hj,
        second_pass_both i j hi hj,
        decided_changed g (outcome_at m i j) (second_pass_at m i j),
      )
      (decision_of_changed g (m.colour_at i j) _)

  -- the code at the matching point
  pub entry_both : Matches g m (λ i j. act_code g (decision_entry m i j)) (decision_entry m')
  unfolding decision_entry
  entry_both i j hi hj = ap decision_code (decision_both i j hi hj) ∙ code_changed g (decision_at m i j)

  green_both : Matches g m (green_at m) (green_at m')
  green_both i j hi hj =
      green_is_decided m' _ _ ∙ rw (second_pass_both i j hi hj) (green_or_both (second_pass_at m i j) i j hi hj) ∙ sym (green_is_decided m i j)

  green_difference_both : Matches g m (green_difference m) (green_difference m')
  unfolding green_difference
  green_difference_both i j hi hj = ap₂ less_eight (green_both i j hi hj) (t.samples i j hi hj)

  straight_mean_both : (k : ℕ) (q q' : ℕ → ℕ → ℤ) → Matches g m q q'
      → Matches g m (λ i j. mean_under straight_gradients (gradients_at m i j) (straight k (around_in m q i j)))
      (λ i j. mean_under straight_gradients (gradients_at m' i j) (straight k (around_in m' q' i j)))
  straight_mean_both k q q' e i j hi hj =
      ap₂ (mean_under straight_gradients) (gradients_both i j hi hj) (ap (straight k) (around_both q q' e i j hi hj) ∙ straight_changed k g _)
      ∙ straight_mean_changed g _ _

  corner_mean_both : (q q' : ℕ → ℕ → ℤ) → Matches g m q q'
      → Matches g m (λ i j. mean_under corner_gradients (gradients_at m i j) (corners (around_in m q i j)))
      (λ i j. mean_under corner_gradients (gradients_at m' i j) (corners (around_in m' q' i j)))
  corner_mean_both q q' e i j hi hj =
      ap₂ (mean_under corner_gradients) (gradients_both i j hi hj) (ap corners (around_both q q' e i j hi hj) ∙ corners_changed g _)
      ∙ corner_mean_changed g _ _

  final_difference_both : Matches g m (final_difference m) (final_difference m')
  unfolding final_difference mean_two_off
  final_difference_both i j hi hj =
      same_fused (ap (λ (s : Settings). s.share) t.sides.settings_stay) (green_difference_both i j hi hj)
      (straight_mean_both 2 (green_difference m) (green_difference m') green_difference_both i j hi hj)

  chroma_site_both : (c : Colour) → Matches g m (chroma_site_difference m c) (chroma_site_difference m' (act_colour g c))
  unfolding chroma_site_difference
  chroma_site_both c i j hi hj =
      rw (
        t.colours i j hi hj,
        same_changed g (m.colour_at i j) c,
        final_difference_both i j hi hj,
        corner_mean_both (final_difference m) (final_difference m') final_difference_both i j hi hj,
      )

  colour_difference_both : (c : Colour) → Matches g m (colour_difference m c) (colour_difference m' (act_colour g c))
  unfolding colour_difference
  colour_difference_both c i j hi hj =
      rw (
        t.colours i j hi hj,
        same_green g (m.colour_at i j),
        chroma_site_both c i j hi hj,
        straight_mean_both 1 (chroma_site_difference m c) (chroma_site_difference m' (act_colour g c)) (chroma_site_both c) i j hi hj,
      )

  green_quarters_both : Matches g m (green_quarters m) (green_quarters m')
  unfolding green_quarters
  green_quarters_both i j hi hj =
      rw (t.colours i j hi hj, same_green g (m.colour_at i j), t.samples i j hi hj, final_difference_both i j hi hj)

  quarters_both : (c : Colour) → Matches g m (quarters m c) (quarters m' (act_colour g c))
  unfolding quarters
  quarters_both c i j hi hj = rw (same_green g c, green_quarters_both i j hi hj, colour_difference_both c i j hi hj)

  -- the output at the matching point, under the colour's name after the change
  pub output_both : (c : Colour) → Matches g m (output m c) (output m' (act_colour g c))
  unfolding output
  output_both c i j hi hj = rw (t.colours i j hi hj, same_changed g (m.colour_at i j) c, t.samples i j hi hj, quarters_both c i j hi hj)
