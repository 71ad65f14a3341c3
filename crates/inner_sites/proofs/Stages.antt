-- Stage by stage, from the samples to the three numbers: alike at two sites whose surroundings are alike, at every reach. Assumes nothing.
use Rattle.std.specs.Prelude.{◌≡◌, ℕ, ◌+◌, ℤ}
use Rattle.std.proofs.Math.Path.{refl, fun_ext}
use Rattle.std.proofs.Common.{sym, ◌∙◌, ap, ap₂, arith}
use Rattle.frame.specs.Sites.{Colour, around}
use Rattle.method.specs.Settings.{Settings}
use Rattle.method.specs.Gradients.{Mosaic, around_in, samples_around, gradients_at}
use Rattle.method.specs.Green.{Direction, Outcome, estimate, first_pass, outcome_at, first_pass_or, green_or, trial_difference, second_pass, second_pass_at, chroma_decision_at, decided, decision_at, decision_entry, green_at, less_eight}
use Rattle.method.proofs.GreenLaws.{green_is_decided}
use Rattle.method.proofs.PlaneLaws.{same_fused}
use Rattle.method.specs.Planes.{straight_gradients, mean_under, straight, green_difference, mean_two_off, final_difference, corners, chroma_site_difference, colour_difference, green_quarters, quarters, output}
use Rattle.inner_sites.specs.Distances.{gradient_distance, enhancement_distance, neighbour_distance, differences_off, finals_off, greens_off, trials_off, reading_distance}
use Rattle.inner_sites.proofs.StepDistances.{gradients_read, estimates_read, second_pass_read, straight_reads, corners_read}
use Rattle.inner_sites.proofs.Surroundings.{Alike, AlikeAt, read_alike, alike_nearer, sample_alike, colour_alike}

module _ {reach : ℕ} where
  -- ---- what is read trials-off away: the first pass

  gradients_alike : AlikeAt reach (trials_off reach) gradients_at
  unfolding gradients_at reading_distance
  gradients_alike = read_alike gradients_read (sample_alike (trials_off reach + gradient_distance) (omega arith)) (omega arith)

  estimate_alike : (k : Direction) → AlikeAt reach (trials_off reach) (λ m i j. estimate k (samples_around m i j))
  unfolding reading_distance
  estimate_alike k = read_alike (estimates_read k) (sample_alike (trials_off reach + gradient_distance) (omega arith)) (omega arith)

  outcome_alike : AlikeAt reach (trials_off reach) outcome_at
  unfolding outcome_at
  outcome_alike m m' i j i' j' a = ap₂ (λ (s : Settings). first_pass s.threshold) a.settings_same (gradients_alike m m' i j i' j' a)

  green_or_alike : (k : Direction) → AlikeAt reach (trials_off reach) (λ m i j. green_or m k i j)
  unfolding green_or
  green_or_alike k m m' i j i' j' a =
      estimate_alike (first_pass_or (outcome_at m i j) k) m m' i j i' j' a
      ∙ ap (λ (o : Outcome). estimate (first_pass_or o k) (samples_around m' i' j')) (outcome_alike m m' i j i' j' a)

  trial_alike : AlikeAt {X = Direction → ℤ} reach (trials_off reach) (λ m i j k. trial_difference m k i j)
  unfolding trial_difference reading_distance
  trial_alike m m' i j i' j' a = fun_ext λ k.
      ap₂ less_eight (green_or_alike k m m' i j i' j' a) (sample_alike (trials_off reach) (omega arith) m m' i j i' j' a)

  -- ---- greens-off away: the second pass

  passes_alike : AlikeAt reach greens_off (λ m i j. second_pass reach (λ k. around_in m (trial_difference m k) i j))
  unfolding trials_off reading_distance around
  passes_alike = read_alike (second_pass_read reach) trial_alike (omega arith)

  second_pass_alike : AlikeAt reach greens_off second_pass_at
  unfolding second_pass_at
  second_pass_alike m m' i j i' j' a =
      ap (λ (n : ℕ). second_pass n (λ k. around_in m (trial_difference m k) i j)) a.reach_is ∙ passes_alike m m' i j i' j' a
      ∙ ap (λ (n : ℕ). second_pass n (λ k. around_in m' (trial_difference m' k) i' j'))
      (sym a.reach_is ∙ ap (λ (s : Settings). s.reach) a.settings_same)

  -- what was alike at an earlier step is alike here
  module _ {X : Type 0} {q : Mosaic → ℕ → ℕ → X} where
    from_trials : AlikeAt reach (trials_off reach) q → AlikeAt reach greens_off q
    unfolding trials_off
    from_trials = alike_nearer greens_off (trials_off reach) (omega arith)

    from_greens : AlikeAt reach greens_off q → AlikeAt reach finals_off q
    unfolding greens_off
    from_greens = alike_nearer finals_off greens_off (omega arith)

    from_finals : AlikeAt reach finals_off q → AlikeAt reach differences_off q
    unfolding finals_off
    from_finals = alike_nearer differences_off finals_off (omega arith)

    from_differences : AlikeAt reach differences_off q → AlikeAt reach 0 q
    from_differences = alike_nearer 0 differences_off (omega arith)

  decision_alike : AlikeAt reach greens_off chroma_decision_at
  unfolding chroma_decision_at
  decision_alike m m' i j i' j' a =
      ap₂ decided (from_trials outcome_alike m m' i j i' j' a) (second_pass_alike m m' i j i' j' a)

  green_alike : AlikeAt reach greens_off green_at
  green_alike m m' i j i' j' a =
      green_is_decided m i j ∙ from_trials (green_or_alike (second_pass_at m i j)) m m' i j i' j' a
      ∙ ap (λ (k : Direction). green_or m' k i' j') (second_pass_alike m m' i j i' j' a) ∙ sym (green_is_decided m' i' j')

  green_difference_alike : AlikeAt reach greens_off green_difference
  unfolding green_difference reading_distance trials_off
  green_difference_alike m m' i j i' j' a =
      ap₂ less_eight (green_alike m m' i j i' j' a) (sample_alike greens_off (omega arith) m m' i j i' j' a)

  -- ---- finals-off away: enhancement

  two_off_alike : AlikeAt reach finals_off (λ m i j. straight 2 (around_in m (green_difference m) i j))
  unfolding enhancement_distance greens_off trials_off reading_distance
  two_off_alike = read_alike (straight_reads 2) green_difference_alike (omega arith)

  mean_alike : AlikeAt reach finals_off mean_two_off
  unfolding mean_two_off
  mean_alike m m' i j i' j' a =
      ap₂ (mean_under straight_gradients) (from_greens (from_trials gradients_alike) m m' i j i' j' a) (two_off_alike m m' i j i' j' a)

  final_alike : AlikeAt reach finals_off final_difference
  unfolding final_difference
  final_alike m m' i j i' j' a =
      same_fused (ap (λ (s : Settings). s.share) a.settings_same) (from_greens green_difference_alike m m' i j i' j' a)
      (mean_alike m m' i j i' j' a)

  -- ---- differences-off away: the differences of red and blue at red and blue sites

  corners_alike : AlikeAt reach differences_off (λ m i j. corners (around_in m (final_difference m) i j))
  unfolding finals_off greens_off trials_off reading_distance
  corners_alike = read_alike corners_read final_alike (omega arith)

  chroma_alike : (c : Colour) → AlikeAt reach differences_off (λ m i j. chroma_site_difference m c i j)
  unfolding chroma_site_difference finals_off greens_off trials_off reading_distance
  chroma_alike c m m' i j i' j' a =
      rw (
        colour_alike differences_off (omega arith) m m' i j i' j' a,
        from_finals final_alike m m' i j i' j' a,
        corners_alike m m' i j i' j' a,
        from_finals (from_greens (from_trials gradients_alike)) m m' i j i' j' a,
      ) refl

  -- ---- the three numbers

  one_off_alike : (c : Colour) → AlikeAt reach 0 (λ m i j. straight 1 (around_in m (chroma_site_difference m c) i j))
  unfolding neighbour_distance differences_off finals_off greens_off trials_off reading_distance
  one_off_alike c = read_alike (straight_reads 1) (chroma_alike c) (omega arith)

  module _ (m m' : Mosaic) (i j i' j' : ℕ) (a : Alike reach m m' 0 i j i' j') where
    colour_difference_alike : (c : Colour) → colour_difference m c i j ≡ colour_difference m' c i' j'
    unfolding colour_difference
    colour_difference_alike c =
        rw (
          colour_alike 0 (omega arith) m m' i j i' j' a,
          one_off_alike c m m' i j i' j' a,
          from_differences (from_finals (from_greens (from_trials gradients_alike))) m m' i j i' j' a,
          from_differences (chroma_alike c) m m' i j i' j' a,
        ) refl

    quarters_alike : (c : Colour) → quarters m c i j ≡ quarters m' c i' j'
    unfolding quarters green_quarters
    quarters_alike c =
        rw (
          colour_alike 0 (omega arith) m m' i j i' j' a,
          sample_alike 0 (omega arith) m m' i j i' j' a,
          from_differences (from_finals final_alike) m m' i j i' j' a,
          colour_difference_alike c,
        ) refl

    pub output_alike : (c : Colour) → output m c i j ≡ output m' c i' j'
    unfolding output
    output_alike c =
        rw (
          colour_alike 0 (omega arith) m m' i j i' j' a,
          sample_alike 0 (omega arith) m m' i j i' j' a,
          quarters_alike c,
        ) refl

    pub entry_alike : decision_entry m i j ≡ decision_entry m' i' j'
    unfolding decision_entry decision_at
    entry_alike =
        rw (
          colour_alike 0 (omega arith) m m' i j i' j' a,
          from_differences (from_finals (from_greens decision_alike)) m m' i j i' j' a,
        ) refl
