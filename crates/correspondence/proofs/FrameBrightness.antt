-- A brightened frame is admitted, and its mosaic is the brighter mosaic. Assumes nothing.
use Rattle.std.specs.Prelude.{◌≡◌, refl, List, [], ◌∷◌, map, ℕ, zero, suc, ◌+◌, ◌*◌, ◌<◌, ◌≤◌, ℤ, pos, ◌+ℤ◌, ◌≤ℤ◌}
use Rattle.std.proofs.Math.Path.{sym, ap}
use Rattle.std.proofs.Common.{◌∙◌, arith}
use Rattle.std.proofs.Math.Arith.{digits_lt}
use Rattle.std.proofs.Math.IntN.{nat_abs}
use Rattle.std.proofs.Math.ListN.{length, get_or, length-map}
use Rattle.toolkit.specs.Differences.{as_difference}
use Rattle.toolkit.specs.Orders.{to_naturals}
use Rattle.toolkit.specs.Naturals.{not_negative}
use Rattle.frame.specs.Sites.{Frame, Colour, sample, highest_sample}
use Rattle.answers.specs.Given.{Given}
use Rattle.answers.specs.Calls.{Admitted}
use Rattle.frame.proofs.Sites.{side_low}
use Rattle.method.specs.Gradients.{mosaic}
use Rattle.method.specs.Planes.{output, less_black, entry_at}
use Rattle.correspondence.specs.Comparison.{brightened, KeepsRange, SumsAreSamples, number_for, given_brightened}
use Rattle.method.proofs.PlaneLaws.{number_is_output, entry_is_code}
use Rattle.correspondence.proofs.Brightness.{Brighter, entry_same, output_brighter}

get_d_map : {A B : Type 0} (h : A → B) (l : List A) (n : ℕ) (b : B) (a : A) → n < length l → get_or (map h l) n b ≡ h (get_or l n a)
get_d_map h [] n b a lt = absurd (omega arith)
get_d_map h (x ∷ l) zero b a lt = refl
get_d_map h (x ∷ l) (suc n) b a lt = get_d_map h l n b a (omega arith)

abs_most : (x : ℤ) (n : ℕ) → pos 0 ≤ℤ x → x ≤ℤ pos n → nat_abs x ≤ n
abs_most x n = rw (as_difference x) (simp to_naturals (omega arith))

-- what is added before the black level comes off is added after
less_black_adds : (b : ℕ) (v k : ℤ) → less_black b (v +ℤ k) ≡ less_black b v +ℤ k
unfolding less_black
less_black_adds b v k = rw (as_difference v, as_difference k) (simp to_naturals (omega arith))

module _ (k : ℤ) (f : Frame) (a : Admitted f) (keeps : KeepsRange k f) where
  pub brightened_admitted : Admitted (brightened k f)
  unfolding brightened
  brightened_admitted = record {
    width_allowed = a.width_allowed;
    height_allowed = a.height_allowed;
    phase_is_allowed = a.phase_is_allowed;
    samples_count = length-map f.samples _ ∙ a.samples_count;
    samples_in_range = λ n h. in_range n (rw (length-map f.samples (λ z. nat_abs (pos z +ℤ k))) at h);
  }
    where
      in_range : (n : ℕ) → n < length f.samples → get_or (map (λ z. nat_abs (pos z +ℤ k)) f.samples) n 0 ≤ highest_sample
      in_range n h =
          rw (get_d_map (λ z. nat_abs (pos z +ℤ k)) f.samples n 0 0 h)
          (abs_most (pos (get_or f.samples n 0) +ℤ k) highest_sample (keeps n h).0 (keeps n h).1)

  pub sums_are_samples : SumsAreSamples k f
  unfolding brightened
  sums_are_samples n h =
      rw (get_d_map (λ z. nat_abs (pos z +ℤ k)) f.samples n 0 0 h) (not_negative (pos (get_or f.samples n 0) +ℤ k) (keeps n h).0)

  sample_brightened : (i j : ℕ) → i < f.height → j < f.width → pos (sample (brightened k f) i j) ≡ pos (sample f i j) +ℤ k
  unfolding brightened sample
  sample_brightened i j hi hj = sums_are_samples (i * f.width + j) (rw a.samples_count (digits_lt hi hj))

  brighter_mosaic : Brighter k (mosaic f) (mosaic (brightened k f))
  unfolding mosaic brightened
  brighter_mosaic = record {
    sides = record {
      height_is = refl;
      width_is = refl;
      settings_stay = refl;
      height_low = side_low a.height_allowed;
      width_low = side_low a.width_allowed;
    };
    samples = sample_brightened;
    colours = λ i j hi hj. refl;
  }

  pub entry_brightened : (i j : ℕ) → i < f.height → j < f.width → entry_at (brightened k f) i j ≡ entry_at f i j
  unfolding mosaic brightened
  entry_brightened i j hi hj =
      entry_is_code (brightened k f) i j hi hj
      ∙ (entry_same k (mosaic f) (mosaic (brightened k f)) brighter_mosaic i j hi hj ∙ sym (entry_is_code f i j hi hj))

module _ (k : ℤ) (given : Given) (a : Admitted given.frame) (keeps : KeepsRange k given.frame) where
  pub number_brightened : (c : Colour) (i j : ℕ) → i < given.frame.height → j < given.frame.width
      → number_for (given_brightened k given) c i j ≡ number_for given c i j +ℤ k
  unfolding mosaic brightened
  number_brightened c i j hi hj =
      let f : Frame = given.frame in
      let b : ℕ = given.black in
      number_is_output (brightened k f) b c i j hi hj
      ∙ (ap (less_black b) (output_brighter k (mosaic f) (mosaic (brightened k f)) (brighter_mosaic k f a keeps) c i j hi hj)
      ∙ (less_black_adds b (output (mosaic f) c i j) k
      ∙ ap (λ (x : ℤ). x +ℤ k) (sym (number_is_output f b c i j hi hj))))
