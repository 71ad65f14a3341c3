-- Frames at a black level: a constant that keeps the samples in range, the black level taken off the samples beforehand, and the range of
-- the numbers. Assumes nothing.
use Rattle.std.specs.Prelude.{◌≡◌, refl, List, [], ◌∷◌, map, ℕ, zero, suc, ◌*◌, ◌-◌, ◌<◌, ◌≤◌, ℤ, pos, neg_ℤ, ◌+ℤ◌, ◌-ℤ◌, length, get_or, ◌≤ℤ◌}
use Rattle.std.proofs.Common.{sym, ◌∙◌, ap, ap₂, arith}
use Rattle.std.proofs.Math.IntN.{nat_abs}
use Rattle.std.proofs.lemmas.List.{length-map}
use Rattle.toolkit.specs.Differences.{as_difference}
use Rattle.toolkit.specs.Orders.{Ranged, to_naturals}
use Rattle.frame.specs.Sites.{Frame, Colour, highest_sample}
use Rattle.answers.specs.Given.{Given, given_at}
use Rattle.answers.specs.Calls.{Admitted, AdmittedAt}
use Rattle.answers.proofs.Admission.{admitted_at_zero}
use Rattle.method.specs.Planes.{number_at, output, less_black}
use Rattle.method.specs.Gradients.{mosaic}
use Rattle.correspondence.specs.Comparison.{brightened, KeepsRange, SumsAreSamples, taken_off, NoneBelow, number_for, entry_for, given_taken_off}
use Rattle.method.proofs.PlaneLaws.{number_is_output}
use Rattle.method.proofs.Range.{output_ranged}
use Rattle.method.proofs.Sizes.{samples_ranged, usual_allowed}
use Rattle.correspondence.proofs.FrameBrightness.{brightened_admitted, number_brightened, entry_brightened}

-- ---- brightened frames

-- a constant keeps the samples of f in range where the sums are samples, and those in range
module _ (k : ℤ) (f : Frame) (a : Admitted (brightened k f)) (sums : SumsAreSamples k f) where
  sum_in_range : (x : ℤ) (z : ℕ) → pos z ≡ x → z ≤ highest_sample → (pos 0 ≤ℤ x) × (x ≤ℤ pos highest_sample)
  sum_in_range x z = rw (as_difference x) (simp to_naturals (omega arith))

  pub sums_keep_range : KeepsRange k f
  unfolding brightened
  sums_keep_range n h =
      sum_in_range _ _ (sums n h) (a.samples_in_range n (rw (length-map f.samples (λ z. nat_abs (pos z +ℤ k))) h))

-- ---- b taken off beforehand

less : (b z : ℕ) → b ≤ z → z - b ≡ nat_abs (pos z +ℤ neg_ℤ (pos b))
less b z h = simp to_naturals (omega arith)

less_each : (b : ℕ) (l : List ℕ) → ((n : ℕ) → n < length l → b ≤ get_or l n 0)
    → map (λ z. z - b) l ≡ map (λ z. nat_abs (pos z +ℤ neg_ℤ (pos b))) l
less_each b [] each = refl
less_each b (z ∷ l) each = ap₂ ◌∷◌ (less b z (each zero (omega arith))) (less_each b l (λ n h. each (suc n) (omega arith)))

-- it is the constant −b
pub taken_off_is : (b : ℕ) (f : Frame) → NoneBelow b f → taken_off b f ≡ brightened (neg_ℤ (pos b)) f
unfolding taken_off brightened
taken_off_is b f none t = record f { samples = less_each b f.samples none t }

sample_less : (b z : ℕ) → b ≤ z → z ≤ highest_sample
    → (pos 0 ≤ℤ (pos z +ℤ neg_ℤ (pos b))) × ((pos z +ℤ neg_ℤ (pos b)) ≤ℤ pos highest_sample)
sample_less b z h l = simp to_naturals (omega arith)

-- a number less 0 and with −b added is that number less b
less_zero : (b : ℕ) (v : ℤ) → less_black 0 v +ℤ neg_ℤ (pos b) ≡ less_black b v
unfolding less_black
less_zero b v = rw (as_difference v) (simp to_naturals (omega arith))

module _ (given : Given) (a : Admitted given.frame) (none : NoneBelow given.black given.frame) where
  less_keeps_range : KeepsRange (neg_ℤ (pos given.black)) given.frame
  less_keeps_range n h = sample_less given.black _ (none n h) (a.samples_in_range n h)

  pub taken_off_admitted : AdmittedAt (given_taken_off given)
  taken_off_admitted =
      rw (taken_off_is given.black given.frame none)
      (admitted_at_zero _ (brightened_admitted (neg_ℤ (pos given.black)) given.frame a less_keeps_range))

  pub number_taken_off : (c : Colour) (i j : ℕ) → i < given.frame.height → j < given.frame.width
      → number_for (given_taken_off given) c i j ≡ number_for given c i j
  number_taken_off c i j hi hj =
      let f : Frame = given.frame in
      let b : ℕ = given.black in
      rw (taken_off_is b f none)
      (number_brightened (neg_ℤ (pos b)) (given_at f 0) a less_keeps_range c i j hi hj
      ∙ (ap (λ (x : ℤ). x +ℤ neg_ℤ (pos b)) (number_is_output f 0 c i j hi hj)
      ∙ (less_zero b (output (mosaic f) c i j) ∙ sym (number_is_output f b c i j hi hj))))

  pub entry_taken_off : (i j : ℕ) → i < given.frame.height → j < given.frame.width
      → entry_for (given_taken_off given) i j ≡ entry_for given i j
  entry_taken_off i j hi hj =
      rw (taken_off_is given.black given.frame none)
      (entry_brightened (neg_ℤ (pos given.black)) given.frame a less_keeps_range i j hi hj)

-- ---- the range

pub range_less_black : (T b : ℕ) (v : ℤ) → Ranged (2 * T) (3 * T) v
    → ((neg_ℤ (pos (2 * T)) -ℤ pos b) ≤ℤ less_black b v) × (less_black b v ≤ℤ (pos (3 * T) -ℤ pos b))
unfolding less_black
range_less_black T b v = rw (as_difference v) (simp to_naturals (omega arith))

-- the numbers of a frame whose samples are from 0 to the highest
pub number_ranged : {highest : ℕ} (f : Frame) → 2 ≤ f.height → 2 ≤ f.width → ((k : ℕ) → get_or f.samples k 0 ≤ highest)
    → (b : ℕ) (c : Colour) (i j : ℕ) → i < f.height → j < f.width
    → ((neg_ℤ (pos (2 * highest)) -ℤ pos b) ≤ℤ number_at f b c i j) × (number_at f b c i j ≤ℤ (pos (3 * highest) -ℤ pos b))
unfolding mosaic
number_ranged {highest} f tall wide ranged b c i j hi hj =
    rw (number_is_output f b c i j hi hj)
    (range_less_black highest b _
    (output_ranged highest (mosaic f) (samples_ranged f tall wide ranged) usual_allowed c i j hi hj))
