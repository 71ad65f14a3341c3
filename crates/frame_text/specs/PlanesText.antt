-- The lines of three clamped planes, and that those of the planes of either tone are the lines of the frame. Assumes nothing.
use Rattle.std.specs.Prelude.{◌≡◌, refl, false, ℕ, ◌*◌, ◌/◌, ◌%◌, ◌≤◌, T, ℤ, pos, negsuc, nat_abs, length, get_or}
use Rattle.std.proofs.Common.{◌∙◌, ap, subst, div-add-mod', arith, Fits, SFits, to_z, of_z, to_z-of_z}
use mathlib.Core.List.{List, [], ◌∷◌, ◌++◌}
use Rattle.std.proofs.lemmas.List.{length-map}
use Rattle.std.proofs.Math.ListN.{get_or-map}
use Rattle.std.specs.Int.Signed.{non_neg, lt_z}
use Rattle.std.specs.Int.{w32, w64}
use Rattle.toolkit.specs.Tests.{by_test, ltb_ge}
use Rattle.toolkit.specs.Raster.{length_raster}
use Rattle.frame.specs.Sites.{Frame, Colour, red, green, blue, highest_sample}
use Rattle.answers.specs.Calls.{held, clamped}
use Rattle.method.specs.Planes.{plane}
use Rattle.frame_file.specs.Lists.{joined, joined_cong}
use Rattle.tone_curve.specs.ToneCurve.{entry_count, may_be_entry, first_passing, curve_entry, curved_number, curved}
use Rattle.tone_curve.proofs.OneCurve.{entry_at_most}
use Rattle.printing.specs.declared.Tone.{Tone}
use Rattle.printing.specs.declared.Tone.TheVariants.{Clamped, Curved}
use Rattle.printing.specs.Printing.{black_level, numbers_line, heading, toned, toned_at, site_text, frame_text}

-- entry k of a clamped plane, as a natural number
abbrev pub entry_of_clamped : List ℤ → ℕ → ℕ
entry_of_clamped l k = nat_abs (get_or l k (pos 0))

-- the line of the site at entry k of planes of W columns
unfoldable pub planes_line : ℕ → List ℤ → List ℤ → List ℤ → ℕ → List ℕ
planes_line W r g b k = numbers_line (k / W ∷ k % W ∷ entry_of_clamped r k ∷ entry_of_clamped g k ∷ entry_of_clamped b k ∷ [])

unfoldable pub text_of_planes : ℕ → List ℤ → List ℤ → List ℤ → List ℕ
text_of_planes W r g b = heading ++ joined (length r) (planes_line W r g b)

-- ---- clamped numbers

-- every number is from 0 to 1,023
pub record ClampedNumbers (l : List ℤ) : Type 0 where
  pub low : (k : ℕ) → T (non_neg (get_or l k (pos 0)))
  pub high : (k : ℕ) → entry_of_clamped l k ≤ 1023

not_below_zero : (v : ℤ) → lt_z v (pos 0) ≡ false → T (non_neg v)
not_below_zero (pos n) e = tt
not_below_zero (negsuc n) e = absurd (let z : ◌≡◌ {A = ℕ} 0 1 = cc in omega arith)

held_low : (v : ℤ) → T (non_neg (held highest_sample v))
unfolding held highest_sample
held_low v = by_test (lt_z v (pos 0)) _
    (λ t. rw t tt)
    (λ t. by_test (lt_z (pos 1023) v) _ (λ u. rw (t, u) tt) (λ u. rw (t, u) (not_below_zero v t)))

small : (v : ℤ) → T (non_neg v) → lt_z (pos 1023) v ≡ false → nat_abs v ≤ 1023
small (pos n) h e = ltb_ge 1023 n e
small (negsuc n) h e = absurd h

held_high : (v : ℤ) → nat_abs (held highest_sample v) ≤ 1023
unfolding held highest_sample
held_high v = by_test (lt_z v (pos 0)) _
    (λ t. rw t (omega arith))
    (λ t. by_test (lt_z (pos 1023) v) _ (λ u. rw (t, u) (omega arith)) (λ u. rw (t, u) (small v (not_below_zero v t) u)))

getD_clamped : (l : List ℤ) (k : ℕ) → get_or (clamped highest_sample l) k (pos 0) ≡ held highest_sample (get_or l k (pos 0))
unfolding clamped held highest_sample
getD_clamped l k = get_or-map (held highest_sample) l k (pos 0)

pub clamped_clamped : (l : List ℤ) → ClampedNumbers (clamped highest_sample l)
clamped_clamped l = record {
  low = λ k. rw (getD_clamped l k) (held_low (get_or l k (pos 0)));
  high = λ k. rw (getD_clamped l k) (held_high (get_or l k (pos 0)));
}

-- such a number, kept in 32 bits and read back, is not below zero and fits 64 bits
pub cast_number : (z : ℤ) → SFits w32 z → T (non_neg z) → nat_abs z ≤ 1023
    → T (non_neg (to_z w32 (of_z w32 z))) × Fits w64 (nat_abs (to_z w32 (of_z w32 z)))
cast_number z f low high = rw (to_z-of_z f) (low, record { fits = omega arith })

-- ---- numbers through the curve

curved_zero : curved_number (pos 0) ≡ pos 0
unfolding curved_number curve_entry entry_count may_be_entry first_passing
curved_zero = refl

get_curved : (l : List ℤ) (k : ℕ) → get_or (curved l) k (pos 0) ≡ curved_number (get_or l k (pos 0))
unfolding curved
get_curved l k =
    subst (λ (d : ℤ). get_or (curved l) k d ≡ curved_number (get_or l k (pos 0))) curved_zero (get_or-map curved_number l k (pos 0))

curved_clamped : (l : List ℤ) → ClampedNumbers l → ClampedNumbers (curved l)
unfolding curved_number
curved_clamped l c = record {
  low = λ k. rw (get_curved l k) tt;
  high = λ k. rw (get_curved l k) (entry_at_most (entry_of_clamped l k) (c.high k));
}

pub toned_clamped : (tone : Tone) (l : List ℤ) → ClampedNumbers (toned tone l)
unfolding toned
toned_clamped Clamped l = clamped_clamped l
toned_clamped Curved l = curved_clamped (clamped highest_sample l) (clamped_clamped l)

-- ---- the planes that develop leaves, with the tone

pub length_clamped_list : (l : List ℤ) → length (clamped highest_sample l) ≡ length l
unfolding clamped
length_clamped_list l = length-map l (held highest_sample)

pub length_toned_list : (tone : Tone) (l : List ℤ) → length (toned tone l) ≡ length l
unfolding toned curved
length_toned_list Clamped l = length_clamped_list l
length_toned_list Curved l = length-map (clamped highest_sample l) curved_number ∙ length_clamped_list l

pub length_plane : (f : Frame) (c : Colour) → length (plane f black_level c) ≡ f.height * f.width
unfolding plane
length_plane f c = length_raster f.height f.width _

pub length_toned : (tone : Tone) (f : Frame) (c : Colour) → length (toned tone (plane f black_level c)) ≡ f.height * f.width
length_toned tone f c = length_toned_list tone (plane f black_level c) ∙ length_plane f c

module _ (tone : Tone) (f : Frame) where
  abbrev toned_plane : Colour → List ℤ
  toned_plane c = toned tone (plane f black_level c)

  same_line : (k : ℕ)
      → planes_line f.width (toned_plane red) (toned_plane green) (toned_plane blue) k ≡ site_text tone f (k / f.width) (k % f.width)
  unfolding planes_line site_text toned_at
  same_line k = rw (div-add-mod' k f.width)

  pub frame_text_planes : text_of_planes f.width (toned_plane red) (toned_plane green) (toned_plane blue) ≡ frame_text tone f
  unfolding text_of_planes frame_text
  frame_text_planes =
      rw (length_toned tone f red)
      (ap (λ (l : List ℕ). heading ++ l) (joined_cong (f.height * f.width) _ _ (λ k h. same_line k)))
