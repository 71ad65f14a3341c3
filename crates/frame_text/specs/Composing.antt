-- A text composed in a lent buffer: the lines of the first k sites from position `at` on, the heading before them, the planes from which they
-- come. Assumes nothing.
use Rattle.std.specs.Prelude.{◌≡◌, refl, List, [], ◌∷◌, ℕ, ◌+◌, ◌/◌, ◌%◌, ◌<◌, ◌≤◌, ℤ, length}
use Rattle.std.proofs.Math.Path.{sym}
use Rattle.std.proofs.Common.{◌∙◌, arith, take-append-drop}
use Rattle.std.proofs.Math.Nat.{add-zero}
use Rattle.std.proofs.Math.Numerals.{add-one}
use Rattle.std.proofs.Math.ListN.{length-append}
use Rattle.toolkit.specs.Tests.{eqb_yes}
use Rattle.frame.specs.Sites.{highest_sample}
use Rattle.answers.specs.Calls.{in_order, clamp_answer, clamped, curve_answer, after, Answer, no_refusal}
use Rattle.answers.proofs.Clamped.{equal_lengths}
use Rattle.curve.proofs.Plane.{clamped_passes}
use Rattle.frame_file.specs.Lists.{joined, put_at}
use Rattle.printing.specs.Printing.{numbers_line, heading}
use Rattle.text.specs.Put.{Put, put_then, put_as, put_length}
use Rattle.frame_text.specs.PlanesText.{entry_of_clamped, planes_line, text_of_planes, ClampedNumbers, length_clamped_list}
use Rattle.frame_text.specs.Room.{joined_longer, planes_text_fits}

-- the lines of the first k sites stand from `at` on
pub record Composed (W : ℕ) (r g b : List ℤ) (old : List ℕ) (at k : ℕ) (new : List ℕ) (next : ℕ) : Type 0 where
  pub below : k ≤ length r
  pub put : Put old at (joined k (planes_line W r g b)) new next
  pub size : length new ≡ length old

module _ (W : ℕ) (r g b : List ℤ) (old : List ℕ) (at : ℕ)
    (room : at + length (joined (length r) (planes_line W r g b)) ≤ length old) where
  pub composed_none : Composed W r g b old at 0 old at
  unfolding joined put_at
  composed_none = record {
    below = omega arith;
    put = record { placed = rw add-zero (sym (take-append-drop at old)); behind = sym (add-zero at) };
    size = refl;
  }

  module _ (k : ℕ) (new : List ℕ) (next : ℕ) (c : Composed W r g b old at k new next) (h : k < length r) where
    next_room : next + length (planes_line W r g b k) ≤ length new
    next_room = omega (arith, c.put.behind, c.size, joined_longer (length r) k (planes_line W r g b) h)

    module _ (x y z : ℕ) (ex : x ≡ entry_of_clamped r k) (ey : y ≡ entry_of_clamped g k) (ez : z ≡ entry_of_clamped b k) where
      line_is : numbers_line (k / W ∷ k % W ∷ x ∷ y ∷ z ∷ []) ≡ planes_line W r g b k
      unfolding planes_line
      line_is = rw (ex, ey, ez)

      pub line_room : next + length (numbers_line (k / W ∷ k % W ∷ x ∷ y ∷ z ∷ [])) ≤ length new
      line_room = rw line_is next_room

      pub composed_next : (last : List ℕ) (behind : ℕ) → Put new next (numbers_line (k / W ∷ k % W ∷ x ∷ y ∷ z ∷ [])) last behind
          → Composed W r g b old at (k + 1) last behind
      unfolding joined
      composed_next last behind p = record {
        below = omega arith;
        put = rw add-one (put_then (omega (arith, joined_longer (length r) k (planes_line W r g b) h)) c.put (put_as line_is p));
        size = put_length line_room p ∙ c.size;
      }

  pub composed_all : (k : ℕ) (new : List ℕ) (next : ℕ) → Composed W r g b old at k new next → length r ≤ k
      → Put old at (joined (length r) (planes_line W r g b)) new next
  composed_all k new next c h = let e : length r ≡ k = omega (arith, c.below) in rw e c.put

-- the heading, and the lines behind it
module _ (W : ℕ) (r g b : List ℤ) (cr : ClampedNumbers r) (cg : ClampedNumbers g) (cb : ClampedNumbers b) (few : length r ≤ 1024)
    (text : List ℕ) (room : 25623 ≤ length text) where
  fits : 23 + length (joined (length r) (planes_line W r g b)) ≤ length text
  unfolding text_of_planes heading
  fits = omega (arith, planes_text_fits W r g b cr cg cb few, length-append heading (joined (length r) (planes_line W r g b)))

  pub lines_room : (mid : List ℕ) (at : ℕ) → Put text 0 heading mid at → length mid ≡ length text
      → at + length (joined (length r) (planes_line W r g b)) ≤ length mid
  unfolding heading
  lines_room mid at p same = omega (arith, fits, p.behind)

  pub planes_put : (mid new : List ℕ) (at next : ℕ) → Put text 0 heading mid at
      → Put mid at (joined (length r) (planes_line W r g b)) new next → Put text 0 (text_of_planes W r g b) new next
  unfolding text_of_planes heading
  planes_put mid new at next p q = put_then (omega arith) p q

-- a plane clamped into one of equal length
pub clamp_done : (plane before last : List ℤ) (a : Answer) → length before ≡ length plane → a ≡ clamp_answer (length plane) (length before)
    → last ≡ after a (clamped highest_sample plane) before → last ≡ clamped highest_sample plane
unfolding clamp_answer in_order
clamp_done plane before last a same e left = left ∙ rw (e, eqb_yes same)

-- and it is not refused
pub clamp_allowed : (plane filled : ℕ) → filled ≡ plane → clamp_answer plane filled ≡ no_refusal
unfolding clamp_answer in_order
clamp_allowed plane filled same = rw (eqb_yes same)

-- nor does the curve refuse a clamped plane
pub curve_allowed : (plane : List ℤ) (filled : ℕ) → filled ≡ length plane → curve_answer (clamped highest_sample plane) filled ≡ no_refusal
curve_allowed plane filled same =
    equal_lengths (clamped highest_sample plane) filled (same ∙ sym (length_clamped_list plane)) ∙ clamped_passes plane
