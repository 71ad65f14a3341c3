-- What a call answers by its tests in order is a row of the table, for any tests; and the tests of develop, write, clamp and curve.
-- `ReadRows` has those of read. Assumes nothing.
use Rattle.std.specs.Prelude.{◌≡◌, refl, Bool, true, false, not, ◌&&◌, ◌||◌, ℕ, zero, suc, ◌+◌, ◌*◌, ◌<◌, ◌≤◌, ℤ, pos, length, get_or, Err}
use Rattle.std.proofs.Common.{subst, arith}
use Rattle.std.specs.Int.Signed.{lt_z}
use mathlib.Core.List.{List, [], ◌∷◌}
use Rattle.answers.specs.declared.Refusal.{Refusal}
use Rattle.answers.specs.declared.Refusal.TheVariants.{Size, Phase, MosaicLength, BufferLength, Sample, BlackLevel, UnderBlack, Unclamped}
use Rattle.frame.specs.Sites.{Frame, side_allowed, phase_allowed, highest_sample}
use Rattle.answers.specs.Calls.{number_and_place, returned, test, and_then, in_order, first_failing, sides_answer, phase_answer, mosaic_answer, samples_answer, lengths_allowed, develop_answer, clamp_answer, highest_black, black_answer, most_under, under_answer, unclamped, unclamped_answer, curve_answer, Answer, no_refusal, Clamped}
use Rattle.answers.specs.declared.Lengths.{Lengths}
use Rattle.frame_file.specs.FrameFile.{file_length, write_answer}
use Rattle.demands.specs.Conditions.{Decides, holds, fails, same_decides, both_decide, equal_decides, at_most_decides, not_below_decides, side_decides, by_condition}
use Rattle.demands.specs.Rows.{row, Test, RowOf, refused_here, later, done, unless, each, SidesAllowed, develop_tests, write_tests, clamp_tests, curve_tests}

-- ---- laws: the sides

sides_decide : (f : Frame) → Decides (SidesAllowed f) (side_allowed f.width && side_allowed f.height)
sides_decide f =
    same_decides
    (λ both. record {
      width_low = both.0.0;
      width_high = both.0.1;
      height_low = both.1.0;
      height_high = both.1.1;
    })
    (λ s. ((s.width_low, s.width_high), (s.height_low, s.height_high)))
    (both_decide (side_decides f.width) (side_decides f.height))

-- ---- laws: samples and numbers, one by one

-- what numbers 5, 12 and 13 are about: every entry meets a condition, or the first that does not; d stands for one past the end
data EntriesAre {A : Type 0} (d : A) (P : A → Type 0) (why : ℕ → Refusal) (l : List A) (position : ℕ) : Answer → Type 0 where
  all_meet : ((k : ℕ) → k < length l → P (get_or l k d)) → EntriesAre d P why l position no_refusal
  first_fails : (k : ℕ) → k < length l → ¬ P (get_or l k d) → ((m : ℕ) → m < k → P (get_or l m d))
      → EntriesAre d P why l position (Err (why (position + k)))

module _ {A : Type 0} (d : A) (P : A → Type 0) (why : ℕ → Refusal) where
  front : (z : A) (l : List A) (n : ℕ) → P z → ((k : ℕ) → k < n → P (get_or l k d)) → (k : ℕ) → k < suc n → P (get_or (z ∷ l) k d)
  front z l n here each zero h = here
  front z l n here each (suc k) h = each k (omega arith)

  next_entry : (z : A) (l : List A) (position : ℕ) {a : Answer} → P z → EntriesAre d P why l (suc position) a
      → EntriesAre d P why (z ∷ l) position a
  next_entry z l position here (all_meet each) = all_meet (front z l (length l) here each)
  next_entry z l position here (first_fails k h refuted before) =
      let e : position + suc k ≡ suc position + k = omega arith in
      subst (λ (n : ℕ). EntriesAre d P why (z ∷ l) position (Err (why n))) e
      (first_fails (suc k) (omega arith) refuted (front z l k here before))

  this_entry : (z : A) (l : List A) (position : ℕ) → ¬ P z → EntriesAre d P why (z ∷ l) position (Err (why position))
  this_entry z l position refuted =
      let e : position + 0 ≡ position = omega arith in
      subst (λ (n : ℕ). EntriesAre d P why (z ∷ l) position (Err (why n))) e
      (first_fails 0 (omega arith) refuted (λ m h. absurd (omega arith)))

  entries_are : (test : A → Bool) → ((z : A) → Decides (P z) (test z)) → (l : List A) (position : ℕ)
      → EntriesAre d P why l position (first_failing (λ position z. test z) why position l)
  unfolding first_failing
  entries_are test decides [] position = all_meet (λ k h. absurd (omega arith))
  entries_are test decides (z ∷ l) position =
      by_condition (λ a. EntriesAre d P why (z ∷ l) position (and_then a (first_failing (λ position z. test z) why (suc position) l))) _ _
      (decides z)
      (λ here. next_entry z l position here (entries_are test decides l (suc position)))
      (this_entry z l position)

-- ---- laws: any tests in order

-- an answer is that of a test
pub data Told (t : Test) : Answer → Type 0 where
  refuses : {why : Refusal} → t.Refuses (number_and_place why) → Told t (Err why)
  passes : t.Passes → Told t no_refusal

pub data AllTold : List Test → List Answer → Type 1 where
  none : AllTold [] []
  next : {t : Test} {a : Answer} {tests : List Test} {answers : List Answer} → Told t a → AllTold tests answers → AllTold (t ∷ tests) (a ∷ answers)

pub is_a_row : {tests : List Test} {answers : List Answer} → AllTold tests answers → RowOf tests (returned (in_order answers))
unfolding in_order
is_a_row none = done
is_a_row (next (refuses r) rest) = refused_here r
is_a_row (next (passes p) rest) = later p (is_a_row rest)

pub told : {P : Type 0} {holds_it : Bool} (why : Refusal) → Decides P holds_it → Told (unless P (number_and_place why)) (test holds_it why)
told why (holds p) = passes p
told why (fails n) = refuses (refl, n)

each_told : {A : Type 0} {d : A} {P : A → Type 0} {why : ℕ → Refusal} {l : List A} {a : Answer} (number : ℕ)
    → ((k : ℕ) → number_and_place (why k) ≡ row number k) → EntriesAre d P why l 0 a → Told (each d P l number) a
each_told number is (all_meet all) = passes all
each_told {why} number is (first_fails k h refuted before) =
    let e : 0 + k ≡ k = omega arith in
    rw e (refuses {why = why k} (record { position = k; inside = h; is_not = refuted; before = before; returned_is = is k }))

-- ---- laws: the tests of a frame

module _ (f : Frame) where
  sides_told : Told (unless (SidesAllowed f) (row 1 0)) (sides_answer f)
  unfolding sides_answer
  sides_told = told Size (sides_decide f)

  phase_told : Told (unless (f.phase ≤ 3) (row 2 0)) (phase_answer f)
  unfolding phase_answer phase_allowed
  phase_told = told Phase (at_most_decides f.phase 3)

  mosaic_told : Told (unless (length f.samples ≡ f.height * f.width) (row 3 0)) (mosaic_answer f)
  unfolding mosaic_answer
  mosaic_told = told MosaicLength (equal_decides (length f.samples) (f.height * f.width))

  samples_told : Told (each 0 (λ z. z ≤ 1023) f.samples 5) (samples_answer f.samples)
  unfolding samples_answer highest_sample
  samples_told = each_told 5 (λ k. refl) (entries_are 0 (λ z. z ≤ 1023) Sample _ (λ z. at_most_decides z 1023) f.samples 0)

black_told : (b : ℕ) → Told (unless (b ≤ 255) (row 11 0)) (black_answer b)
unfolding black_answer highest_black
black_told b = told BlackLevel (at_most_decides b 255)

under_told : (b : ℕ) (samples : List ℕ) → Told (each 0 (λ z. b ≤ z + 64) samples 12) (under_answer b samples)
unfolding under_answer most_under
under_told b samples = each_told 12 (λ k. refl) (entries_are 0 (λ z. b ≤ z + 64) UnderBlack _ (λ z. at_most_decides b (z + 64)) samples 0)

-- ---- laws: the rows of each call

module _ (f : Frame) (b : ℕ) (l : Lengths) {Allowed : Type 0} (lengths_decide : Decides Allowed (lengths_allowed f l)) where
  pub develop_answer_row : RowOf (develop_tests f b Allowed) (returned (develop_answer f b l))
  unfolding develop_tests develop_answer
  develop_answer_row =
      is_a_row
      (next (sides_told f)
      (next (phase_told f)
      (next (black_told b)
      (next (mosaic_told f)
      (next (told BufferLength lengths_decide)
      (next (samples_told f)
      (next (under_told b f.samples) none)))))))

pub write_answer_row : (f : Frame) (lent : ℕ) → RowOf (write_tests f (lent ≡ file_length f)) (returned (write_answer f lent))
unfolding write_tests write_answer
write_answer_row f lent =
    is_a_row
    (next (sides_told f)
    (next (phase_told f)
    (next (mosaic_told f)
    (next (told BufferLength (equal_decides lent (file_length f)))
    (next (samples_told f) none)))))

pub clamp_answer_row : (numbers filled : ℕ) → RowOf (clamp_tests (filled ≡ numbers)) (returned (clamp_answer numbers filled))
unfolding clamp_tests clamp_answer
clamp_answer_row numbers filled = is_a_row (next (told BufferLength (equal_decides filled numbers)) none)

-- ---- laws: curve

not_either : (a b : Bool) → not (a || b) ≡ (not a && not b)
not_either true b = refl
not_either false b = refl

clamped_decides : (v : ℤ) → Decides (Clamped v) (not (unclamped v))
unfolding unclamped highest_sample
clamped_decides v =
    rw (not_either (lt_z v (pos 0)) (lt_z (pos 1023) v)) (both_decide (not_below_decides v (pos 0)) (not_below_decides (pos 1023) v))

numbers_told : (numbers : List ℤ) → Told (each (pos 0) Clamped numbers 13) (unclamped_answer numbers)
unfolding unclamped_answer
numbers_told numbers = each_told 13 (λ k. refl) (entries_are (pos 0) Clamped Unclamped _ clamped_decides numbers 0)

pub curve_answer_row : (numbers : List ℤ) (filled : ℕ) → RowOf (curve_tests numbers (filled ≡ length numbers)) (returned (curve_answer numbers filled))
unfolding curve_tests curve_answer
curve_answer_row numbers filled =
    is_a_row (next (told BufferLength (equal_decides filled (length numbers))) (next (numbers_told numbers) none))
