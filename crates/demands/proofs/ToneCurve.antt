-- Document 02, A4, over calls of curve, and of develop and clamp before it. A call may find anything in the planes that it is lent to fill. No
-- hypothesis but that the calls return 0, 0. Assumes nothing.
use Rattle.std.specs.Prelude.{◌≡◌, refl, ◌↔◌, List, [], ℕ, ◌+◌, ◌*◌, ◌<◌, ℤ, pos, ◌≤ℤ◌, length, get_or}
use Rattle.std.proofs.Common.{sym, ◌∙◌, ap, arith}
use Rattle.std.proofs.Math.Arith.{digits_lt}
use Rattle.std.proofs.lemmas.List.{get_or-map, length-map}
use Rattle.toolkit.specs.Tests.{eqb_yes}
use Rattle.frame.specs.Sites.{highest_sample, Colour, red, green, blue}
use Rattle.answers.specs.Given.{Given}
use Rattle.answers.specs.Calls.{in_order, success, returned, clamp_answer, held, clamped, unclamped_answer, Answer, Clamped}
use Rattle.answers.proofs.Admission.{returned_done}
use Rattle.answers.proofs.Clamped.{thirteen_in_figures, equal_lengths, curve_done}
use Rattle.correspondence.specs.Comparison.{Change, row_after, column_after, name_after, given_changed_by}
use Rattle.correspondence.proofs.ChangeLists.{green_keeps_name}
use Rattle.tone_curve.specs.ToneCurve.{curved_number, curved}
use Rattle.curve.proofs.Plane.{held_clamped, clamped_passes}
use Rattle.calls.specs.Buffers.{plane_of}
use Rattle.calls.specs.WhatCallsLeave.{ClampLeaves, CurveLeaves}
use Rattle.calls.proofs.Leaves.{clamped_plane, curved_plane}
use Rattle.demands.specs.CallsMade.{Developed, number_left, PlaneClamped, PlaneCurved, DevelopedCurved, curved_left}
use Rattle.demands.specs.ToneCurve.{FollowsRule}
use Rattle.demands.proofs.Acceptance.{developed_accepted}
use Rattle.demands.proofs.Demand2.{numbers_left}
use Rattle.demands.proofs.Demand3.{Corresponds, every_list_of_changes}
use Rattle.demands.proofs.CurveNumbers.{curved_follows, curved_alone, curved_not_below, curved_clamped, curved_ordered}

-- ---- when curve accepts

module _ (numbers before : List ℤ) (answer : Answer) (left : List ℤ) (call : CurveLeaves numbers before answer left) where
  -- curve returns 0, 0 exactly when the lengths are equal and every number is from 0 to 1,023
  pub accepted_exactly_when_clamped : (returned answer ≡ success)
      ↔ ((length before ≡ length numbers) × ((n : ℕ) → n < length numbers → Clamped (get_or numbers n (pos 0))))
  accepted_exactly_when_clamped = (
    λ e.
        let fits = curve_done numbers (length before) (sym call.answered ∙ returned_done answer e) in
        (fits.0, (thirteen_in_figures numbers).0 fits.1),
    λ p.
        ap returned
        (call.answered ∙ equal_lengths numbers (length before) p.0 ∙ (thirteen_in_figures numbers).1 p.1),
  )

-- a plane of no numbers is accepted
pub no_numbers_accepted : (answer : Answer) (left : List ℤ) → CurveLeaves [] [] answer left → returned answer ≡ success
no_numbers_accepted answer left call =
    (accepted_exactly_when_clamped [] [] answer left call).1 (refl, λ n h. absurd (omega arith))

-- ---- what a call of curve leaves that returned 0, 0

module _ {numbers : List ℤ} (call : PlaneCurved numbers) where
  -- every number lent is from 0 to 1,023
  pub each_clamped : (n : ℕ) → n < length numbers → Clamped (get_or numbers n (pos 0))
  each_clamped = ((accepted_exactly_when_clamped numbers call.before call.answer call.left call.leaves).0 call.succeeds).1

  plane_is : call.left ≡ curved numbers
  plane_is = curved_plane (rw (returned_done call.answer call.succeeds) at call.leaves)

  -- there are as many numbers as were lent
  pub as_many_left : length call.left ≡ length numbers
  unfolding curved
  as_many_left = rw plane_is (length-map numbers curved_number)

  pub number_is : (n : ℕ) → n < length numbers → get_or call.left n (pos 0) ≡ curved_number (get_or numbers n (pos 0))
  unfolding curved
  number_is n h = rw plane_is (get_or-map curved_number numbers n (pos 0) (pos 0) h)

  module _ (n : ℕ) (h : n < length numbers) where
    -- each number left follows the rule of an entry at the number lent,
    pub entries_left : FollowsRule (get_or numbers n (pos 0)) (get_or call.left n (pos 0))
    entries_left = rw (number_is n h) (curved_follows _ (each_clamped n h))

    -- and no other whole number does
    pub only_entries : (t : ℤ) → FollowsRule (get_or numbers n (pos 0)) t → t ≡ get_or call.left n (pos 0)
    only_entries t r = curved_alone _ t (each_clamped n h) r ∙ sym (number_is n h)

    -- "none is below its v"
    pub never_below : get_or numbers n (pos 0) ≤ℤ get_or call.left n (pos 0)
    never_below = rw (number_is n h) (curved_not_below _ (each_clamped n h))

    -- and each is from 0 to 1,023 itself
    pub clamped_left : Clamped (get_or call.left n (pos 0))
    clamped_left = rw (number_is n h) (curved_clamped _ (each_clamped n h))

-- "no entry is below the one before it": where one number is not below another its entry is not below the other's, in one call or in two
pub order_kept : {numbers others : List ℤ} (call : PlaneCurved numbers) (other : PlaneCurved others) (m n : ℕ)
    → m < length numbers → n < length others → get_or numbers m (pos 0) ≤ℤ get_or others n (pos 0)
    → get_or call.left m (pos 0) ≤ℤ get_or other.left n (pos 0)
order_kept call other m n hm hn h =
    rw (number_is call m hm, number_is other n hn) (curved_ordered _ _ (each_clamped call m hm) (each_clamped other n hn) h)

-- ---- after clamp

module _ (numbers before : List ℤ) (answer : Answer) (left : List ℤ) where
  -- clamp returns 0, 0 for any numbers where the lengths are equal
  pub equal_lengths_clamped : ClampLeaves numbers before answer left → length before ≡ length numbers → returned answer ≡ success
  unfolding clamp_answer in_order
  equal_lengths_clamped call same = rw (call.answered, eqb_yes {m = length before} {n = length numbers} same)

module _ {numbers : List ℤ} (clamping : PlaneClamped numbers) where
  clamped_plane_is : clamping.left ≡ clamped highest_sample numbers
  clamped_plane_is = clamped_plane (rw (returned_done clamping.answer clamping.succeeds) at clamping.leaves)

  as_many_clamped : length clamping.left ≡ length numbers
  unfolding clamped
  as_many_clamped = rw clamped_plane_is (length-map numbers (held highest_sample))

  held_number_is : (n : ℕ) → n < length numbers → get_or clamping.left n (pos 0) ≡ held highest_sample (get_or numbers n (pos 0))
  unfolding clamped
  held_number_is n h = rw clamped_plane_is (get_or-map (held highest_sample) numbers n (pos 0) (pos 0) h)

  -- "A call applies it to a clamped plane into a second one of equal length.": curve returns 0, 0 for what clamp leaves
  pub clamped_accepted : (before : List ℤ) (answer : Answer) (left : List ℤ) → CurveLeaves clamping.left before answer left
      → length before ≡ length clamping.left → returned answer ≡ success
  clamped_accepted before answer left call same =
      ap returned
      (call.answered ∙ equal_lengths clamping.left (length before) same ∙ (ap unclamped_answer clamped_plane_is ∙ clamped_passes numbers))

-- ---- a developed frame

-- clamp, and curve for what that leaves, return 0, 0 for every plane of it, with any planes of the length to fill
module _ {given : Given} (call : Developed given) (c : Colour) where
  size : length (plane_of call.left c) ≡ given.frame.height * given.frame.width
  size = (numbers_left given.frame given.black call.before call.answer call.left call.leaves call.succeeds c).0

  pub clamp_accepts : (before : List ℤ) (answer : Answer) (left : List ℤ) → ClampLeaves (plane_of call.left c) before answer left
      → length before ≡ given.frame.height * given.frame.width → returned answer ≡ success
  clamp_accepts before answer left clamping same =
      equal_lengths_clamped (plane_of call.left c) before answer left clamping (same ∙ sym size)

  pub curve_accepts : (clamping : PlaneClamped (plane_of call.left c)) (before : List ℤ) (answer : Answer) (left : List ℤ)
      → CurveLeaves clamping.left before answer left → length before ≡ given.frame.height * given.frame.width
      → returned answer ≡ success
  curve_accepts clamping before answer left curving same =
      clamped_accepted clamping before answer left curving (same ∙ sym size ∙ sym (as_many_clamped clamping))

  -- so there are such calls
  pub goes_through : (to_clamp to_curve : List ℤ) → length to_clamp ≡ given.frame.height * given.frame.width
      → length to_curve ≡ given.frame.height * given.frame.width
      → DevelopedCurved given c
  goes_through to_clamp to_curve clamp_length curve_length =
      let clamping : PlaneClamped (plane_of call.left c) = record {
        before = to_clamp;
        answer = _;
        left = _;
        leaves = record { answered = refl; plane_left = refl };
        succeeds = clamp_accepts to_clamp _ _ (record { answered = refl; plane_left = refl }) clamp_length;
      } in
      record {
        developed = call;
        clamping = clamping;
        curving = record {
          before = to_curve;
          answer = _;
          left = _;
          leaves = record { answered = refl; plane_left = refl };
          succeeds = curve_accepts clamping to_curve _ _ (record { answered = refl; plane_left = refl }) curve_length;
        };
      }

module _ {given : Given} {c : Colour} (calls : DevelopedCurved given c) (i j : ℕ) (hi : i < given.frame.height) (hj : j < given.frame.width) where
  -- the number at (i,j) is the curve's entry at the developed number held to 0..1,023
  pub curved_left_is : curved_left calls i j ≡ curved_number (held highest_sample (number_left calls.developed c i j))
  curved_left_is =
      let inside : i * given.frame.width + j < length (plane_of calls.developed.left c) =
      omega (arith, size calls.developed c, digits_lt hi hj) in
      number_is calls.curving (i * given.frame.width + j) (omega (arith, as_many_clamped calls.clamping))
      ∙ ap curved_number (held_number_is calls.clamping (i * given.frame.width + j) inside)

  -- so it follows the rule there
  pub curved_left_follows : FollowsRule (held highest_sample (number_left calls.developed c i j)) (curved_left calls i j)
  curved_left_follows = rw curved_left_is (curved_follows _ (held_clamped (number_left calls.developed c i j)))

-- ---- document 00, demand 3: frames that correspond show the same numbers through the curve

same_number : (gs : List Change) {given : Given} (first : Developed given) (last : Developed (given_changed_by gs given)) (c : Colour) (i j : ℕ)
    → Corresponds gs first last i j
    → number_left last (name_after gs c) (row_after gs given.frame i j) (column_after gs given.frame i j)
    ≡ number_left first c i j
same_number gs first last red i j point = point.same_red
same_number gs first last green i j point = rw (green_keeps_name gs) point.same_green
same_number gs first last blue i j point = point.same_blue

pub every_list_of_changes_curved : (gs : List Change) (given : Given) (c : Colour) (first : DevelopedCurved given c)
    (last : DevelopedCurved (given_changed_by gs given) (name_after gs c)) (i j : ℕ) → i < given.frame.height
    → j < given.frame.width
    → curved_left last (row_after gs given.frame i j) (column_after gs given.frame i j) ≡ curved_left first i j
every_list_of_changes_curved gs given c first last i j hi hj =
    let accepted = developed_accepted given first.developed in
    let point = (every_list_of_changes gs given accepted).1 first.developed last.developed i j hi hj in
    curved_left_is last _ _ point.row_inside point.column_inside
    ∙ ap (λ (z : ℤ). curved_number (held highest_sample z)) (same_number gs first.developed last.developed c i j point)
    ∙ sym (curved_left_is first i j hi hj)
