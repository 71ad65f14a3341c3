-- A frame is accepted by develop at a black level exactly when it is admitted at it, and then there is a call that returns 0, 0 for it.
-- Assumes nothing.
use Rattle.std.specs.Prelude.{◌≡◌, refl, true, List, ℕ, ◌*◌, eqb, ℤ, pos, length, Err, Ok}
use Rattle.std.proofs.Common.{sym, ◌∙◌, ap, arith}
use Rattle.toolkit.specs.Tests.{holds, leb_le, leb_yes, eqb_eq, eqb_yes, and_true}
use Rattle.toolkit.specs.Tables.{tabulate, length_tabulate}
use Rattle.frame.specs.Sites.{Frame, red, green, blue}
use Rattle.answers.specs.Given.{Given}
use Rattle.answers.specs.Calls.{returned, lengths_fit, lengths_allowed, develop_answer, after, AdmittedAt, Answer}
use Rattle.method.specs.Green.{decision_map}
use Rattle.method.specs.Planes.{plane}
use Rattle.correspondence.specs.Comparison.{Accepted}
use Rattle.correspondence.proofs.Acceptance as method
use Rattle.calls.specs.Buffers.{Buffers, buffers, lengths_of, KeptOnRefusal}
use Rattle.calls.specs.WhatCallsLeave.{DevelopLeaves}
use Rattle.demands.specs.CallsMade.{LengthsAllowed, AcceptedByDevelop, Developed}

-- ---- the lengths

pub lengths_yes : (f : Frame) (before : Buffers) → lengths_allowed f (lengths_of before) ≡ true → LengthsAllowed f before
unfolding lengths_allowed lengths_fit
lengths_yes f before e =
    let red = and_true (eqb (length before.red_plane) (f.height * f.width)) _ e in
    let green = and_true (eqb (length before.green_plane) (f.height * f.width)) _ red.1 in
    let blue = and_true (eqb (length before.blue_plane) (f.height * f.width)) _ green.1 in
    let map = and_true (eqb (length before.map) (f.height * f.width)) _ blue.1 in
    record {
      red_length = eqb_eq _ _ red.0;
      green_length = eqb_eq _ _ green.0;
      blue_length = eqb_eq _ _ blue.0;
      map_length = eqb_eq _ _ map.0;
      work_length = leb_le _ _ map.1;
    }

pub yes_lengths : (f : Frame) (before : Buffers) → LengthsAllowed f before → lengths_allowed f (lengths_of before) ≡ true
unfolding lengths_allowed lengths_fit
yes_lengths f before a =
    rw (eqb_yes a.red_length, eqb_yes a.green_length, eqb_yes a.blue_length, eqb_yes a.map_length, leb_yes a.work_length)

-- ---- one call

kept : (answer : Answer) (work : List ℤ) → KeptOnRefusal answer work work
kept (Ok _) work = tt
kept (Err why) work = refl

-- what a call leaves that does not touch the work buffer
called : (f : Frame) (b : ℕ) (before : Buffers)
    → DevelopLeaves f b before (develop_answer f b (lengths_of before))
    (let answer : Answer = develop_answer f b (lengths_of before) in
    buffers (after answer (plane f b red) before.red_plane) (after answer (plane f b green) before.green_plane)
    (after answer (plane f b blue) before.blue_plane) (after answer (decision_map f) before.map) before.work)
called f b before = record {
  answered = refl;
  red_left = refl;
  green_left = refl;
  blue_left = refl;
  map_left = refl;
  work_left = kept (develop_answer f b (lengths_of before)) before.work;
}

-- buffers of the least lengths that are allowed
least : Frame → Buffers
least f =
    let n : ℕ = f.height * f.width in
    let zeros : List ℤ = tabulate n (λ k. pos 0) in
    buffers zeros zeros zeros (tabulate n (λ k. 0)) (tabulate (4 * n) (λ k. pos 0))

least_allowed : (f : Frame) → LengthsAllowed f (least f)
unfolding least
least_allowed f = record {
  red_length = length_tabulate _ _;
  green_length = length_tabulate _ _;
  blue_length = length_tabulate _ _;
  map_length = length_tabulate _ _;
  work_length = omega (arith, length_tabulate (4 * (f.height * f.width)) (λ k. pos 0));
}

-- ---- acceptance

module _ (given : Given) where
  pub accepted_admitted : AcceptedByDevelop given → AdmittedAt given
  accepted_admitted accepted =
      method.returned_admitted given (lengths_of (least given.frame))
      (accepted (least given.frame) (least_allowed given.frame) _ _ (called given.frame given.black (least given.frame)))

  pub admitted_accepted_by_develop : AdmittedAt given → AcceptedByDevelop given
  admitted_accepted_by_develop a before allowed answer left call =
      ap returned call.answered
      ∙ method.admitted_accepted given a (lengths_of before) (holds (yes_lengths given.frame before allowed))

  -- acceptance is that of the definitions
  pub accepted_defined : AcceptedByDevelop given → Accepted given
  accepted_defined accepted = method.admitted_accepted given (accepted_admitted accepted)

  pub defined_accepted : Accepted given → AcceptedByDevelop given
  defined_accepted accepted = admitted_accepted_by_develop (method.accepted_admitted given accepted)

  -- one call that returns 0, 0 is enough
  pub developed_accepted : Developed given → AcceptedByDevelop given
  developed_accepted call =
      admitted_accepted_by_develop
      (method.returned_admitted given (lengths_of call.before) (sym (ap returned call.leaves.answered) ∙ call.succeeds))

  -- an accepted frame has such a call, with any buffers of the allowed lengths
  pub accepted_developed : AcceptedByDevelop given → (before : Buffers) → LengthsAllowed given.frame before
      → Developed given
  accepted_developed accepted before allowed = record {
    before = before;
    answer = _;
    left = _;
    leaves = called given.frame given.black before;
    succeeds = accepted before allowed _ _ (called given.frame given.black before);
  }
