-- Document 00, demand 1, for each call: what is returned is a row of document 01's table with its condition (`Rows`, `ReadRows`), and
-- whatever is returned other than 0, 0 leaves every lent buffer as it was. That no call traps, runs without end or touches anything outside
-- what it is lent is proved of every function by the language; what is lent to be read alone cannot change. Assumes nothing.
use Rattle.std.specs.Prelude.{◌≡◌, refl, List, ℕ, ℤ, Err, Ok}
use Rattle.std.proofs.Common.{◌∙◌, ap}
use Rattle.std.proofs.Math.ListN.{length}
use Rattle.frame.specs.Sites.{Frame}
use Rattle.answers.specs.Calls.{success, returned, returned_by_read, Answer, ReadAnswer}
use Rattle.frame_file.specs.FrameFile.{file_length, Reading, answer_of, samples_of, reading, read_answer, samples_after_read, file_after_write}
use Rattle.calls.specs.Buffers.{Buffers, buffers, lengths_of}
use Rattle.calls.specs.WhatCallsLeave.{DevelopLeaves, ClampLeaves, CurveLeaves, ReadLeaves, WriteLeaves}
use Rattle.demands.specs.CallsMade.{LengthsAllowed}
use Rattle.demands.proofs.Acceptance.{lengths_yes, yes_lengths}
use Rattle.demands.specs.Conditions.{both_ways}
use Rattle.demands.specs.Rows.{RowOf, develop_tests, write_tests, clamp_tests, curve_tests}
use Rattle.demands.proofs.Rows.{develop_answer_row, write_answer_row, clamp_answer_row, curve_answer_row}
use Rattle.demands.specs.ReadRows.{read_tests}
use Rattle.demands.proofs.ReadRows.{reading_row}

-- ---- develop

module _ (f : Frame) (b : ℕ) (before : Buffers) where
  -- the number and place that develop returns are a row of the table
  pub develop_row : (answer : Answer) (left : Buffers) → DevelopLeaves f b before answer left
      → RowOf (develop_tests f b (LengthsAllowed f before)) (returned answer)
  develop_row answer left call =
      rw call.answered (develop_answer_row f b (lengths_of before) (both_ways _ (lengths_yes f before) (yes_lengths f before)))

  -- and a refusal leaves the three planes, the map and the work buffer as they were
  pub develop_refusal : (answer : Answer) (left : Buffers) → DevelopLeaves f b before answer left → ¬ (returned answer ≡ success)
      → left ≡ before
  develop_refusal (Ok _) left call no_success = absurd (no_success refl)
  develop_refusal (Err why) left call no_success =
      λ t. buffers (call.red_left t) (call.green_left t) (call.blue_left t) (call.map_left t) (call.work_left t)

-- ---- clamp

module _ (numbers before : List ℤ) where
  pub clamp_row : (answer : Answer) (left : List ℤ) → ClampLeaves numbers before answer left
      → RowOf (clamp_tests (length before ≡ length numbers)) (returned answer)
  clamp_row answer left call = rw call.answered (clamp_answer_row (length numbers) (length before))

  pub clamp_refusal : (answer : Answer) (left : List ℤ) → ClampLeaves numbers before answer left → ¬ (returned answer ≡ success)
      → left ≡ before
  clamp_refusal (Ok _) left call no_success = absurd (no_success refl)
  clamp_refusal (Err why) left call no_success = call.plane_left

-- ---- curve

module _ (numbers before : List ℤ) where
  pub curve_row : (answer : Answer) (left : List ℤ) → CurveLeaves numbers before answer left
      → RowOf (curve_tests numbers (length before ≡ length numbers)) (returned answer)
  curve_row answer left call = rw call.answered (curve_answer_row numbers (length before))

  pub curve_refusal : (answer : Answer) (left : List ℤ) → CurveLeaves numbers before answer left → ¬ (returned answer ≡ success)
      → left ≡ before
  curve_refusal (Ok _) left call no_success = absurd (no_success refl)
  curve_refusal (Err why) left call no_success = call.plane_left

-- ---- read

module _ (file before : List ℕ) where
  pub read_row : (answer : ReadAnswer) (left : List ℕ) → ReadLeaves file before answer left
      → RowOf (read_tests file (length before)) (returned_by_read answer)
  unfolding read_answer
  read_row answer left call = rw call.answered (reading_row file (length before))

  nothing_read : (o : Reading) → ¬ (returned_by_read (answer_of o) ≡ success) → samples_of o before ≡ before
  nothing_read (Ok f) no_success = absurd (no_success refl)
  nothing_read (Err why) no_success = refl

  pub read_refusal : (answer : ReadAnswer) (left : List ℕ) → ReadLeaves file before answer left
      → ¬ (returned_by_read answer ≡ success) → left ≡ before
  unfolding read_answer samples_after_read
  read_refusal answer left call no_success =
      call.samples_left
      ∙ nothing_read (reading file (length before)) (λ e. no_success (ap returned_by_read call.answered ∙ e))

-- ---- write

module _ (f : Frame) (before : List ℕ) where
  pub write_row : (answer : Answer) (left : List ℕ) → WriteLeaves f before answer left
      → RowOf (write_tests f (length before ≡ file_length f)) (returned answer)
  write_row answer left call = rw call.answered (write_answer_row f (length before))

  pub write_refusal : (answer : Answer) (left : List ℕ) → WriteLeaves f before answer left → ¬ (returned answer ≡ success)
      → left ≡ before
  unfolding file_after_write
  write_refusal (Ok _) left call no_success = absurd (no_success refl)
  write_refusal (Err why) left call no_success = rw (← call.answered) at call.file_left
