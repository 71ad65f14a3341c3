-- Calls that were made: a frame that develop accepts, calls that returned 0, 0, and the numbers that they left, over
-- what each call leaves (calls, WhatCallsLeave). Definitions alone. Assumes nothing.
use Rattle.std.specs.Prelude.{◌≡◌, List, ℕ, ◌+◌, ◌*◌, ◌≤◌, ℤ, pos, length, get_or}
use Rattle.frame.specs.Sites.{Frame, Colour}
use Rattle.answers.specs.Given.{Given}
use Rattle.answers.specs.Calls.{success, returned, Answer}
use Rattle.calls.specs.Buffers.{Buffers, plane_of}
use Rattle.calls.specs.WhatCallsLeave.{DevelopLeaves, ClampLeaves, CurveLeaves}

-- ---- develop

-- "Develop lends a mosaic and three 32-bit signed planes of exactly W·H entries, and a work buffer of 4·W·H or more"; document 02, A1,
-- "one more map of W·H bytes"
pub record LengthsAllowed (f : Frame) (before : Buffers) : Type 0 where
  pub red_length : length before.red_plane ≡ f.height * f.width
  pub green_length : length before.green_plane ≡ f.height * f.width
  pub blue_length : length before.blue_plane ≡ f.height * f.width
  pub map_length : length before.map ≡ f.height * f.width
  pub work_length : 4 * (f.height * f.width) ≤ length before.work

-- "It is accepted when develop, lent buffers of the allowed lengths, returns 0, 0 for it."; document 02, A2: at the black level b
abbrev pub AcceptedByDevelop : Given → Type 0
AcceptedByDevelop given = (before : Buffers) → LengthsAllowed given.frame before → (answer : Answer) (left : Buffers)
    → DevelopLeaves given.frame given.black before answer left → returned answer ≡ success

-- a call of develop that returned 0, 0 for what it was given
pub record Developed (given : Given) : Type 0 where
  pub before : Buffers
  pub answer : Answer
  pub left : Buffers
  pub leaves : DevelopLeaves given.frame given.black before answer left
  pub succeeds : returned answer ≡ success

-- "The three numbers at (i,j) are entry i·W + j of the planes that this call fills, whatever the buffers held before."
abbrev pub number_left : {given : Given} → Developed given → Colour → ℕ → ℕ → ℤ
number_left {given} call c i j = get_or (plane_of call.left c) (i * given.frame.width + j) (pos 0)

-- document 02, A1: the entry at (i,j) is that of the map, likewise
abbrev pub entry_left : {given : Given} → Developed given → ℕ → ℕ → ℕ
entry_left {given} call i j = get_or call.left.map (i * given.frame.width + j) 0

-- ---- clamp and curve

-- a call of clamp that returned 0, 0 for these numbers
pub record PlaneClamped (numbers : List ℤ) : Type 0 where
  pub before : List ℤ
  pub answer : Answer
  pub left : List ℤ
  pub leaves : ClampLeaves numbers before answer left
  pub succeeds : returned answer ≡ success

-- a call of curve that returned 0, 0 for these numbers
pub record PlaneCurved (numbers : List ℤ) : Type 0 where
  pub before : List ℤ
  pub answer : Answer
  pub left : List ℤ
  pub leaves : CurveLeaves numbers before answer left
  pub succeeds : returned answer ≡ success

-- calls of develop, of clamp for a plane that it left, and of curve for what that left, each of which returned 0, 0
pub record DevelopedCurved (given : Given) (c : Colour) : Type 0 where
  pub developed : Developed given
  pub clamping : PlaneClamped (plane_of developed.left c)
  pub curving : PlaneCurved clamping.left

-- the number at (i,j) that curve leaves of them
abbrev pub curved_left : {given : Given} {c : Colour} → DevelopedCurved given c → ℕ → ℕ → ℤ
curved_left {given} calls i j = get_or calls.curving.left (i * given.frame.width + j) (pos 0)
