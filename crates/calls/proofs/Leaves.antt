-- What the calls leave once they have answered that nothing is refused. Assumes nothing.
use Rattle.std.specs.Prelude.{◌≡◌, List, ℕ, ℤ}
use Rattle.frame.specs.Sites.{Frame, highest_sample, Colour, red, green, blue}
use Rattle.answers.specs.Calls.{clamped, no_refusal}
use Rattle.method.specs.Green.{decision_map}
use Rattle.method.specs.Planes.{plane}
use Rattle.tone_curve.specs.ToneCurve.{curved}
use Rattle.calls.specs.Buffers.{Buffers, plane_of}
use Rattle.calls.specs.WhatCallsLeave.{DevelopLeaves, ClampLeaves, CurveLeaves}

module _ {f : Frame} {b : ℕ} {before left : Buffers} (call : DevelopLeaves f b before no_refusal left) where
  pub planes_of_frame : (c : Colour) → plane_of left c ≡ plane f b c
  planes_of_frame red = call.red_left
  planes_of_frame green = call.green_left
  planes_of_frame blue = call.blue_left

  pub map_of_frame : left.map ≡ decision_map f
  map_of_frame = call.map_left

  -- "After success the work buffer may hold anything;"
  pub any_work : (work : List ℤ) → DevelopLeaves f b before no_refusal (record left { work = work })
  any_work work = record {
    answered = call.answered;
    red_left = call.red_left;
    green_left = call.green_left;
    blue_left = call.blue_left;
    map_left = call.map_left;
    work_left = tt;
  }

module _ {numbers before left : List ℤ} where
  pub clamped_plane : ClampLeaves numbers before no_refusal left → left ≡ clamped highest_sample numbers
  clamped_plane call = call.plane_left

  pub curved_plane : CurveLeaves numbers before no_refusal left → left ≡ curved numbers
  curved_plane call = call.plane_left
