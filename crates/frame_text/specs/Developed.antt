-- The planes that develop leaves, with the tone, as the text of the frame. Assumes nothing.
use Rattle.std.specs.Prelude.{◌≡◌, List, ℕ, ◌*◌, ◌<◌, ℤ, length, Err}
use Rattle.std.proofs.Common.{sym, ◌∙◌, arith}
use Rattle.frame.specs.declared.Shape.{Shape}
use Rattle.answers.specs.declared.Refusal.{Refusal}
use Rattle.frame.specs.Sites.{Frame, frame, Colour}
use Rattle.answers.specs.Calls.{develop_answer, Answer, no_refusal}
use Rattle.method.specs.Planes.{plane}
use Rattle.calls.specs.Buffers.{Buffers, buffers, lengths_of, plane_of}
use Rattle.calls.specs.WhatCallsLeave.{DevelopLeaves}
use Rattle.calls.proofs.Leaves.{planes_of_frame}
use Rattle.develop.specs.Ready.{done_ready}
use Rattle.printing.specs.declared.Tone.{Tone}
use Rattle.printing.specs.Printing.{black_level, lent, refusal_text, toned, text_of_developed}
use Rattle.frame_text.specs.Buffers.{PlanesLent}
use Rattle.frame_text.specs.PlanesText.{text_of_planes, length_toned, frame_text_planes}

-- a call of develop that refused nothing
pub record Left (f : Frame) (before : Buffers) (answer : Answer) (left : Buffers) : Type 0 where
  pub leaves : DevelopLeaves f black_level before answer left
  pub done : answer ≡ no_refusal

module _ {f : Frame} {before left : Buffers} {answer : Answer} (call : Left f before answer left) where
  pub wide : 0 < f.width
  wide = omega (arith, (done_ready _ _ _ (sym call.leaves.answered ∙ call.done)).taken.wide)

  leaves_done : DevelopLeaves f black_level before no_refusal left
  leaves_done = rw call.done at call.leaves

  pub plane_is : (c : Colour) → plane_of left c ≡ plane f black_level c
  plane_is = planes_of_frame leaves_done

  pub same_lengths : (tone : Tone)
      → (length (toned tone left.green_plane) ≡ length (toned tone left.red_plane)) ×
      (length (toned tone left.blue_plane) ≡ length (toned tone left.red_plane))
  same_lengths tone = (
    rw (plane_is Colour.green, plane_is Colour.red) (length_toned tone f Colour.green ∙ sym (length_toned tone f Colour.red)),
    rw (plane_is Colour.blue, plane_is Colour.red) (length_toned tone f Colour.blue ∙ sym (length_toned tone f Colour.red)),
  )

module _ (tone : Tone) (shape : Shape) (mosaic : List ℕ) {red green blue : List ℤ} {map : List ℕ} {work : List ℤ}
    (p : PlanesLent (shape.height * shape.width) red green blue map work) where
  abbrev before : Buffers
  before = buffers red green blue map work

  answer_lent : develop_answer (frame shape mosaic) black_level (lengths_of before)
      ≡ develop_answer (frame shape mosaic) black_level (lent (frame shape mosaic))
  answer_lent = rw (p.red_size, p.green_size, p.blue_size, p.map_size, p.work_size)

  pub refused_text : (a : Answer) (why : Refusal) → a ≡ develop_answer (frame shape mosaic) black_level (lengths_of before) → a ≡ Err why
      → refusal_text why
      ≡ text_of_developed tone (frame shape mosaic) (develop_answer (frame shape mosaic) black_level (lent (frame shape mosaic)))
  refused_text a why e r = rw (← answer_lent, ← e, r)

  pub done_text : {a : Answer} {left : Buffers} → Left (frame shape mosaic) before a left
      → text_of_planes shape.width (toned tone left.red_plane) (toned tone left.green_plane) (toned tone left.blue_plane)
      ≡ text_of_developed tone (frame shape mosaic) (develop_answer (frame shape mosaic) black_level (lent (frame shape mosaic)))
  done_text call =
      rw (
        plane_is call Colour.red,
        plane_is call Colour.green,
        plane_is call Colour.blue,
        ← answer_lent,
        ← call.leaves.answered,
        call.done,
      )
      (frame_text_planes tone (frame shape mosaic))
