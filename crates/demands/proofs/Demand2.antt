-- Document 00, demand 2, over what the calls return and leave. Assumes nothing.
use Rattle.std.specs.Prelude.{◌≡◌, ◌↔◌, List, ◌++◌, ℕ, ◌+◌, ◌*◌, ◌<◌, ◌≤◌, pos, length, get_or, drop, Err, Ok}
use Rattle.std.proofs.Math.Path.{refl, ap}
use Rattle.std.proofs.Common.{sym, ◌∙◌}
use Rattle.toolkit.specs.Raster.{length_raster, getD_raster}
use Rattle.frame.specs.Sites.{Frame, Colour}
use Rattle.answers.specs.Calls.{success, returned, returned_by_read, Answer, ReadAnswer}
use Rattle.answers.proofs.Admission.{refused_not_done, returned_done}
use Rattle.method.specs.Gradients.{mosaic}
use Rattle.method.specs.Green.{decision_entry, decision_map}
use Rattle.method.specs.Planes.{output, less_black, plane}
use Rattle.frame_file.specs.Lists.{Below}
use Rattle.frame_file.specs.FrameFile.{sample_count, shape_of, write_answer, Reading, answer_of, reading, read_answer}
use Rattle.frame_file.proofs.AcceptedExactlyWhenWritten.{accepted_is_written}
use Rattle.frame_file.proofs.ReadAndWrite.{Makes, written_makes, read_yields_what_write_makes}
use Rattle.calls.specs.Buffers.{Buffers, plane_of}
use Rattle.calls.specs.WhatCallsLeave.{DevelopLeaves, ReadCalled, WriteLeaves}
use Rattle.calls.proofs.Leaves.{planes_of_frame, map_of_frame}

-- ---- "The planes equal, number for number, the method of Chung and Chan (2010) in the whole-number form of document 01, ties and
-- borders included."

module _ (f : Frame) (b : ℕ) (before : Buffers) where
  -- a call of develop that returns 0, 0 leaves the planes of the method, less the black level
  pub planes_left : (answer : Answer) (left : Buffers) → DevelopLeaves f b before answer left → returned answer ≡ success
      → (c : Colour) → plane_of left c ≡ plane f b c
  planes_left (Ok _) left call e c = planes_of_frame call c
  planes_left (Err why) left call e c = refused_not_done why (returned_done (Err why) e)

  -- W·H entries, of which i·W + j is the method's number at (i,j); document 02, A2: less b
  pub numbers_left : (answer : Answer) (left : Buffers) → DevelopLeaves f b before answer left → returned answer ≡ success
      → (c : Colour)
      → (length (plane_of left c) ≡ f.height * f.width) ×
      ((i j : ℕ) → i < f.height → j < f.width
      → get_or (plane_of left c) (i * f.width + j) (pos 0) ≡ less_black b (output (mosaic f) c i j))
  unfolding plane
  numbers_left answer left call e c =
      rw (planes_left answer left call e c)
      (length_raster f.height f.width _, λ i j. getD_raster f.height f.width _ i j (pos 0))

  -- document 02, A1: beside the planes it leaves the method's decisions
  pub decisions_left : (answer : Answer) (left : Buffers) → DevelopLeaves f b before answer left → returned answer ≡ success
      → left.map ≡ decision_map f
  decisions_left (Ok _) left call e = map_of_frame call
  decisions_left (Err why) left call e = refused_not_done why (returned_done (Err why) e)

  -- W·H entries, of which i·W + j is the code of the method's decision at (i,j)
  pub entries_left : (answer : Answer) (left : Buffers) → DevelopLeaves f b before answer left → returned answer ≡ success
      → (length left.map ≡ f.height * f.width) ×
      ((i j : ℕ) → i < f.height → j < f.width → get_or left.map (i * f.width + j) 0 ≡ decision_entry (mosaic f) i j)
  unfolding decision_map
  entries_left answer left call e =
      rw (decisions_left answer left call e)
      (length_raster f.height f.width _, λ i j. getD_raster f.height f.width (decision_entry (mosaic f)) i j 0)

-- ---- "Given room for the samples, a frame file is accepted exactly when the writer makes it from some frame, and reading yields that
-- frame."

-- write makes the file from f: lent room of its length, whatever it holds, write returns 0, 0 and leaves the file there
abbrev pub MadeFrom : Frame → List ℕ → Type 0
MadeFrom f file = (before : List ℕ) → length before ≡ length file → (answer : Answer) (left : List ℕ)
    → WriteLeaves f before answer left → (returned answer ≡ success) × (left ≡ file)

-- write makes the file from some frame, and there is room for the frame's samples
pub record Made (file : List ℕ) (room : ℕ) : Type 0 where
  pub frame : Frame
  pub made : MadeFrom frame file
  pub enough : sample_count frame ≤ room

module _ (f : Frame) (file : List ℕ) where
  made_makes : MadeFrom f file → Makes f file
  made_makes made = record {
    answered = returned_done _ (made file refl _ _ (record { answered = refl; file_left = refl })).0;
    left = λ before same. (made before same _ _ (record { answered = refl; file_left = refl })).1;
  }

  makes_made : Makes f file → MadeFrom f file
  makes_made makes before same answer left call = (
    ap returned (call.answered ∙ ap (write_answer f) same ∙ makes.answered),
    call.file_left ∙ makes.left before same,
  )

module _ (file before : List ℕ) where
  found_made : Below 256 file → (o : Reading) → reading file (length before) ≡ o → returned_by_read (answer_of o) ≡ success
      → Made file (length before)
  found_made bytes (Ok f) is e =
      let w = accepted_is_written file bytes (length before) f is in
      record { frame = f; made = makes_made f file (written_makes f file w.admitted w.written); enough = w.enough }
  found_made bytes (Err why) is e = refused_not_done why (returned_done (Err why) e)

  module _ (answer : ReadAnswer) (left : List ℕ) (call : ReadCalled file before answer left) where
    -- "and reading yields that frame": W, H and the phase are returned, and the samples stand at the front of what was lent
    pub yields_that_frame : (f : Frame) → MadeFrom f file → sample_count f ≤ length before
        → (answer ≡ Ok (shape_of f)) × (left ≡ f.samples ++ drop (sample_count f) before)
    yields_that_frame f made enough =
        let yields = (read_yields_what_write_makes file call.bytes before f).1 (made_makes f file made, enough) in
        (call.leaves.answered ∙ yields.answered, call.leaves.samples_left ∙ yields.left)

    -- read returns 0, 0 exactly when write makes the file from some frame
    pub accepted_exactly_when_made : (returned_by_read answer ≡ success) ↔ Made file (length before)
    unfolding read_answer
    accepted_exactly_when_made = (
      λ e. found_made call.bytes (reading file (length before)) refl (sym (ap returned_by_read call.leaves.answered) ∙ e),
      λ m. ap returned_by_read (yields_that_frame m.frame m.made m.enough).0,
    )
