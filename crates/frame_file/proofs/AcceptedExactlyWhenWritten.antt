-- Document 00, demand 2: "Given room for the samples, a frame file is accepted exactly when the writer makes it from some frame, and
-- reading yields that frame." Assumes nothing.
use Rattle.std.specs.Prelude.{◌≡◌, ◌↔◌, List, ℕ, ◌-◌, ◌≤◌, Ok}
use Rattle.std.proofs.Common.{◌∙◌, ap, subst, arith}
use Rattle.frame.specs.Sites.{Frame}
use Rattle.answers.specs.Calls.{Admitted}
use Rattle.frame_file.specs.Lists.{Below}
use Rattle.frame_file.specs.FrameFile.{sample_count, block_count, written_file, stored_frame, reading}
use Rattle.frame_file.proofs.ReadTests.{blocks_pass, blocks_passed, read_after_header, accepted_file}
use Rattle.frame_file.proofs.WrittenFile.{frame_of_written_file, written_header_passes, written_block_passes}
use Rattle.frame_file.proofs.AcceptedFile.{file_is_written, stored_frame_admitted}

-- f is admitted, the file is what write makes of it, and there is room for its samples
pub record WrittenFrom (f : Frame) (file : List ℕ) (room : ℕ) : Type 0 where
  pub admitted : Admitted f
  pub written : file ≡ written_file f
  pub enough : sample_count f ≤ room

-- ---- a file that is accepted is what write makes

pub accepted_is_written : (file : List ℕ) → Below 256 file → (room : ℕ) (f : Frame) → reading file room ≡ Ok f
    → WrittenFrom f file room
accepted_is_written file bytes room f e =
    let a = accepted_file file room f e in
    let samples : ℕ = sample_count (stored_frame file) in
    let later = blocks_passed file samples 1 (block_count samples - 1) a.blocks in
    subst (λ (g : Frame). WrittenFrom g file room) a.frame_is
    (record {
      admitted = stored_frame_admitted file bytes room a.header;
      written = file_is_written file bytes room a.header (λ n l m. later n l (omega arith));
      enough = a.header.enough;
    })

-- ---- the file that write makes of an admitted frame is accepted as that frame

pub written_is_accepted : (f : Frame) → Admitted f → (room : ℕ) → sample_count f ≤ room → reading (written_file f) room ≡ Ok f
written_is_accepted f a room r =
    read_after_header (written_file f) room (written_header_passes f a room r)
    ∙ rw (
      frame_of_written_file f a,
      blocks_pass (written_file f) (sample_count f) 1 (block_count (sample_count f) - 1) (λ n l m. written_block_passes f a n l (omega arith)),
    )

-- ---- the two together: every file of bytes, every room, every frame

pub accepted_exactly_when_written : (file : List ℕ) → Below 256 file → (room : ℕ) (f : Frame)
    → (reading file room ≡ Ok f) ↔ WrittenFrom f file room
accepted_exactly_when_written file bytes room f = (
  accepted_is_written file bytes room f,
  λ w. ap (λ (l : List ℕ). reading l room) w.written ∙ written_is_accepted f w.admitted room w.enough,
)
