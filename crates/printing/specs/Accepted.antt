-- Develop refuses no frame that read accepts: of a file of bytes that holds a frame of at most 1,024 samples the program prints that
-- frame's text. Assumes nothing.
use Rattle.std.specs.Prelude.{◌≡◌, List, ℕ, ◌≤◌, length, Ok}
use Rattle.std.proofs.Common.{arith}
use Rattle.toolkit.specs.Tests.{ltb_no}
use Rattle.frame.specs.Sites.{Frame}
use Rattle.answers.specs.Calls.{Admitted, develop_answer, no_refusal}
use Rattle.answers.proofs.Admission.{least_allowed, admitted_done, admitted_at_zero}
use Rattle.frame_file.specs.Lists.{Below}
use Rattle.frame_file.specs.FrameFile.{block_count, file_length, reading}
use Rattle.frame_file.proofs.WrittenFile.{length_written_file}
use Rattle.frame_file.proofs.AcceptedExactlyWhenWritten.{WrittenFrom, accepted_is_written}
use Rattle.printing.specs.declared.Tone.{Tone}
use Rattle.printing.specs.Printing.{black_level, lent, frame_text, printed}

pub admitted_developed : (f : Frame) → Admitted f → develop_answer f black_level (lent f) ≡ no_refusal
admitted_developed f a = admitted_done f black_level (lent f) (least_allowed f) (admitted_at_zero f a)

-- its file is at most 2,048 bytes long: block 0 and three of samples
accepted_short : (file : List ℕ) (f : Frame) → WrittenFrom f file 1024 → length file ≤ 2048
unfolding file_length block_count
accepted_short file f w = rw w.written (omega (arith, length_written_file f, w.enough))

pub accepted_printed : (tone : Tone) (file : List ℕ) → Below 256 file → (f : Frame) → reading file 1024 ≡ Ok f
    → printed tone file ≡ frame_text tone f
unfolding printed
accepted_printed tone file bytes f e =
    let w = accepted_is_written file bytes 1024 f e in
    rw (ltb_no {m = 2048} {n = length file} (accepted_short file f w), e, admitted_developed f w.admitted)
