-- What read leaves, as the program lends it on: the frame of its shape and of the first W·H samples. Assumes nothing.
use Rattle.std.specs.Prelude.{◌≡◌, ℕ, ◌*◌, ◌-◌, ◌<◌, ◌≤◌, length, take, drop, Err, Ok}
use Rattle.std.proofs.Math.Path.{refl, subst}
use Rattle.std.proofs.Common.{sym, ◌∙◌, ap, arith, take_at}
use mathlib.Core.List.{List}
use Rattle.std.proofs.Math.Nat.{sub-zero}
use Rattle.toolkit.specs.Tests.{ltb_yes, ltb_no}
use Rattle.frame.specs.declared.Shape.{Shape}
use Rattle.answers.specs.declared.Refusal.{Refusal}
use Rattle.answers.specs.declared.Refusal.TheVariants.{BufferLength}
use Rattle.frame.specs.Sites.{Frame, frame}
use Rattle.answers.specs.Calls.{develop_answer}
use Rattle.frame_file.specs.FrameFile.{Reading, reading, shape_of, sample_count, stored_frame, answer_of, samples_of, read_answer, samples_after_read}
use Rattle.frame_file.proofs.BlockSamples.{length_stored_samples}
use Rattle.frame_file.proofs.ReadTests.{accepted_file}
use Rattle.printing.specs.declared.Tone.{Tone}
use Rattle.printing.specs.Printing.{black_level, lent, text_of_developed, refusal_text, text_of, printed}

-- the samples of an accepted frame are W·H, and there is room for them
pub record Counted (f : Frame) (room : ℕ) : Type 0 where
  pub enough : sample_count f ≤ room
  pub full : length f.samples ≡ sample_count f

accepted_counted : (file : List ℕ) (room : ℕ) (f : Frame) → reading file room ≡ Ok f → Counted f room
unfolding stored_frame
accepted_counted file room f e =
    let a = accepted_file file room f e in
    subst (λ (g : Frame). Counted g room) a.frame_is (record { enough = a.header.enough; full = length_stored_samples file _ })

-- what read answered with a shape
pub record FrameRead (file before : List ℕ) (shape : Shape) : Type 0 where
  pub enough : shape.height * shape.width ≤ length before
  pub found : reading file (length before) ≡ Ok (frame shape (take (shape.height * shape.width) (samples_after_read file before)))

module _ (file before : List ℕ) where
  front_samples : (f : Frame) → Counted f (length before) → take (sample_count f) (samples_of (Ok f) before) ≡ f.samples
  front_samples f c = take_at f.samples (drop (sample_count f) before) (sample_count f) c.full

  read_accepted : (f : Frame) (shape : Shape) → reading file (length before) ≡ Ok f → shape_of f ≡ shape → FrameRead file before shape
  unfolding samples_after_read
  read_accepted f shape e same =
      subst (λ (s : Shape). FrameRead file before s) same
      (let c = accepted_counted file (length before) f e in
      record { enough = c.enough; found = e ∙ rw e (ap (λ (l : List ℕ). Ok (frame (shape_of f) l)) (sym (front_samples f c))) })

  by_reading : (shape : Shape) (o : Reading) → reading file (length before) ≡ o → answer_of o ≡ Ok shape → FrameRead file before shape
  by_reading shape (Ok f) e a = read_accepted f shape e (cc)
  by_reading shape (Err why) e a = absurd (let z : ◌≡◌ {A = ℕ} 0 1 = cc in omega arith)

  pub frame_read : (shape : Shape) → Ok shape ≡ read_answer file (length before) → FrameRead file before shape
  unfolding read_answer
  frame_read shape a = by_reading shape (reading file (length before)) refl (sym a)

refused_by : (why : Refusal) (o : Reading) → answer_of o ≡ Err why → o ≡ Err why
refused_by why (Ok f) a = absurd (let z : ◌≡◌ {A = ℕ} 0 1 = cc in omega arith)
refused_by why (Err other) a = cc

pub refusal_read : (file : List ℕ) (room : ℕ) (why : Refusal) → Err why ≡ read_answer file room → reading file room ≡ Err why
unfolding read_answer
refusal_read file room why a = refused_by why (reading file room) (sym a)

-- ---- what is printed in each case

module _ (tone : Tone) (file : List ℕ) where
  pub long_printed : 2048 < length file → refusal_text BufferLength ≡ printed tone file
  unfolding printed
  long_printed h = rw (ltb_yes {m = 2048} {n = length file} h)

  pub short_printed : length file ≤ 2048 → text_of tone (reading file 1024) ≡ printed tone file
  unfolding printed
  short_printed h = rw (ltb_no {m = 2048} {n = length file} h)

  pub refusal_printed : (why : Refusal) → Err why ≡ read_answer file 1024 → refusal_text why ≡ text_of tone (reading file 1024)
  refusal_printed why a = rw (refusal_read file 1024 why a)

module _ (file before : List ℕ) (size : length before ≡ 1024) where
  pub few : (shape : Shape) → Ok shape ≡ read_answer file (length before) → shape.height * shape.width ≤ 1024
  few shape a = omega (arith, (frame_read file before shape a).enough)

  pub frame_printed : (tone : Tone) (shape : Shape) (samples : List ℕ) → Ok shape ≡ read_answer file (length before)
      → samples ≡ samples_after_read file before
      → text_of_developed tone (frame shape (take (shape.height * shape.width - 0) (drop 0 samples)))
      (develop_answer (frame shape (take (shape.height * shape.width - 0) (drop 0 samples))) black_level
      (lent (frame shape (take (shape.height * shape.width - 0) (drop 0 samples)))))
      ≡ text_of tone (reading file 1024)
  frame_printed tone shape samples a left =
      rw (sub-zero (shape.height * shape.width), left, ← size, (frame_read file before shape a).found)
