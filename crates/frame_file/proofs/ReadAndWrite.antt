-- Demand 2 over what the calls return and leave: read yields a frame from a file exactly when write makes the file from that frame.
-- Assumes nothing.
use Rattle.std.specs.Prelude.{◌≡◌, refl, ◌↔◌, List, ◌++◌, ℕ, ◌*◌, ◌≤◌, eqb, length, drop, take, Ok, Err}
use Rattle.std.proofs.Common.{sym, ◌∙◌, ap, ap₂, arith, length-append, take_at}
use Rattle.toolkit.specs.Tests.{eqb_yes}
use Rattle.frame.specs.declared.Shape.{Shape}
use Rattle.frame.specs.Sites.{Frame, frame}
use Rattle.answers.specs.declared.Refusal.TheVariants.{BufferLength}
use Rattle.answers.specs.Calls.{Admitted, test, no_refusal, ReadAnswer}
use Rattle.answers.proofs.Admission.{passes_admitted, admitted_passes, in_order_done, done_in_order}
use Rattle.frame_file.specs.Lists.{Below}
use Rattle.frame_file.specs.FrameFile.{sample_count, shape_of, file_length, written_file, write_answer, file_after_write, Reading, answer_of, samples_of, reading, read_answer, samples_after_read}
use Rattle.frame_file.proofs.WrittenFile.{length_written_file}
use Rattle.frame_file.proofs.AcceptedExactlyWhenWritten.{accepted_is_written, accepted_exactly_when_written}

-- write makes the file of f: lent a buffer of its length, it is done and leaves the file there, whatever stood there before
pub record Makes (f : Frame) (file : List ℕ) : Type 0 where
  pub answered : write_answer f (length file) ≡ no_refusal
  pub left : (before : List ℕ) → length before ≡ length file → file_after_write f before ≡ file

-- read yields f from the file: it answers with f's W, H and phase, and f's samples stand at the front of the lent buffer
pub record Yields (file before : List ℕ) (f : Frame) : Type 0 where
  pub answered : read_answer file (length before) ≡ Ok (shape_of f)
  pub left : samples_after_read file before ≡ f.samples ++ drop (sample_count f) before

-- ---- write

pub write_done : (f : Frame) → Admitted f → (n : ℕ) → n ≡ file_length f → write_answer f n ≡ no_refusal
unfolding write_answer
write_done f a n e =
    let p = admitted_passes f a in
    let lent : test (eqb n (file_length f)) BufferLength ≡ no_refusal = rw (eqb_yes e) in
    done_in_order _ (p.sides_pass, (p.phase_passes, (p.mosaic_passes, (lent, (p.samples_pass, tt)))))

pub write_leaves : (f : Frame) (before : List ℕ) → write_answer f (length before) ≡ no_refusal → file_after_write f before ≡ written_file f
unfolding file_after_write
write_leaves f before e = rw e

pub makes_written : (f : Frame) (file : List ℕ) → Makes f file → Admitted f × (file ≡ written_file f)
unfolding write_answer
makes_written f file m =
    let (sides, (phase, (mosaic, (lent, (samples, end))))) = in_order_done _ m.answered in (
      passes_admitted f (record { sides_pass = sides; phase_passes = phase; mosaic_passes = mosaic; samples_pass = samples }),
      sym (m.left file refl) ∙ write_leaves f file m.answered,
    )

pub written_makes : (f : Frame) (file : List ℕ) → Admitted f → file ≡ written_file f → Makes f file
written_makes f file a e =
    let size : length file ≡ file_length f = ap length e ∙ length_written_file f in
    record {
      answered = write_done f a (length file) size;
      left = λ before b. write_leaves f before (write_done f a (length before) (b ∙ size)) ∙ sym e;
    }

-- ---- read

module _ (file before : List ℕ) (f : Frame) where
  pub accepted_yields : reading file (length before) ≡ Ok f → Yields file before f
  unfolding read_answer samples_after_read
  accepted_yields e = record { answered = rw e; left = rw e }

  samples_equal : (g : Frame) (d : List ℕ) → g.samples ++ d ≡ f.samples ++ d → g.samples ≡ f.samples
  samples_equal g d e =
      let size : length f.samples ≡ length g.samples = omega
      (arith, ap length e, length-append g.samples d, length-append f.samples d) in
      sym (take_at g.samples d (length g.samples) refl) ∙ ap (take (length g.samples)) e
      ∙ take_at f.samples d (length g.samples) size

  frames_equal : (g : Frame) → ◌≡◌ {A = ReadAnswer} (Ok (shape_of g)) (Ok (shape_of f))
      → g.samples ++ drop (g.height * g.width) before ≡ f.samples ++ drop (sample_count f) before → g ≡ f
  frames_equal g e s =
      let shapes : shape_of g ≡ shape_of f = cc in
      let rest : drop (g.height * g.width) before ≡ drop (sample_count f) before = ap
      (λ (t : Shape). drop (t.height * t.width) before) shapes in
      ap₂ frame shapes (samples_equal g (drop (sample_count f) before) (sym (ap (λ (t : List ℕ). g.samples ++ t) rest) ∙ s))

  reading_is : (o : Reading) → answer_of o ≡ Ok (shape_of f)
      → samples_of o before ≡ f.samples ++ drop (sample_count f) before → o ≡ Ok f
  reading_is (Ok g) e s = ap (λ (h : Frame). Ok h) (frames_equal g e s)
  reading_is (Err why) e s = absurd (let z : ◌≡◌ {A = ℕ} 0 1 = cc in omega arith)

  pub yields_accepted : Yields file before f → reading file (length before) ≡ Ok f
  unfolding read_answer samples_after_read
  yields_accepted y = reading_is (reading file (length before)) y.answered y.left

-- ---- the two together

pub read_yields_what_write_makes : (file : List ℕ) → Below 256 file → (before : List ℕ) (f : Frame)
    → Yields file before f ↔ (Makes f file × (sample_count f ≤ length before))
read_yields_what_write_makes file bytes before f = (
  λ y. let w = accepted_is_written file bytes (length before) f (yields_accepted file before f y) in
      (written_makes f file w.admitted w.written, w.enough),
  λ m. let w = makes_written f file m.0 in
      accepted_yields file before f
      ((accepted_exactly_when_written file bytes (length before) f).1
      (record { admitted = w.0; written = w.1; enough = m.1 })),
)
