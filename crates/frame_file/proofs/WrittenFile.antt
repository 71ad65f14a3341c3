-- The file that write makes of an admitted frame passes every test, and holds the frame. Assumes nothing.
use Rattle.std.specs.Prelude.{◌≡◌, take, drop}
use Rattle.std.proofs.Common.{sym, ◌∙◌, mul-le-mul, le_refl, arith}
use Rattle.std.proofs.Math.Path.{ap, subst}
use Rattle.std.proofs.Math.Bool.{true}
use mathlib.Core.List.{List}
use Prim.Native.Nat.{ℕ, zero, suc, ◌*◌, ◌-◌, ◌%◌, ◌≤◌, ◌<◌}
use Rattle.std.proofs.Math.ListN.{length}
use Rattle.toolkit.specs.Tests.{is_true, leb_yes, eqb_yes}
use Rattle.frame.specs.declared.Shape.{Shape}
use Rattle.frame.specs.Sites.{Frame, frame, side_allowed, phase_allowed, highest_sample}
use Rattle.answers.specs.Calls.{Admitted}
use Rattle.frame.proofs.Sites.{side_high, phase_high}
use Rattle.frame_file.specs.Lists.{part, part_part, joined, joined_cong, length_joined, part_joined, all_zero, Below, below_from, below_joined}
use Rattle.frame_file.specs.FrameFile.{stored_samples, sample_count, shape_of, block, header, payload, block_samples, block_count, file_length, unpacked_payload, with_check, header_bytes, sample_bytes, written_block, written_file, stored_frame, length_allowed, check_holds, header_allowed, filler_holds}
use Rattle.frame_file.proofs.BlockCount.{some_blocks, block_count_most, blocks_hold}
use Rattle.frame_file.proofs.Check.{below_with_check}
use Rattle.frame_file.proofs.Raw10.{unpacked_packed_payload}
use Rattle.frame_file.proofs.BlockSamples.{below_block_samples, length_block_samples, block_samples_zero, joined_block_samples}
use Rattle.frame_file.proofs.WrittenBlocks.{below_header_bytes, below_sample_bytes, header_check_holds, header_number_holds, header_has_tag, header_of_bytes, header_filler_zero, samples_check_holds, samples_number_holds, payload_in_block, block_filler_zero, length_written_block}
use Rattle.frame_file.proofs.ReadTests.{Passes, HeaderPasses}

-- the payload of a block is its bytes 4..503
pub payload_of_block : (file : List ℕ) (n : ℕ) → payload file n ≡ part (block file n) 4 500
unfolding payload block
payload_of_block file n = sym (part_part file (512 * n) 512 4 500 (omega arith))

module _ (f : Frame) where
  pub length_written_file : length (written_file f) ≡ file_length f
  unfolding written_file file_length
  length_written_file = length_joined (written_block f) 512 (length_written_block f) (block_count (sample_count f))

  pub block_of_written_file : (n : ℕ) → n < block_count (sample_count f) → block (written_file f) n ≡ written_block f n
  unfolding block written_file
  block_of_written_file n h = part_joined (written_block f) 512 (length_written_block f) (block_count (sample_count f)) n h

  payload_of_written_file : (n : ℕ) → suc n < block_count (sample_count f)
      → unpacked_payload (payload (written_file f) (suc n)) ≡ block_samples f.samples (suc n)
  unfolding written_block
  payload_of_written_file n h =
      ap unpacked_payload (payload_of_block (written_file f) (suc n) ∙ ap (λ (b : List ℕ). part b 4 500) (block_of_written_file (suc n) h)
      ∙ payload_in_block (suc n) (block_samples f.samples (suc n)))
      ∙ unpacked_packed_payload (block_samples f.samples (suc n)) (length_block_samples f.samples (suc n))

module _ (f : Frame) (a : Admitted f) where
  area_high : sample_count f ≤ 16777216
  area_high = mul-le-mul (side_high a.height_allowed) (side_high a.width_allowed)

  samples_below : Below 1024 f.samples
  unfolding highest_sample
  samples_below = below_from 1024 f.samples (omega arith) (λ k h. omega (arith, a.samples_in_range k h))

  block_samples_below : (n : ℕ) → Below 1024 (block_samples f.samples n)
  block_samples_below n = below_block_samples 1024 f.samples n (omega arith) samples_below

  -- a written file is a file of bytes
  pub below_written_file : Below 256 (written_file f)
  unfolding written_file written_block
  below_written_file =
      below_joined 256 (block_count (sample_count f)) (written_block f) (omega arith)
      (elim [
        | zero ↦ below_with_check (header_bytes (shape_of f))
            (below_header_bytes (shape_of f) (omega (arith, phase_high a.phase_is_allowed)))
        | suc n ↦ below_with_check (sample_bytes (suc n) _)
            (below_sample_bytes (suc n) (block_samples f.samples (suc n)) (block_samples_below (suc n)))
      ])

  header_of_written_file : header (block (written_file f) 0) ≡ shape_of f
  unfolding written_block
  header_of_written_file =
      ap header (block_of_written_file f 0 (some_blocks (sample_count f)))
      ∙ header_of_bytes (shape_of f) (omega (arith, side_high a.width_allowed)) (omega (arith, side_high a.height_allowed))

  samples_of_written_file : take (sample_count f)
      (joined (block_count (sample_count f) - 1) (λ i. unpacked_payload (payload (written_file f) (suc i)))) ≡ f.samples
  samples_of_written_file =
      let m : ℕ = sample_count f in
      let c : ℕ = block_count m - 1 in
      ap (take m) (joined_cong c _ (λ i. block_samples f.samples (suc i)) (λ i h. payload_of_written_file f i (omega arith)))
      ∙ ap (λ (n : ℕ). take n (joined c (λ i. block_samples f.samples (suc i)))) (sym a.samples_count)
      ∙ joined_block_samples f.samples c (omega (arith, a.samples_count, blocks_hold (sample_count f)))

  pub frame_of_written_file : stored_frame (written_file f) ≡ f
  unfolding stored_frame stored_samples
  frame_of_written_file =
      let stored : ℕ → List ℕ = λ i. unpacked_payload (payload (written_file f) (suc i)) in
      ap (λ (shape : Shape). frame shape
      (take (shape.height * shape.width) (joined (block_count (shape.height * shape.width) - 1) stored))) header_of_written_file
      ∙ ap (frame (shape_of f)) samples_of_written_file

  header_block_allowed : header_allowed (with_check (header_bytes (shape_of f))) ≡ true
  unfolding header_allowed
  header_block_allowed =
      rw (
        header_has_tag (shape_of f),
        header_of_bytes (shape_of f) (omega (arith, side_high a.width_allowed)) (omega (arith, side_high a.height_allowed)),
        is_true (side_allowed f.width) a.width_allowed,
        is_true (side_allowed f.height) a.height_allowed,
        is_true (phase_allowed f.phase) a.phase_is_allowed,
      )

  pub written_header_passes : (room : ℕ) → sample_count f ≤ room → HeaderPasses (written_file f) room
  unfolding written_block length_allowed file_length
  written_header_passes room r =
      let first : block (written_file f) 0 ≡ with_check (header_bytes (shape_of f)) = block_of_written_file f 0
      (some_blocks (sample_count f)) in
      let size : length (written_file f) ≡ 512 * block_count (sample_count f) = length_written_file f in
      record {
        size = rw (
          leb_yes {m = 512} {n = length (written_file f)} (omega (arith, some_blocks (sample_count f))),
          eqb_yes {m = length (written_file f) % 512} {n = 0} (omega arith),
        );
        check = rw first (header_check_holds (shape_of f) (omega (arith, phase_high a.phase_is_allowed)));
        number = rw first (header_number_holds (shape_of f));
        allowed = rw first header_block_allowed;
        filler = rw first (header_filler_zero (shape_of f));
        count = rw frame_of_written_file (length_written_file f);
        enough = rw frame_of_written_file r;
      }

  written_filler_holds : (n : ℕ) → suc n < block_count (sample_count f) → filler_holds (written_file f) (sample_count f) (suc n) ≡ true
  unfolding filler_holds written_block
  written_filler_holds n h =
      let zero_samples : all_zero (drop (sample_count f - 400 * (suc n - 1)) (block_samples f.samples (suc n))) ≡ true =
      subst (λ (m : ℕ). all_zero (drop (m - 400 * (suc n - 1)) (block_samples f.samples (suc n))) ≡ true) a.samples_count
      (block_samples_zero f.samples (suc n)) in
      rw (
        block_of_written_file f (suc n) h,
        payload_of_written_file f n h,
        block_filler_zero (suc n) (block_samples f.samples (suc n)),
      ) zero_samples

  pub written_block_passes : (n : ℕ) → 1 ≤ n → n < block_count (sample_count f) → Passes (written_file f) (sample_count f) n
  unfolding written_block
  written_block_passes zero l h = absurd (omega arith)
  written_block_passes (suc n) l h =
      let this : block (written_file f) (suc n) ≡ with_check
      (sample_bytes (suc n) (block_samples f.samples (suc n))) = block_of_written_file f (suc n) h in
      record {
        check = rw this (samples_check_holds (suc n) _ (block_samples_below (suc n)));
        number = rw this (samples_number_holds (suc n) _ (omega (arith, block_count_most (sample_count f) area_high)));
        filler = written_filler_holds n h;
      }

  pub written_check_holds : (n : ℕ) → n < block_count (sample_count f) → check_holds (block (written_file f) n) ≡ true
  written_check_holds zero h = (written_header_passes (sample_count f) (le_refl (sample_count f))).check
  written_check_holds (suc n) h = (written_block_passes (suc n) (omega arith) h).check
