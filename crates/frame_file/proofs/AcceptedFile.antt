-- A file whose tests all hold is what write makes of the frame that it holds, and that frame is admitted. Assumes nothing.
use Rattle.std.specs.Prelude.{◌≡◌, true, length, drop}
use Rattle.std.proofs.Math.Path.{sym, ap}
use Rattle.std.proofs.Common.{◌∙◌, subst, take_all}
use mathlib.Core.List.{List}
use Prim.Native.Nat.{ℕ, zero, suc, ◌+◌, ◌*◌, ◌-◌, ◌≤◌, ◌<◌}
use Rattle.std.proofs.Math.Nat.{le_of_suc-le-suc}
use native.Mathlib.Omega.{arith}
use Rattle.toolkit.specs.Tests.{and_true}
use Rattle.frame.specs.Sites.{highest_sample}
use Rattle.answers.specs.Calls.{Admitted}
use Rattle.frame_file.specs.Lists.{part, length_part, joined, joined_cong, joined_parts, all_zero, Below, below_part, below_joined}
use Rattle.frame_file.specs.FrameFile.{stored_samples, sample_count, block, payload, block_filler, block_samples, block_count, file_length, unpacked_payload, written_block, written_file, stored_frame, filler_holds}
use Rattle.frame_file.proofs.BlockCount.{some_blocks}
use Rattle.frame_file.proofs.Raw10.{length_unpacked_payload, below_unpacked_payload}
use Rattle.frame_file.proofs.BlockSamples.{block_samples_joined, length_stored_samples}
use Rattle.frame_file.proofs.BlocksFromTests.{header_from_tests, samples_from_tests}
use Rattle.frame_file.proofs.ReadTests.{Passes, HeaderPasses, allowed_header}
use Rattle.frame_file.proofs.WrittenFile.{payload_of_block}

module _ (file : List ℕ) (bytes : Below 256 file) (room : ℕ) (p : HeaderPasses file room) where
  whole_block : (n : ℕ) → n < block_count (sample_count (stored_frame file)) → length (block file n) ≡ 512
  unfolding block file_length
  whole_block n h = length_part file (512 * n) 512 (omega (arith, p.count))

  block_bytes : (n : ℕ) → Below 256 (block file n)
  unfolding block
  block_bytes n = below_part 256 file (512 * n) 512 bytes

  first_block : block file 0 ≡ written_block (stored_frame file) 0
  unfolding written_block stored_frame stored_samples
  first_block =
      header_from_tests (block file 0) (whole_block 0 (some_blocks (sample_count (stored_frame file)))) (block_bytes 0) p.check
      p.number (allowed_header (block file 0) p.allowed).tagged
      p.filler

  later_block : (n : ℕ) → suc n < block_count (sample_count (stored_frame file))
      → Passes file (sample_count (stored_frame file)) (suc n) → block file (suc n) ≡ written_block (stored_frame file) (suc n)
  unfolding written_block stored_frame stored_samples filler_holds
  later_block n h q =
      let m : ℕ = sample_count (stored_frame file) in
      let stored : ℕ → List ℕ = λ i. unpacked_payload (payload file (suc i)) in
      let fillers = and_true (all_zero (block_filler (block file (suc n)))) _ q.filler in
      let one : suc n - 1 ≡ n = omega arith in
      let samples : block_samples (stored_frame file).samples (suc n) ≡ unpacked_payload (payload file (suc n)) =
      block_samples_joined m (block_count m - 1) stored (λ i. length_unpacked_payload (payload file (suc i))) n (omega arith)
      (subst (λ (k : ℕ). all_zero (drop (m - 400 * k) (stored n)) ≡ true) one fillers.1) in
      samples_from_tests (block file (suc n)) (whole_block (suc n) h) (block_bytes (suc n)) (suc n)
      (block_samples (stored_frame file).samples (suc n)) q.check q.number fillers.0
      (samples ∙ ap unpacked_payload (payload_of_block file (suc n)))

  pub file_is_written :
      ((n : ℕ) → 1 ≤ n → n < block_count (sample_count (stored_frame file)) → Passes file (sample_count (stored_frame file)) n)
      → file ≡ written_file (stored_frame file)
  unfolding written_file file_length block
  file_is_written each =
      let c : ℕ = block_count (sample_count (stored_frame file)) in
      sym (take_all (512 * c) file (omega (arith, p.count)))
      ∙ joined_parts file 512 c
      ∙ joined_cong c (block file) (written_block (stored_frame file))
      (elim [ zero ↦ λ h. first_block | suc n ↦ λ h. later_block n h (each (suc n) (omega arith) h) ])

  stored_samples_below : Below 1024 (stored_frame file).samples
  unfolding stored_frame stored_samples payload part
  stored_samples_below =
      let m : ℕ = sample_count (stored_frame file) in
      let stored : ℕ → List ℕ = λ i. unpacked_payload (payload file (suc i)) in
      below_part 1024 (joined (block_count m - 1) stored) 0 m
      (below_joined 1024 (block_count m - 1) stored (omega arith)
      (λ i. below_unpacked_payload (payload file (suc i)) (below_part 256 file (512 * suc i + 4) 500 bytes)))

  pub stored_frame_admitted : Admitted (stored_frame file)
  unfolding stored_frame stored_samples highest_sample
  stored_frame_admitted =
      let a = allowed_header (block file 0) p.allowed in
      record {
        width_allowed = rw a.width_allowed tt;
        height_allowed = rw a.height_allowed tt;
        phase_is_allowed = rw a.phase_is_allowed tt;
        samples_count = length_stored_samples file _;
        samples_in_range = λ k h. le_of_suc-le-suc (stored_samples_below k);
      }
