-- What stands in a block that write makes: its length, its check, its number, its header or payload, its filler. Assumes nothing.
use Rattle.std.specs.Prelude.{◌≡◌, true}
use Rattle.std.proofs.Math.Path.{refl, ap}
use Rattle.std.proofs.Common.{sym, ◌∙◌}
use mathlib.Core.List.{List, [], ◌∷◌, ◌++◌, append_assoc, append-nil}
use Prim.Native.Nat.{ℕ, zero, suc, ◌+◌, ◌^◌, ◌≤◌, ◌<◌}
use native.Mathlib.Omega.{arith}
use Rattle.std.proofs.Math.ListN.{length, length-append}
use Rattle.toolkit.specs.Tests.{eqb_yes}
use Rattle.frame.specs.declared.Shape.{Shape}
use Rattle.frame.specs.Sites.{Frame}
use Rattle.frame_file.specs.Lists.{part, part_append, part_middle, zeros, length_zeros, all_zero, zeros_all_zero, same_list_self, Below, below_append, below_zeros}
use Rattle.frame_file.specs.FrameFile.{shape_of, little_endian, little_endian_bytes, tag, has_tag, header, header_filler, block_number, block_filler, block_samples, packed_payload, with_check, check_holds, number_holds, header_bytes, sample_bytes, written_block}
use Rattle.frame_file.proofs.LittleEndian.{length_little_endian_bytes, below_little_endian_bytes, number_of_bytes}
use Rattle.frame_file.proofs.Check.{length_with_check, with_check_holds}
use Rattle.frame_file.proofs.Raw10.{length_packed_payload, below_packed_payload}

-- a part of the first 508 bytes is not changed by the check
part_with_check : (l : List ℕ) (a n : ℕ) → length l ≡ 508 → a + n ≤ 508 → part (with_check l) a n ≡ part l a n
unfolding with_check
part_with_check l a n e h = part_append l _ a n (omega arith)

-- ---- block 0

below_tag : Below 256 tag
unfolding tag
below_tag zero = omega arith
below_tag (suc zero) = omega arith
below_tag (suc (suc zero)) = omega arith
below_tag (suc (suc (suc zero))) = omega arith
below_tag (suc (suc (suc (suc k)))) = omega arith

module _ (shape : Shape) where
  pub length_header_bytes : length (header_bytes shape) ≡ 508
  unfolding header_bytes little_endian_bytes tag
  length_header_bytes = omega (arith, length_zeros 495)

  pub below_header_bytes : shape.phase < 256 → Below 256 (header_bytes shape)
  unfolding header_bytes
  below_header_bytes h =
      below_append 256 (little_endian_bytes 4 0) _ (below_little_endian_bytes 4 0)
      (below_append 256 tag _ below_tag
      (below_append 256 (little_endian_bytes 2 shape.width) _ (below_little_endian_bytes 2 shape.width)
      (below_append 256 (little_endian_bytes 2 shape.height) _ (below_little_endian_bytes 2 shape.height)
      (elim [ zero ↦ h | suc k ↦ below_zeros 256 495 (omega arith) k ]))))

  pub header_check_holds : shape.phase < 256 → check_holds (with_check (header_bytes shape)) ≡ true
  header_check_holds h = with_check_holds (header_bytes shape) length_header_bytes (below_header_bytes h)

  pub header_number_holds : number_holds (with_check (header_bytes shape)) 0 ≡ true
  unfolding number_holds block_number part with_check header_bytes little_endian_bytes little_endian
  header_number_holds = refl

  pub header_has_tag : has_tag (with_check (header_bytes shape)) ≡ true
  unfolding has_tag part with_check header_bytes little_endian_bytes tag
  header_has_tag = same_list_self tag

  pub header_of_bytes : shape.width < 256 ^ 2 → shape.height < 256 ^ 2 → header (with_check (header_bytes shape)) ≡ shape
  unfolding header part with_check header_bytes little_endian_bytes tag
  header_of_bytes w h =
      let ew : little_endian (little_endian_bytes 2 shape.width) ≡ shape.width = number_of_bytes 2 shape.width w in
      let eh : little_endian (little_endian_bytes 2 shape.height) ≡ shape.height = number_of_bytes 2 shape.height h in
      λ i. record { width = ew i; height = eh i; phase = shape.phase }

  pub header_filler_zero : all_zero (header_filler (with_check (header_bytes shape))) ≡ true
  unfolding header_filler with_check header_bytes little_endian_bytes tag
  header_filler_zero =
      let front : List ℕ = little_endian_bytes 4 0 ++
      (tag ++ (little_endian_bytes 2 shape.width ++ (little_endian_bytes 2 shape.height ++ (shape.phase ∷ [])))) in
      ap all_zero (part_middle front (zeros 495) _ 13 495 refl (length_zeros 495)) ∙ zeros_all_zero 495

-- ---- block n, from 1

module _ (n : ℕ) (samples : List ℕ) where
  length_number : length (little_endian_bytes 4 n) ≡ 4
  length_number = length_little_endian_bytes 4 n

  pub length_sample_bytes : length (sample_bytes n samples) ≡ 508
  unfolding sample_bytes
  length_sample_bytes =
      let p : List ℕ = packed_payload samples in
      omega (
        arith,
        length-append (little_endian_bytes 4 n) (p ++ zeros 4),
        length-append p (zeros 4),
        length_number,
        length_packed_payload samples,
        length_zeros 4,
      )

  pub below_sample_bytes : Below 1024 samples → Below 256 (sample_bytes n samples)
  unfolding sample_bytes
  below_sample_bytes h =
      below_append 256 (little_endian_bytes 4 n) _ (below_little_endian_bytes 4 n)
      (below_append 256 (packed_payload samples) (zeros 4) (below_packed_payload samples h) (below_zeros 256 4 (omega arith)))

  pub samples_check_holds : Below 1024 samples → check_holds (with_check (sample_bytes n samples)) ≡ true
  samples_check_holds h = with_check_holds (sample_bytes n samples) length_sample_bytes (below_sample_bytes h)

  number_in_block : part (with_check (sample_bytes n samples)) 0 4 ≡ little_endian_bytes 4 n
  unfolding sample_bytes
  number_in_block = part_with_check (sample_bytes n samples) 0 4 length_sample_bytes (omega arith)
      ∙ part_middle [] (little_endian_bytes 4 n) _ 0 4 refl length_number

  pub samples_number_holds : n < 256 ^ 4 → number_holds (with_check (sample_bytes n samples)) n ≡ true
  unfolding number_holds block_number
  samples_number_holds h = eqb_yes (ap little_endian number_in_block ∙ number_of_bytes 4 n h)

  pub payload_in_block : part (with_check (sample_bytes n samples)) 4 500 ≡ packed_payload samples
  unfolding sample_bytes
  payload_in_block =
      part_with_check (sample_bytes n samples) 4 500 length_sample_bytes (omega arith)
      ∙ part_middle (little_endian_bytes 4 n) (packed_payload samples) (zeros 4) 4 500 length_number (length_packed_payload samples)

  filler_in_block : part (with_check (sample_bytes n samples)) 504 4 ≡ zeros 4
  unfolding sample_bytes
  filler_in_block =
      let number : List ℕ = little_endian_bytes 4 n in
      let p : List ℕ = packed_payload samples in
      let front : length (number ++ p) ≡ 504 = omega (arith, length-append number p, length_number, length_packed_payload samples) in
      part_with_check (sample_bytes n samples) 504 4 length_sample_bytes (omega arith)
      ∙ ap (λ (t : List ℕ). part t 504 4)
      (sym (append_assoc number p (zeros 4)) ∙ ap (λ (t : List ℕ). (number ++ p) ++ t) (sym (append-nil (zeros 4))))
      ∙ part_middle (number ++ p) (zeros 4) [] 504 4 front (length_zeros 4)

  pub block_filler_zero : all_zero (block_filler (with_check (sample_bytes n samples))) ≡ true
  unfolding block_filler
  block_filler_zero = ap all_zero filler_in_block ∙ zeros_all_zero 4

pub length_written_block : (f : Frame) (n : ℕ) → length (written_block f n) ≡ 512
unfolding written_block
length_written_block f zero = length_with_check (header_bytes (shape_of f)) (length_header_bytes (shape_of f))
length_written_block f (suc n) =
    length_with_check (sample_bytes (suc n) _) (length_sample_bytes (suc n) (block_samples f.samples (suc n)))
