-- A block that passes its tests is one that write makes. Assumes nothing.
use Rattle.std.specs.Prelude.{◌≡◌, true, List, [], ◌∷◌, ◌++◌, ℕ, ◌+◌, ◌≤◌, ◌<◌, length, get_or}
use Rattle.std.proofs.Common.{sym, ◌∙◌, ap₂, arith, drop-cons}
use Rattle.std.proofs.Math.Path.{ap}
use Rattle.toolkit.specs.Tests.{eqb_eq}
use Rattle.frame_file.specs.Lists.{part, length_part, part_split, zeros, all_zero, all_zero_zeros, same_list_equal, Below, below_part}
use Rattle.frame_file.specs.FrameFile.{little_endian_bytes, tag, has_tag, header, header_filler, block_number, block_filler, packed_payload, unpacked_payload, with_check, check_holds, number_holds, header_bytes, sample_bytes}
use Rattle.frame_file.proofs.LittleEndian.{part_of_number}
use Rattle.frame_file.proofs.Check.{check_holds_with_check}
use Rattle.frame_file.proofs.Raw10.{packed_unpacked_payload}

-- a list of two parts
pub both_parts : {a b c d : List ℕ} → a ≡ c → b ≡ d → a ++ b ≡ c ++ d
both_parts e f = ap₂ (λ (s t : List ℕ). s ++ t) e f

part_of_one : (l : List ℕ) (a : ℕ) → a < length l → part l a 1 ≡ get_or l a 0 ∷ []
unfolding part
part_of_one l a h = rw (drop-cons l a 0 h)

module _ (b : List ℕ) (size : length b ≡ 512) (bytes : Below 256 b) where
  zero_part : (a n : ℕ) → a + n ≤ 512 → all_zero (part b a n) ≡ true → part b a n ≡ zeros n
  zero_part a n h t = all_zero_zeros (part b a n) t ∙ ap zeros (length_part b a n (omega arith))

  number_part : (n : ℕ) → number_holds b n ≡ true → part b 0 4 ≡ little_endian_bytes 4 n
  unfolding number_holds block_number
  number_part n t = part_of_number b 0 4 (omega arith) bytes ∙ ap (little_endian_bytes 4) (eqb_eq _ n t)

  tag_part : has_tag b ≡ true → part b 4 4 ≡ tag
  unfolding has_tag
  tag_part t = same_list_equal (part b 4 4) tag t

  header_part : number_holds b 0 ≡ true → has_tag b ≡ true → all_zero (header_filler b) ≡ true → part b 0 508 ≡ header_bytes (header b)
  unfolding header_bytes header header_filler
  header_part n t z =
      part_split b 0 4 504
      ∙ both_parts (number_part 0 n) (part_split b 4 4 500
      ∙ both_parts (tag_part t) (part_split b 8 2 498
      ∙ both_parts (part_of_number b 8 2 (omega arith) bytes) (part_split b 10 2 496
      ∙ both_parts (part_of_number b 10 2 (omega arith) bytes) (part_split b 12 1 495
      ∙ both_parts (part_of_one b 12 (omega arith)) (zero_part 13 495 (omega arith) z)))))

  pub header_from_tests : check_holds b ≡ true → number_holds b 0 ≡ true → has_tag b ≡ true → all_zero (header_filler b) ≡ true
      → b ≡ with_check (header_bytes (header b))
  header_from_tests c n t z = check_holds_with_check b size bytes c ∙ ap with_check (header_part n t z)

  payload_part : (s : List ℕ) → s ≡ unpacked_payload (part b 4 500) → part b 4 500 ≡ packed_payload s
  payload_part s e =
      sym (ap packed_payload e
      ∙ packed_unpacked_payload (part b 4 500) (length_part b 4 500 (omega arith)) (below_part 256 b 4 500 bytes))

  pub samples_from_tests : (n : ℕ) (samples : List ℕ) → check_holds b ≡ true → number_holds b n ≡ true → all_zero (block_filler b) ≡ true
      → samples ≡ unpacked_payload (part b 4 500) → b ≡ with_check (sample_bytes n samples)
  unfolding sample_bytes block_filler
  samples_from_tests n samples c t z e =
      check_holds_with_check b size bytes c
      ∙ ap with_check (part_split b 0 4 504
      ∙ both_parts (number_part n t) (part_split b 4 500 4
      ∙ both_parts (payload_part samples e) (zero_part 504 4 (omega arith) z)))
