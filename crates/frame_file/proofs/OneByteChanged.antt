-- A written file with one byte changed is refused with number 7 and that byte's block. Assumes nothing.
use Rattle.std.specs.Prelude.{◌≡◌, true, false, ℕ, zero, suc, ◌+◌, ◌*◌, ◌-◌, ◌/◌, ◌%◌, ◌≤◌, ◌<◌, eqb, set, Err}
use Rattle.std.proofs.Math.Path.{sym, ap}
use Rattle.std.proofs.Common.{◌∙◌, subst, ⊎_elim, eq-or-lt_of_le, eq-zero-or-pos, add_left_cancel, get_or-set_same}
use mathlib.Core.List.{List}
use Rattle.std.proofs.Math.Nat.{add_right_cancel, eq_of_mul-eq-mul_left}
use native.Mathlib.Omega.{arith}
use Rattle.std.proofs.Math.Dec.{leb}
use Rattle.std.proofs.Math.ListN.{length, get_or, length-set}
use Rattle.std.proofs.Math.Seq.{get_or-set_other}
use Rattle.toolkit.specs.Tests.{by_test, eqb_eq, leb_le, leb_gt}
use Rattle.answers.specs.declared.Refusal.TheVariants.{Check}
use Rattle.frame.specs.Sites.{Frame}
use Rattle.answers.specs.Calls.{returned_by_read, Admitted}
use Rattle.frame_file.specs.Lists.{part, length_part, get_d_part, part_set_past, part_set_before, part_set_inside, Below, below_part, below_set}
use Rattle.frame_file.specs.FrameFile.{sample_count, block, header, payload, block_count, file_length, little_endian, little_endian_bytes, position_weighted_sum, check, stored_check, check_holds, filler_holds, stored_frame, written_file, reading, read_answer}
use Rattle.frame_file.proofs.LittleEndian.{part_of_number}
use Rattle.frame_file.proofs.Check.{weighted_sum_cong, check_cong}
use Rattle.frame_file.proofs.ReadTests.{Passes, HeaderPasses, blocks_check, read_after_header, read_check_0}
use Rattle.frame_file.proofs.WrittenFile.{payload_of_block, length_written_file, frame_of_written_file, below_written_file, written_header_passes, written_block_passes, written_check_holds}

-- ---- the check of a block with one byte changed

-- two sums that differ in one term at most are equal only where that term is
weighted_sum_one : (n j : ℕ) (f g : ℕ → ℕ) → j < n → ((k : ℕ) → ¬ (k ≡ j) → f k ≡ g k) → position_weighted_sum f n ≡ position_weighted_sum g n → f j ≡ g j
unfolding position_weighted_sum
weighted_sum_one zero j f g h others e = absurd (omega arith)
weighted_sum_one (suc n) j f g h others e =
    ⊎_elim
    (λ (q : j ≡ n). subst (λ (i : ℕ). f i ≡ g i) (sym q) (last q))
    (λ (q : j < n). weighted_sum_one n j f g q others (front q))
    (eq-or-lt_of_le (below h))
  where
    below : j < suc n → j ≤ n
    below h = omega arith

    same_front : j ≡ n → position_weighted_sum f n ≡ position_weighted_sum g n
    same_front q = weighted_sum_cong n f g (λ k l. others k (λ r. omega arith))

    last : j ≡ n → f n ≡ g n
    last q =
        eq_of_mul-eq-mul_left (n + 1) (omega arith) (f n) (g n)
        (add_left_cancel (position_weighted_sum f n) (rw (same_front q) (rw (same_front q) at e)))

    front : j < n → position_weighted_sum f n ≡ position_weighted_sum g n
    front q = add_right_cancel ((n + 1) * g n) (rw (others n (λ (r : n ≡ j). omega arith)) at e)

module _ (b : List ℕ) (i v : ℕ) (size : length b ≡ 512) (bytes : Below 256 b) (small : v < 256) (other : ¬ (v ≡ get_or b i 0)) where
  changed : get_or (set b i v) i 0 ≡ get_or b i 0 → i < 512 → ⊥
  changed e h = other (sym (get_or-set_same b i v 0 (omega arith)) ∙ e)

  check_changed : i < 508 → check (set b i v) ≡ check b → ⊥
  unfolding check
  check_changed h e =
      changed (weighted_sum_one 508 i (λ k. get_or (set b i v) k 0) (λ k. get_or b k 0) h (λ k n. get_or-set_other b i k v 0 n) e) (omega arith)

  stored_check_changed : 508 ≤ i → i < 512 → stored_check (set b i v) ≡ stored_check b → ⊥
  unfolding stored_check
  stored_check_changed h l e =
      let same_part : part (set b i v) 508 4 ≡ part b 508 4 =
      part_of_number (set b i v) 508 4 (omega (arith, length-set b i v)) (below_set 256 b i v small bytes)
      ∙ ap (little_endian_bytes 4) e
      ∙ sym (part_of_number b 508 4 (omega arith) bytes) in
      let at_i : 508 + (i - 508) ≡ i = omega arith in
      changed (subst (λ (k : ℕ). get_or (set b i v) k 0 ≡ get_or b k 0) at_i
      (sym (get_d_part (set b i v) 508 4 (i - 508) (omega arith)) ∙ ap (λ (t : List ℕ). get_or t (i - 508) 0) same_part
      ∙ get_d_part b 508 4 (i - 508) (omega arith))) l

  -- the check of a block differs after any one byte of it is changed
  pub check_differs : i < 512 → check_holds b ≡ true → check_holds (set b i v) ≡ false
  unfolding check_holds stored_check
  check_differs h t =
      by_test (eqb (stored_check (set b i v)) (check (set b i v))) _
      (λ u. absurd (by_test (leb 508 i) ⊥
      (λ (q : leb 508 i ≡ true). stored_check_changed (leb_le 508 i q) h (eqb_eq _ _ u ∙ same_check (leb_le 508 i q) ∙ sym (eqb_eq _ _ t)))
      (λ (q : leb 508 i ≡ false). check_changed (leb_gt 508 i q) (sym (eqb_eq _ _ u) ∙ same_stored (leb_gt 508 i q) ∙ eqb_eq _ _ t))))
      (λ u. u)
    where
      same_check : 508 ≤ i → check (set b i v) ≡ check b
      same_check q = check_cong (set b i v) b (λ k l. get_or-set_other b i k v 0 (λ (r : k ≡ i). omega arith))

      same_stored : i < 508 → stored_check (set b i v) ≡ stored_check b
      same_stored q = ap little_endian (part_set_before b i v 508 4 q)

-- ---- the blocks of a file with one byte changed

module _ (file : List ℕ) (k v : ℕ) where
  earlier_block : (n : ℕ) → n < k / 512 → block (set file k v) n ≡ block file n
  unfolding block
  earlier_block n h = part_set_past file k v (512 * n) 512 (omega arith)

  changed_block : block (set file k v) (k / 512) ≡ set (block file (k / 512)) (k % 512) v
  unfolding block
  changed_block =
      let e : 512 * (k / 512) + k % 512 ≡ k = omega arith in
      ap (λ (j : ℕ). part (set file j v) (512 * (k / 512)) 512) (sym e)
      ∙ part_set_inside file (k % 512) v (512 * (k / 512)) 512 (omega arith)

  header_still_passes : (room : ℕ) → 0 < k / 512 → HeaderPasses file room → HeaderPasses (set file k v) room
  unfolding stored_frame file_length
  header_still_passes room h p =
      let first : block (set file k v) 0 ≡ block file 0 = earlier_block 0 h in
      let size : length (set file k v) ≡ length file = length-set file k v in
      record {
        size = rw size p.size;
        check = rw first p.check;
        number = rw first p.number;
        allowed = rw first p.allowed;
        filler = rw first p.filler;
        count = rw (size, first) p.count;
        enough = rw first p.enough;
      }

  block_still_passes : (samples n : ℕ) → n < k / 512 → Passes file samples n → Passes (set file k v) samples n
  unfolding filler_holds
  block_still_passes samples n h p =
      let this : block (set file k v) n ≡ block file n = earlier_block n h in
      let bytes : payload (set file k v) n ≡ payload file n =
      payload_of_block (set file k v) n ∙ ap (λ (b : List ℕ). part b 4 500) this ∙ sym (payload_of_block file n) in
      record { check = rw this p.check; number = rw this p.number; filler = rw (this, bytes) p.filler }

-- ---- the refusal

module _ (f : Frame) (a : Admitted f) (room : ℕ) (enough : sample_count f ≤ room) (k v : ℕ) (inside : k < length (written_file f))
    (small : v < 256)
    (other : ¬ (v ≡ get_or (written_file f) k 0)) where
  in_file : k / 512 < block_count (sample_count f)
  unfolding file_length
  in_file = omega (arith, length_written_file f)

  file_of_bytes : Below 256 (written_file f)
  file_of_bytes = below_written_file f a

  byte_of_block : get_or (block (written_file f) (k / 512)) (k % 512) 0 ≡ get_or (written_file f) k 0
  unfolding block
  byte_of_block =
      let e : 512 * (k / 512) + k % 512 ≡ k = omega arith in
      get_d_part (written_file f) (512 * (k / 512)) 512 (k % 512) (omega arith) ∙ ap (λ (i : ℕ). get_or (written_file f) i 0) e

  changed_check : check_holds (block (set (written_file f) k v) (k / 512)) ≡ false
  unfolding block file_length
  changed_check =
      rw (changed_block (written_file f) k v)
      (check_differs (block (written_file f) (k / 512)) (k % 512) v
      (length_part (written_file f) (512 * (k / 512)) 512 (omega (arith, length_written_file f, in_file)))
      (below_part 256 (written_file f) (512 * (k / 512)) 512 file_of_bytes)
      small (λ e. other (e ∙ byte_of_block)) (omega arith) (written_check_holds f a (k / 512) in_file))

  header_passes : HeaderPasses (written_file f) room
  header_passes = written_header_passes f a room enough

  changed_in_header : k / 512 ≡ 0 → reading (set (written_file f) k v) room ≡ Err (Check 0)
  changed_in_header e =
      read_check_0 (set (written_file f) k v) room (rw (length-set (written_file f) k v) header_passes.size)
      (subst (λ (n : ℕ). check_holds (block (set (written_file f) k v) n) ≡ false) e changed_check)

  same_count : 0 < k / 512 → sample_count (stored_frame (set (written_file f) k v)) ≡ sample_count f
  unfolding stored_frame
  same_count h =
      ap (λ (b : List ℕ). (header b).height * (header b).width) (earlier_block (written_file f) k v 0 h)
      ∙ ap (λ (g : Frame). g.height * g.width) (frame_of_written_file f a)

  changed_later : 0 < k / 512 → reading (set (written_file f) k v) room ≡ Err (Check (k / 512))
  changed_later h =
      read_after_header (set (written_file f) k v) room (header_still_passes (written_file f) k v room h header_passes)
      ∙ rw (
        same_count h,
        blocks_check (set (written_file f) k v) (sample_count f) (k / 512) 1 (block_count (sample_count f) - 1) h
            (omega (arith, in_file))
            (λ n l m. block_still_passes (written_file f) k v (sample_count f) n m (written_block_passes f a n l (omega (arith, in_file))))
            changed_check,
      )

  -- a written file with byte k changed to another byte is refused for its check, at the block of byte k
  pub one_byte_changed : reading (set (written_file f) k v) room ≡ Err (Check (k / 512))
  one_byte_changed =
      ⊎_elim (λ (e : k / 512 ≡ 0). changed_in_header e ∙ ap (λ (n : ℕ). Err (Check n)) (sym e)) changed_later
      (eq-zero-or-pos (k / 512))

  -- the call then returns 7 and that block
  pub one_byte_changed_returns : returned_by_read (read_answer (set (written_file f) k v) room) ≡ record { number = 7; place = k / 512 }
  unfolding read_answer
  one_byte_changed_returns = rw one_byte_changed
