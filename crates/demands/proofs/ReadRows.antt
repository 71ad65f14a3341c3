-- What read answers is a row of its table. Assumes nothing.
use Rattle.std.specs.Prelude.{◌≡◌, refl, List, [], ◌∷◌, get_or, drop, Ok, Err}
use Rattle.std.proofs.Common.{ap, subst, sym, ◌∙◌, arith, length-drop, get_or-drop}
use Prim.Native.Nat.{ℕ, zero, suc, ◌+◌, ◌*◌, ◌-◌, ◌%◌, ◌<◌, ◌≤◌}
use Rattle.std.proofs.Math.ListN.{length}
use Rattle.answers.specs.declared.Refusal.TheVariants.{BufferLength, FileLength, Check, Header, BlockNumber, Filler}
use Rattle.frame.specs.Sites.{Frame, phase_allowed}
use Rattle.answers.specs.Calls.{returned, returned_by_read, and_then, in_order, Answer}
use Rattle.frame_file.specs.Lists.{part, all_zero, same_list, same_list_self, same_list_equal}
use Rattle.frame_file.specs.FrameFile.{sample_count, block, block_number, check, stored_check, tag, has_tag, header, header_filler, payload, block_filler, block_count, file_length, unpacked_payload, stored_frame, answer_of, length_allowed, check_holds, number_holds, header_allowed, filler_holds, reading}
use Rattle.frame_file.specs.FrameFile as File
use Rattle.frame_file.proofs.Raw10.{length_unpacked_payload}
use Rattle.demands.specs.Conditions.{Decides, holds, both_ways, same_decides, both_decide, equal_decides, at_most_decides, side_decides}
use Rattle.demands.specs.Rows.{RowOf}
use Rattle.demands.specs.ReadRows.{LengthAllowed, CheckHolds, NumberHolds, HeaderAllowed, AllZero, FillerZero, block_tests, read_tests}
use Rattle.demands.proofs.Rows.{AllTold, none, next, told, is_a_row}

-- ---- laws: lists

same_list_decides : (l m : List ℕ) → Decides (l ≡ m) (same_list l m)
same_list_decides l m = both_ways (same_list l m) (same_list_equal l m) (λ e. sym (ap (same_list l) e) ∙ same_list_self l)

first_zero : (x : ℕ) (l : List ℕ) → x ≡ 0 → AllZero l → AllZero (x ∷ l)
first_zero x l here rest zero h = here
first_zero x l here rest (suc k) h = rest k (omega arith)

zero_decides : (l : List ℕ) → Decides (AllZero l) (all_zero l)
unfolding all_zero
zero_decides [] = holds (λ k h. absurd (omega arith))
zero_decides (x ∷ l) =
    same_decides
    (λ both. first_zero x l both.0 both.1)
    (λ each. (each 0 (omega arith), λ k h. each (suc k) (omega arith)))
    (both_decide (equal_decides x 0) (zero_decides l))

-- the entries from position a on
dropped_zero : (l : List ℕ) (a : ℕ) → ((k : ℕ) → k < length l → a ≤ k → get_or l k 0 ≡ 0) → AllZero (drop a l)
dropped_zero l a each k h = get_or-drop a l k 0 ∙ each (a + k) (omega (arith, length-drop a l)) (omega arith)

zero_dropped : (l : List ℕ) (a : ℕ) → AllZero (drop a l) → (k : ℕ) → k < length l → a ≤ k → get_or l k 0 ≡ 0
zero_dropped l a each k h from =
    let e : a + (k - a) ≡ k = omega arith in
    subst (λ (i : ℕ). get_or l i 0 ≡ 0) e (sym (get_or-drop a l (k - a) 0) ∙ each (k - a) (omega (arith, length-drop a l)))

-- ---- laws: the tests of read

module _ (file : List ℕ) where
  length_decides : Decides (LengthAllowed file) (length_allowed (length file))
  unfolding length_allowed
  length_decides =
      same_decides (λ both. record { one_block = both.0; whole_blocks = both.1 }) (λ a. (a.one_block, a.whole_blocks))
      (both_decide (at_most_decides 512 (length file)) (equal_decides (length file % 512) 0))

  check_decides : (n : ℕ) → Decides (CheckHolds file n) (check_holds (block file n))
  unfolding check_holds
  check_decides n = equal_decides (stored_check (block file n)) (check (block file n))

  number_decides : (n : ℕ) → Decides (NumberHolds file n) (number_holds (block file n) n)
  unfolding number_holds
  number_decides n = equal_decides (block_number (block file n)) n

  header_decides : Decides (HeaderAllowed file) (header_allowed (block file 0))
  unfolding header_allowed has_tag phase_allowed stored_frame
  header_decides =
      let shape = header (block file 0) in
      same_decides
      (λ all. record {
        tagged = all.0;
        sides = record {
          width_low = all.1.0.0;
          width_high = all.1.0.1;
          height_low = all.1.1.0.0;
          height_high = all.1.1.0.1;
        };
        phase = all.1.1.1;
      })
      (λ a. let s = a.sides in (a.tagged, ((s.width_low, s.width_high), ((s.height_low, s.height_high), a.phase))))
      (both_decide (same_list_decides (part (block file 0) 4 4) tag)
      (both_decide (side_decides shape.width) (both_decide (side_decides shape.height) (at_most_decides shape.phase 3))))

  filler_decides : (n : ℕ) → Decides (FillerZero file n) (filler_holds file (sample_count (stored_frame file)) n)
  unfolding filler_holds
  filler_decides n =
      let stored = unpacked_payload (payload file n) in
      let start : ℕ = sample_count (stored_frame file) - 400 * (n - 1) in
      let size : length stored ≡ 400 = length_unpacked_payload (payload file n) in
      same_decides
      (λ both. record {
        bytes = both.0;
        samples = λ k h past. zero_dropped stored start both.1 k (omega (arith, size)) (omega arith);
      })
      (λ z. (z.bytes, dropped_zero stored start (λ k h from. z.samples k (omega (arith, size)) (omega arith))))
      (both_decide (zero_decides (block_filler (block file n))) (zero_decides (drop start stored)))

-- ---- laws: read

module _ (file : List ℕ) where
  blocks_told : (n left : ℕ) → AllTold (block_tests file n left) (File.block_tests file (sample_count (stored_frame file)) n left)
  unfolding block_tests File.block_tests
  blocks_told n zero = none
  blocks_told n (suc left) =
      next (told (Check n) (check_decides file n))
      (next (told (BlockNumber n) (number_decides file n))
      (next (told (Filler n) (filler_decides file n)) (blocks_told (suc n) left)))

  tests_told : (room : ℕ) → AllTold (read_tests file room) (File.read_tests file room)
  unfolding read_tests File.read_tests
  tests_told room =
      let f : Frame = stored_frame file in
      next (told FileLength (length_decides file))
      (next (told (Check 0) (check_decides file 0))
      (next (told (BlockNumber 0) (number_decides file 0))
      (next (told Header (header_decides file))
      (next (told (Filler 0) (zero_decides (header_filler (block file 0))))
      (next (told FileLength (equal_decides (length file) (file_length f)))
      (next (told BufferLength (at_most_decides (sample_count f) room))
      (blocks_told 1 (block_count (sample_count f) - 1))))))))

-- what is read after the tests changes neither number nor place
returned_after : (a : Answer) (f : Frame) → returned a ≡ returned_by_read (answer_of (and_then a (Ok f)))
returned_after (Ok _) f = refl
returned_after (Err why) f = refl

pub reading_row : (file : List ℕ) (room : ℕ) → RowOf (read_tests file room) (returned_by_read (answer_of (reading file room)))
unfolding reading
reading_row file room =
    subst (RowOf (read_tests file room)) (returned_after (in_order (File.read_tests file room)) (stored_frame file))
    (is_a_row (tests_told file room))
