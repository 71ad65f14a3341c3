-- Laws of read's chain of tests: what held where a file is accepted, and what is found where all tests hold up to a place.
-- Assumes nothing.
use Rattle.std.specs.Prelude.{◌≡◌, true, List, length, Ok, Err}
use Rattle.std.proofs.Math.Path.{refl, subst}
use Rattle.std.proofs.Math.Bool.{false}
use Rattle.std.proofs.Math.Logic.{⊎_elim}
use Prim.Native.Nat.{ℕ, zero, suc, ◌+◌, ◌-◌, ◌≤◌, ◌<◌}
use Rattle.std.proofs.Common.{eq-or-lt_of_le, le_refl, arith}
use Rattle.toolkit.specs.Tests.{eqb_eq, eqb_yes, leb_le, leb_yes, and_true}
use Rattle.answers.specs.declared.Refusal.TheVariants.{BufferLength, FileLength, Check, Header, BlockNumber, Filler}
use Rattle.frame.specs.Sites.{Frame, side_allowed, phase_allowed}
use Rattle.answers.specs.Calls.{Answer, no_refusal, and_then, in_order}
use Rattle.answers.proofs.Admission.{test_done, in_order_done, done_in_order}
use Rattle.frame_file.specs.Lists.{all_zero}
use Rattle.frame_file.specs.FrameFile.{sample_count, block, has_tag, header, header_filler, block_count, file_length, stored_frame, length_allowed, check_holds, number_holds, header_allowed, filler_holds, block_tests, read_tests, reading}

-- a file is accepted as a frame exactly when all its tests pass and this is the frame that it holds
pub accepted_passes : (a : Answer) (f g : Frame) → and_then a (Ok f) ≡ Ok g → (a ≡ no_refusal) × (f ≡ g)
accepted_passes (Ok _) f g e = (refl, cc)
accepted_passes (Err why) f g e = absurd (let z : ◌≡◌ {A = ℕ} 0 1 = cc in omega arith)

-- ---- blocks 1, 2, ..

-- block n of a file passes 7, 9 and 10
pub record Passes (file : List ℕ) (samples n : ℕ) : Type 0 where
  pub check : check_holds (block file n) ≡ true
  pub number : number_holds (block file n) n ≡ true
  pub filler : filler_holds file samples n ≡ true

module _ (file : List ℕ) (samples : ℕ) where
  pub blocks_pass : (n left : ℕ) → ((i : ℕ) → n ≤ i → i < n + left → Passes file samples i)
      → in_order (block_tests file samples n left) ≡ no_refusal
  unfolding block_tests in_order
  blocks_pass n zero each = refl
  blocks_pass n (suc left) each =
      let p = each n (le_refl n) (omega arith) in
      rw (p.check, p.number, p.filler) (blocks_pass (suc n) left (λ i h l. each i (omega arith) (omega arith)))

  pub blocks_passed : (n left : ℕ) → in_order (block_tests file samples n left) ≡ no_refusal
      → (i : ℕ) → n ≤ i → i < n + left → Passes file samples i
  unfolding block_tests
  blocks_passed n zero e i h l = absurd (omega arith)
  blocks_passed n (suc left) e i h l =
      let (check, (number, (filler, rest))) = in_order_done _ e in
      let here : Passes file samples n =
      record { check = test_done _ (Check n) check; number = test_done _ (BlockNumber n) number; filler = test_done _ (Filler n) filler } in
      ⊎_elim (λ (q : n ≡ i). subst (Passes file samples) q here)
      (λ (q : n < i). blocks_passed (suc n) left (done_in_order _ rest) i q (omega arith)) (eq-or-lt_of_le h)

  -- the first block whose check differs, after blocks that pass
  pub blocks_check : (m n left : ℕ) → n ≤ m → m < n + left → ((i : ℕ) → n ≤ i → i < m → Passes file samples i)
      → check_holds (block file m) ≡ false → in_order (block_tests file samples n left) ≡ Err (Check m)
  unfolding block_tests in_order
  blocks_check m n zero h l each differs = absurd (omega arith)
  blocks_check m n (suc left) h l each differs =
      ⊎_elim
      (λ (q : n ≡ m). let d : check_holds (block file n) ≡ false = rw q differs in rw (d, q))
      (λ (q : n < m). let p = each n (le_refl n) q in
      rw (p.check, p.number, p.filler) (blocks_check m (suc n) left q (omega arith) (λ i a b. each i (omega arith) b) differs))
      (eq-or-lt_of_le h)

-- ---- the tests before them

pub record HeaderPasses (file : List ℕ) (room : ℕ) : Type 0 where
  pub size : length_allowed (length file) ≡ true
  pub check : check_holds (block file 0) ≡ true
  pub number : number_holds (block file 0) 0 ≡ true
  pub allowed : header_allowed (block file 0) ≡ true
  pub filler : all_zero (header_filler (block file 0)) ≡ true
  pub count : length file ≡ file_length (stored_frame file)
  pub enough : sample_count (stored_frame file) ≤ room

-- what number 8 tests
pub record AllowedHeader (b : List ℕ) : Type 0 where
  pub tagged : has_tag b ≡ true
  pub width_allowed : side_allowed (header b).width ≡ true
  pub height_allowed : side_allowed (header b).height ≡ true
  pub phase_is_allowed : phase_allowed (header b).phase ≡ true

pub allowed_header : (b : List ℕ) → header_allowed b ≡ true → AllowedHeader b
unfolding header_allowed
allowed_header b e =
    let t = and_true (has_tag b) _ e in
    let w = and_true (side_allowed (header b).width) _ t.1 in
    let h = and_true (side_allowed (header b).height) _ w.1 in
    record { tagged = t.0; width_allowed = w.0; height_allowed = h.0; phase_is_allowed = h.1 }

-- the tests that are left after them
abbrev pub later_tests : List ℕ → List Answer
later_tests file = block_tests file (sample_count (stored_frame file)) 1 (block_count (sample_count (stored_frame file)) - 1)

pub read_after_header : (file : List ℕ) (room : ℕ) → HeaderPasses file room
    → reading file room ≡ and_then (in_order (later_tests file)) (Ok (stored_frame file))
unfolding reading read_tests in_order
read_after_header file room p =
    rw (p.size, p.check, p.number, p.allowed, p.filler, eqb_yes p.count, leb_yes p.enough)

-- the check of block 0 is tested next to the length
pub read_check_0 : (file : List ℕ) (room : ℕ) → length_allowed (length file) ≡ true → check_holds (block file 0) ≡ false
    → reading file room ≡ Err (Check 0)
unfolding reading read_tests in_order
read_check_0 file room size differs = rw (size, differs)

-- what a file that is accepted has passed
pub record Accepted (file : List ℕ) (room : ℕ) (f : Frame) : Type 0 where
  pub header : HeaderPasses file room
  pub blocks : in_order (later_tests file) ≡ no_refusal
  pub frame_is : stored_frame file ≡ f

pub accepted_file : (file : List ℕ) (room : ℕ) (f : Frame) → reading file room ≡ Ok f → Accepted file room f
unfolding reading read_tests
accepted_file file room f e =
    let both = accepted_passes (in_order (read_tests file room)) (stored_frame file) f e in
    let (size, (check, (number, (allowed, (filler, (count, (enough, blocks))))))) = in_order_done _ both.0 in
    record {
      header = record {
        size = test_done _ FileLength size;
        check = test_done _ (Check 0) check;
        number = test_done _ (BlockNumber 0) number;
        allowed = test_done _ Header allowed;
        filler = test_done _ (Filler 0) filler;
        count = eqb_eq _ _ (test_done _ FileLength count);
        enough = leb_le _ _ (test_done _ BufferLength enough);
      };
      blocks = done_in_order _ blocks;
      frame_is = both.1;
    }
