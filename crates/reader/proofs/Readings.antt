-- What read answers at each of its returns, and what it leaves. Assumes nothing.
use Rattle.std.specs.Prelude.{Err, Ok}
use mathlib.Core.Path.{◌≡◌, refl, sym, ◌∙◌, ap, ap₂}
use mathlib.Core.Bool.{Bool, true, false}
use mathlib.Core.List.{List, [], ◌∷◌, ◌++◌}
use Prim.Native.Nat.{ℕ, ◌*◌, ◌-◌, ◌≤◌, ◌<◌}
use native.Mathlib.Nat.{sub-zero, le_refl}
use native.Mathlib.Omega.{arith}
use lib.Dec.{leb, eqb}
use lib.ListN.{length, take, drop, length-take}
use borrow.Author.Tests.{ne_eqb}
use Rattle.toolkit.specs.Tests.{holds, leb_le, leb_yes, leb_no, eqb_yes, and_true}
use Rattle.frame.specs.declared.Shape.{Shape}
use Rattle.answers.specs.declared.Refusal.{Refusal}
use Rattle.answers.specs.declared.Refusal.TheVariants.{BufferLength, FileLength, Check, Header, BlockNumber, Filler}
use Rattle.answers.specs.Calls.{test, and_then, in_order, Answer, ReadAnswer, no_refusal}
use Rattle.answers.proofs.Admission.{test_done, in_order_done}
use Rattle.frame.proofs.Sites.{side_high}
use Rattle.block.specs.BlockTest.{block_answer}
use Rattle.frame_file.specs.Lists.{all_zero}
use Rattle.frame_file.specs.FrameFile.{block, header, header_filler, sample_count, block_count, file_length, stored_samples, stored_frame, Reading, length_allowed, check_holds, number_holds, header_allowed, block_tests, read_tests, reading, read_answer, samples_after_read}
use Rattle.frame_file.specs.FrameFile as File
use Rattle.frame_file.proofs.ReadTests.{allowed_header}
use Rattle.calls.specs.WhatCallsLeave.{ReadLeaves}
use Rattle.reader.specs.ReadSteps.{header_answer, first_answer}

-- the first five tests are one function of the code
five_tests : (size check number allowed filler : Bool) (rest : List Answer)
    → in_order (
    test size FileLength ∷ test check (Check 0) ∷ test number (BlockNumber 0) ∷ test allowed Header ∷ test filler (Filler 0) ∷ rest
    )
    ≡ in_order (
    in_order (
    test size FileLength
    ∷ in_order (test check (Check 0) ∷ test number (BlockNumber 0) ∷ [])
    ∷ in_order (test allowed Header ∷ test filler (Filler 0) ∷ [])
    ∷ []
    )
    ∷ rest
    )
unfolding in_order
five_tests true true true true true rest = refl
five_tests true true true true false rest = refl
five_tests true true true false filler rest = refl
five_tests true true false allowed filler rest = refl
five_tests true false number allowed filler rest = refl
five_tests false check number allowed filler rest = refl

-- the tests that come after them
abbrev later : List ℕ → ℕ → List Answer
later file room =
    let m : ℕ = sample_count (stored_frame file) in
    test (eqb (length file) (file_length (stored_frame file))) FileLength
    ∷ test (leb m room) BufferLength
    ∷ block_tests file m 1 (block_count m - 1)

read_is : (file : List ℕ) (room : ℕ) → reading file room ≡ and_then (in_order (first_answer file ∷ later file room)) (Ok (stored_frame file))
unfolding reading read_tests first_answer header_answer block_answer
read_is file room =
    ap (λ (a : Answer). and_then a (Ok (stored_frame file)))
    (five_tests (length_allowed (length file)) (check_holds (block file 0)) (number_holds (block file 0) 0)
    (header_allowed (block file 0)) (all_zero (header_filler (block file 0))) (later file room))

-- what the tests of block 0 leave
record First (file : List ℕ) : Type 0 where
  long : 512 ≤ length file
  width : (header (block file 0)).width ≤ 4096
  height : (header (block file 0)).height ≤ 4096

first_passes : (file : List ℕ) → first_answer file ≡ no_refusal → First file
unfolding first_answer header_answer length_allowed
first_passes file e =
    let (size, (first, (header, end))) = in_order_done _ e in
    let (allowed, filler) = in_order_done _ header in
    let long = and_true (leb 512 (length file)) _ (test_done _ FileLength size) in
    let a = allowed_header (block file 0) (test_done _ Header allowed) in
    record { long = leb_le 512 (length file) long.0; width = side_high (holds a.width_allowed); height = side_high (holds a.height_allowed) }

pub sides_small : (file : List ℕ) → first_answer file ≡ no_refusal → (shape : Shape) → shape ≡ header (block file 0)
    → (shape.width ≤ 4096) × (shape.height ≤ 4096)
sides_small file e shape es = let first = first_passes file e in rw es (first.width, first.height)

pub file_long : (file : List ℕ) → first_answer file ≡ no_refusal → 512 ≤ length file
file_long file e = (first_passes file e).long

-- what is known once the samples and blocks are counted
pub record Counted (file : List ℕ) (shape : Shape) (m blocks : ℕ) : Type 0 where
  pub done : first_answer file ≡ no_refusal
  pub shape_is : shape ≡ header (block file 0)
  pub samples_are : m ≡ shape.height * shape.width
  pub blocks_are : blocks ≡ block_count m

module _ (file before : List ℕ) where
  -- what read returns and leaves
  abbrev pub Returns : ReadAnswer → List ℕ → Type 0
  Returns = ReadLeaves file before

  -- a refusal is answered, and leaves the samples
  refused_so : (why : Refusal) → reading file (length before) ≡ Err why → Returns (Err why) before
  unfolding read_answer samples_after_read
  refused_so why e = record { answered = rw e; samples_left = rw e }

  pub first_refused : (why : Refusal) → first_answer file ≡ Err why → Returns (Err why) before
  unfolding in_order
  first_refused why e = refused_so why (read_is file (length before) ∙ rw e)

  module _ (shape : Shape) (m blocks : ℕ) (k : Counted file shape m blocks) where
    count_is : sample_count (stored_frame file) ≡ m
    unfolding stored_frame
    count_is = sym (k.samples_are ∙ ap (λ (s : Shape). s.height * s.width) k.shape_is)

    length_is : file_length (stored_frame file) ≡ 512 * blocks
    unfolding file_length
    length_is = ap (λ (n : ℕ). 512 * block_count n) count_is ∙ ap (λ (n : ℕ). 512 * n) (sym k.blocks_are)

    after_is : reading file (length before) ≡ and_then (in_order (later file (length before))) (Ok (stored_frame file))
    unfolding in_order
    after_is = read_is file (length before) ∙ rw k.done

    pub size_refused : ¬ (length file ≡ 512 * blocks) → Returns (Err FileLength) before
    unfolding in_order
    size_refused h = refused_so FileLength (after_is ∙ rw (length_is, ne_eqb (length file) (512 * blocks) h))

    module _ (size : length file ≡ 512 * blocks) where
      pub room_refused : length before < m → Returns (Err BufferLength) before
      unfolding in_order
      room_refused h = refused_so BufferLength (after_is ∙ rw (length_is, eqb_yes size, count_is, leb_no h))

      module _ (enough : m ≤ length before) where
        pub blocks_refused : (why : Refusal) → in_order (block_tests file m 1 (blocks - 1)) ≡ Err why → Returns (Err why) before
        unfolding in_order
        blocks_refused why e = refused_so why (after_is ∙ rw (length_is, eqb_yes size, count_is, leb_yes enough, ← k.blocks_are, e))

        reading_here : in_order (block_tests file m 1 (blocks - 1)) ≡ no_refusal → reading file (length before) ≡ Ok (stored_frame file)
        unfolding in_order
        reading_here e = after_is ∙ rw (length_is, eqb_yes size, count_is, leb_yes enough, ← k.blocks_are, e)

        -- the front of the samples, as long as the frame's
        front_size : length (take (m - 0) before) ≡ m
        front_size = simp (length-take, sub-zero) (omega arith)

        pub front_fits : 512 * block_count (length (take (m - 0) before)) ≤ length file
        front_fits = rw (front_size, ← k.blocks_are, size) (le_refl (512 * blocks))

        pub all_read : in_order (block_tests file m 1 (blocks - 1)) ≡ no_refusal → (last : List ℕ)
            → last ≡ stored_samples file (length (take (m - 0) before))
            → Returns (Ok shape) (last ++ drop (m - 0) before)
        unfolding read_answer samples_after_read stored_frame
        all_read e last el = record {
          answered = ap (λ (s : Shape). Ok s) k.shape_is ∙ sym (ap File.answer_of (reading_here e));
          samples_left =
              ap₂ (λ (s : List ℕ) (n : ℕ). s ++ drop n before) (el ∙ ap (stored_samples file) (front_size ∙ sym count_is))
              (sub-zero m ∙ sym count_is)
              ∙ sym (ap (λ (o : Reading). File.samples_of o before) (reading_here e));
        }
