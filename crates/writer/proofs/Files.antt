-- The blocks of a file, written one after the other. Assumes nothing.
use mathlib.Core.Path.{◌≡◌, refl, sym, ◌∙◌, ap, ap₂}
use mathlib.Core.List.{List, [], ◌++◌, append-nil}
use Prim.Native.Nat.{ℕ, zero, suc, ◌+◌, ◌*◌, ◌-◌, ◌≤◌}
use native.Mathlib.Omega.{arith}
use lib.ListN.{length, drop, drop_of_length-le}
use lib.Seq.{drop_at}
use Rattle.frame.specs.declared.Shape.{Shape}
use Rattle.frame.specs.Sites.{frame}
use Rattle.frame_file.specs.Lists.{part, joined, put_at, put_at_next, put_at_joined, length_put_at}
use Rattle.frame_file.specs.FrameFile.{filled_up, block_samples, block_count, with_check, header_bytes, sample_bytes, written_block, written_file}
use Rattle.frame_file.proofs.Check.{length_with_check}
use Rattle.frame_file.proofs.WrittenBlocks.{length_sample_bytes, length_written_block}

-- the first n blocks are written, whatever the shape of block 0; `before` is the file where only block 0 is written
pub record Written (mosaic before file : List ℕ) (n : ℕ) : Type 0 where
  pub low : 1 ≤ n
  pub size : length file ≡ length before
  pub blocks : (shape : Shape) → before ≡ joined 1 (written_block (frame shape mosaic)) ++ drop 512 before
      → file ≡ joined n (written_block (frame shape mosaic)) ++ drop (512 * n) before

pub first_written : (shape : Shape) (mosaic old file : List ℕ) → file ≡ put_at old 0 (with_check (header_bytes shape))
    → file ≡ joined 1 (written_block (frame shape mosaic)) ++ drop 512 file
unfolding joined written_block
first_written shape mosaic old file e =
    let first : List ℕ = with_check (header_bytes shape) in
    let size : length (with_check (header_bytes shape)) ≡ 512 = length_written_block (frame shape mosaic) 0 in
    let whole : file ≡ first ++ drop (0 + length first) old = e ∙ put_at_next [] old first 0 refl in
    whole ∙ ap (λ (t : List ℕ). first ++ t) (sym (ap (drop 512) whole ∙ drop_at first (drop (0 + length first) old) 512 size))

later_block : (shape : Shape) (mosaic samples : List ℕ) (n : ℕ) → 1 ≤ n → samples ≡ part mosaic (400 * (n - 1)) 400
    → with_check (sample_bytes n (filled_up samples)) ≡ written_block (frame shape mosaic) n
unfolding written_block block_samples
later_block shape mosaic samples zero h e = absurd (omega arith)
later_block shape mosaic samples (suc n) h e = ap (λ (s : List ℕ). with_check (sample_bytes (suc n) (filled_up s))) e

pub written_next : (mosaic before file last samples : List ℕ) (n : ℕ) → 512 * n + 512 ≤ length file → Written mosaic before file n
    → samples ≡ part mosaic (400 * (n - 1)) 400 → last ≡ put_at file (512 * n) (with_check (sample_bytes n (filled_up samples)))
    → Written mosaic before last (n + 1)
written_next mosaic before file last samples n fits w e put = record {
  low = omega arith;
  size = ap length put
      ∙ length_put_at file (512 * n) _
      (rw (length_with_check (sample_bytes n (filled_up samples)) (length_sample_bytes n (filled_up samples))) fits) ∙ w.size;
  blocks = λ shape first.
      put
      ∙ ap₂ (λ (l m : List ℕ). put_at l (512 * n) m) (w.blocks shape first) (later_block shape mosaic samples n w.low e)
      ∙ put_at_joined (written_block (frame shape mosaic)) 512 (length_written_block (frame shape mosaic)) before n;
}

pub written_all : (shape : Shape) (mosaic before file : List ℕ) (n : ℕ) → n ≡ block_count (length mosaic)
    → length mosaic ≡ shape.height * shape.width
    → length before ≡ 512 * block_count (length mosaic) → Written mosaic before file n
    → before ≡ joined 1 (written_block (frame shape mosaic)) ++ drop 512 before → file ≡ written_file (frame shape mosaic)
unfolding written_file
written_all shape mosaic before file n h count size w first =
    let none : length before ≤ 512 * n = omega arith in
    w.blocks shape first
    ∙ ap (λ (t : List ℕ). joined n (written_block (frame shape mosaic)) ++ t) (drop_of_length-le before none)
    ∙ append-nil (joined n (written_block (frame shape mosaic)))
    ∙ ap (λ (k : ℕ). joined k (written_block (frame shape mosaic))) (h ∙ ap block_count count)
