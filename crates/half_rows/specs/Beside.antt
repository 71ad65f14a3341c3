-- What is read beside, above and below a site: rows and columns some way off, reflected. Assumes nothing.
use Rattle.std.specs.Prelude.{◌≡◌, refl, List, ℤ, pos, ◌+ℤ◌}
use Rattle.std.proofs.Math.Path.{sym, ap, ap₂}
use Rattle.std.proofs.Common.{◌∙◌, arith}
use Prim.Native.Nat.{ℕ, ◌+◌, ◌*◌, ◌-◌, ◌%◌, ◌<◌, ◌≤◌}
use Rattle.std.proofs.Math.IntN.{sub_ℕ}
use Rattle.std.proofs.Math.ListN.{get_or}
use Rattle.toolkit.specs.Entries.{Entries, entries_as}
use Rattle.frame.specs.Sites.{Frame, around, reflect}
use Rattle.frame.proofs.Reflection.{reflect_here}
use Rattle.positions.specs.Columns.{column_at}
use Rattle.positions.specs.ColumnLaws.{column_inside}
use Rattle.positions.specs.HalfRows.{chroma_start, half_count, chroma_count, chroma_row, Half}
use Rattle.positions.specs.HalfRowLaws.{count_column, both_counts, chroma_small, chroma_even, chroma_odd, chroma_count_is}
use Rattle.records.specs.Held.{Stands}

-- ---- an entry of a half row

-- entry x is the column o off column j, reflected
pub half_near : (W c lo hi : ℕ) (q : ℕ → ℤ) (row : List ℤ) → Half W c lo hi q row → (x j : ℕ) (o : ℤ) → lo ≤ x → x < hi
    → sub_ℕ (c + 2 * x) 8 ≡ pos j +ℤ o → get_or row x (pos 0) ≡ q (reflect W (pos j +ℤ o))
unfolding column_at
half_near W c lo hi q row h x j o a b e = h.at x a b ∙ ap (λ (y : ℤ). q (reflect W y)) e

-- in a half row of row r, which is o' off row i
pub half_around : (H W c lo hi : ℕ) (q : ℕ → ℕ → ℤ) (row : List ℤ) (r : ℕ) → Half W c lo hi (q r) row
    → (x i j : ℕ) (o' o : ℤ) → lo ≤ x → x < hi
    → r ≡ reflect H (pos i +ℤ o') → sub_ℕ (c + 2 * x) 8 ≡ pos j +ℤ o → get_or row x (pos 0) ≡ around H W q i j o' o
unfolding around
half_around H W c lo hi q row r h x i j o' o a b p e =
    half_near W c lo hi (q r) row h x j o a b e ∙ ap (λ (n : ℕ). q n (reflect W (pos j +ℤ o))) p

-- ---- the rows of a buffer

module _ (f : Frame) (place : ℕ → ℕ) (s o lo hi : ℕ) (q : ℕ → ℕ → ℤ) (src : List ℤ) (wide : 2 ≤ f.width)
    (held : Stands (pos 0) place s o (chroma_count f) lo hi (chroma_row f q) src) where
  -- entry k of row r
  pub entry_of_row : (r k a : ℕ) → lo ≤ r → r < hi → k < chroma_count f r → a ≡ place r * s + o
      → get_or src (a + k) (pos 0) ≡ q r (chroma_start f.phase r + 2 * k)
  unfolding chroma_row
  entry_of_row r k a l h n e = ap (λ (x : ℕ). get_or src (x + k) (pos 0)) e ∙ held.row r l h k n

  -- row r, as `copy` leaves it
  pub half_of_row : (r c a n : ℕ) (row : List ℤ) → lo ≤ r → r < hi → c ≡ chroma_start f.phase r
      → n ≡ half_count f.width c → a ≡ place r * s + o → Entries (pos 0) 2064 4 (n + 4) (λ (x : ℕ). get_or src (a + (x - 4)) (pos 0)) row
      → Half f.width c 4 (half_count f.width c + 4) (q r) row
  half_of_row r c a n row l h ec en ea copied = entries_as copied (omega arith) (omega arith) (λ x u v.
      let small : c ≤ 1 = rw ec (chroma_small f.phase r) in
      let k : x - 4 < half_count f.width c = omega arith in
      let m : c + 2 * (x - 4) < f.width = count_column f.width c (x - 4) small k in
      entry_of_row r (x - 4) a l h (omega (arith, chroma_count_is f r c ec)) ea
      ∙ ap (q r) (ap (λ (y : ℕ). y + 2 * (x - 4)) (sym ec)
      ∙ (sym (column_inside f.width (c + 2 * x) wide (omega arith) (omega arith) ∙ omega arith))))

  -- an entry read in place: row r is o' off row i
  pub row_near : (r i j k a : ℕ) (o' : ℤ) → r ≡ reflect f.height (pos i +ℤ o') → lo ≤ r → r < hi → k < chroma_count f r
      → j ≡ chroma_start f.phase r + 2 * k → a ≡ place r * s + o → get_or src (a + k) (pos 0) ≡ around f.height f.width q i j o' (pos 0)
  unfolding around
  row_near r i j k a o' p l h n ej ea =
      let c : ℕ = chroma_start f.phase r in
      let inside : j < f.width =
      rw ej (count_column f.width c k (chroma_small f.phase r) (omega (arith, chroma_count_is f r c refl))) in
      entry_of_row r k a l h n ea ∙ ap₂ q p (sym ej ∙ sym (reflect_here f.width j wide inside))

  -- an even number of rows off: the columns of row i
  pub row_near_even : (r i k a : ℕ) (o' : ℤ) → r ≡ reflect f.height (pos i +ℤ o') → lo ≤ r → r < hi → r % 2 ≡ i % 2
      → k < chroma_count f i → a ≡ place r * s + o
      → get_or src (a + k) (pos 0) ≡ around f.height f.width q i (chroma_start f.phase i + 2 * k) o' (pos 0)
  row_near_even r i k a o' p l h e n ea =
      let c : chroma_start f.phase r ≡ chroma_start f.phase i = chroma_even f.phase i r e in
      row_near r i (chroma_start f.phase i + 2 * k) k a o' p l h
      (omega (arith, chroma_count_is f r (chroma_start f.phase i) (sym c), chroma_count_is f i (chroma_start f.phase i) refl))
      (ap (λ (x : ℕ). x + 2 * k) (sym c)) ea

  -- an odd number of rows off: the green columns of row i
  pub row_near_odd : (r i k a : ℕ) (o' : ℤ) → r ≡ reflect f.height (pos i +ℤ o') → lo ≤ r → r < hi → r % 2 ≡ (i + 1) % 2
      → k < f.width - chroma_count f i → a ≡ place r * s + o
      → get_or src (a + k) (pos 0) ≡ around f.height f.width q i (1 - chroma_start f.phase i + 2 * k) o' (pos 0)
  row_near_odd r i k a o' p l h e n ea =
      let c : chroma_start f.phase r ≡ 1 - chroma_start f.phase i = chroma_odd f.phase i r e in
      row_near r i (1 - chroma_start f.phase i + 2 * k) k a o' p l h
      (omega (
        arith,
        chroma_count_is f r (1 - chroma_start f.phase i) (sym c),
        chroma_count_is f i (chroma_start f.phase i) refl,
        both_counts f.width (chroma_start f.phase i) (chroma_small f.phase i) wide,
      ))
      (ap (λ (x : ℕ). x + 2 * k) (sym c)) ea
