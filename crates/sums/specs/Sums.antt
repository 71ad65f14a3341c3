-- The sums FH, FV and FD of the red and blue sites of a row, as half rows. Definitions alone. Assumes nothing.
use Rattle.std.specs.Prelude.{◌≡◌, List, ℕ, ◌+◌, ◌*◌, ◌-◌, ◌%◌, ◌<◌, ◌≤◌, min, ℤ, pos, ◌+ℤ◌, get_or}
use Rattle.toolkit.specs.Entries.{Entries}
use Rattle.frame.specs.Sites.{Frame, frame, Around, around}
use Rattle.frame.specs.declared.Shape.{Shape}
use Rattle.method.specs.Gradients.{apart, exchanged}
use Rattle.method.specs.Green.{horizontal, vertical, diagonal, column_sum}
use Rattle.positions.specs.HalfRows.{chroma_start, chroma_count, Half}
use Rattle.records.specs.Quantities.{trials}
use Rattle.records.specs.Stages.{ChromaHeld, SecondReads}
use Rattle.half_rows.specs.Sources.{Sized}

-- the entries of a half row
abbrev pub entries_of : List ℤ → ℕ → ℤ
entries_of row x = get_or row x (pos 0)

-- entry x of sums, with the distances to the entries t before and t behind
unfoldable pub with_columns : List ℤ → ℕ → (ℕ → ℤ) → ℕ → ℤ
with_columns row t sums x =
    sums x +ℤ pos (apart (get_or row x (pos 0)) (get_or row (x - t) (pos 0)))
    +ℤ pos (apart (get_or row x (pos 0)) (get_or row (x + t) (pos 0)))

-- the same with the distances to the rows of a plane that start at up and at down
unfoldable pub with_rows : List ℤ → List ℤ → ℕ → ℕ → (ℕ → ℤ) → ℕ → ℤ
with_rows row plane up down sums x =
    sums x +ℤ pos (apart (get_or row x (pos 0)) (get_or plane (up + (x - 4)) (pos 0)))
    +ℤ pos (apart (get_or row x (pos 0)) (get_or plane (down + (x - 4)) (pos 0)))

-- the same with the distances of both kinds
abbrev pub with_both : List ℤ → ℕ → List ℤ → ℕ → ℕ → (ℕ → ℤ) → ℕ → ℤ
with_both row t plane up down sums = with_rows row plane up down (with_columns row t sums)

-- what stands around the site of entry x of the half row of row i
abbrev pub around_entry : Frame → (ℕ → ℕ → ℤ) → ℕ → ℕ → Around ℤ
around_entry f q i x = around f.height f.width q i (chroma_start f.phase i + 2 * (x - 4))

-- a plane holds q at the red and blue sites of the rows to 8 off row i
abbrev pub HeldNear : Frame → ℕ → (ℕ → ℕ → ℤ) → List ℤ → Type 0
HeldNear f i q plane = ChromaHeld f (i - 8) (min (i + 9) f.height) q plane

-- row r is one of them, an even number of rows off
pub record RowNear (H i r : ℕ) : Type 0 where
  pub low : i - 8 ≤ r
  pub high : r < min (i + 9) H
  pub even : r % 2 ≡ i % 2

-- half rows of the three sums, formed with the reach n; FH and FV are twice the first two
pub record Sums (f : Frame) (n i : ℕ) (fh fv fd : List ℤ) : Type 0 where
  pub across : Entries (pos 0) 2064 4 (chroma_count f i + 4)
      (λ (x : ℕ). pos (column_sum n (around_entry f (trials f horizontal) i x))) fh
  pub down : Entries (pos 0) 2064 4 (chroma_count f i + 4)
      (λ (x : ℕ). pos (column_sum n (exchanged (around_entry f (trials f vertical) i x)))) fv
  pub both : Entries (pos 0) 2064 4 (chroma_count f i + 4)
      (λ (x : ℕ). pos (column_sum n (around_entry f (trials f diagonal) i x)
      + column_sum n (exchanged (around_entry f (trials f diagonal) i x)))) fd

-- what the sums of row i are formed from: the planes, and the half rows of r_H and r_D between four reflected entries on each side,
-- that of r_V without
pub record SumsRead (f : Frame) (i : ℕ) (diagonals verticals rh rv rd : List ℤ) : Type 0 where
  pub planes : SecondReads f i diagonals verticals
  pub across_row : Half f.width (chroma_start f.phase i) 0 (chroma_count f i + 8) (trials f horizontal i) rh
  pub down_row : Half f.width (chroma_start f.phase i) 4 (chroma_count f i + 4) (trials f vertical i) rv
  pub both_row : Half f.width (chroma_start f.phase i) 0 (chroma_count f i + 8) (trials f diagonal i) rd

-- what the steps from s to t do, whatever the frame
pub record Widens (shape : Shape) (i s t : ℕ) (diagonals verticals rh rv rd fh fv fd new_fh new_fv new_fd : List ℤ) : Type 0 where
  pub step : (zs : List ℕ) → SumsRead (frame shape zs) i diagonals verticals rh rv rd → Sums (frame shape zs) s i fh fv fd
      → Sums (frame shape zs) t i new_fh new_fv new_fd

-- all steps
pub record Summed (shape : Shape) (i n : ℕ) (diagonals verticals rh rv rd fh fv fd : List ℤ) : Type 0 where
  pub row : (zs : List ℕ) → SumsRead (frame shape zs) i diagonals verticals rh rv rd → Sums (frame shape zs) n i fh fv fd

-- ---- sizes

-- half rows of sums: FD has the terms of both kinds
pub record SumsRoom (m count : ℕ) (fh fv fd : List ℤ) : Type 0 where
  pub across_most : Sized m 4 (count + 4) fh
  pub down_most : Sized m 4 (count + 4) fv
  pub both_most : Sized (2 * m) 4 (count + 4) fd
