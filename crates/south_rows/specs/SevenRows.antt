-- The seven local rows around a column, and what a line of N is formed from. Definitions alone. Assumes nothing.
use Rattle.std.specs.Prelude.{◌≡◌, List, ℕ, ◌+◌, ◌*◌, ◌-◌, ◌<◌, ◌≤◌, ℤ, pos, neg_ℤ, nat_abs, ◌+ℤ◌, length, get_or}
use Rattle.toolkit.specs.Writes.{Wrote}
use Rattle.frame.specs.Sites.{Frame, frame, Around}
use Rattle.frame.specs.declared.Shape.{Shape}
use Rattle.method.specs.Gradients.{exchanged, apart, taps, six_tap_pair, gradients}
use Rattle.positions.specs.Taken.{Taken}
use Rattle.positions.specs.HalfRows.{chroma_start, in_halves}
use Rattle.records.specs.Quantities.{norths}
use Rattle.mosaic_rows.specs.LoadedRows.{Seven}

-- what the rows that start at the entries of at hold around entry k of the row at at[4]: r rows down is the row at at[4 + r], c columns to
-- the right is entry k + c
unfoldable pub seven_rows : List ℕ → List ℕ → ℕ → Around ℤ
seven_rows rows at k r c = pos (get_or rows (get_or at (nat_abs (r +ℤ pos 4)) 0 + nat_abs (pos k +ℤ c)) 0)

-- the pair of s down the column of entry k, of the rows at at[0] to at[5] and at at[1] to at[6]: a of the rows exchanged for columns
unfoldable pub down_pair : List ℕ → List ℕ → ℕ → ℕ
down_pair rows at k = six_tap_pair (exchanged (seven_rows rows at k)) (pos 0) (neg_ℤ (pos 2))

-- N at entry k of the row at at[4]
unfoldable pub north_at : List ℕ → List ℕ → ℕ → ℕ
north_at rows at k = (gradients (seven_rows rows at k)).north

-- the sample at entry k of the row that starts at entry a
abbrev pub sample_at : List ℕ → ℕ → ℕ → ℤ
sample_at rows k a = pos (get_or rows (a + k) 0)

-- the pair of s, from the entries where the seven rows start
unfoldable pub column_pair : List ℕ → ℕ → ℕ → ℕ → ℕ → ℕ → ℕ → ℕ → ℕ → ℕ
column_pair rows a b c d e f g k =
    nat_abs (taps (sample_at rows k a) (sample_at rows k b) (sample_at rows k c) (sample_at rows k d) (sample_at rows k e) (sample_at rows k f))
    + nat_abs (taps (sample_at rows k b) (sample_at rows k c) (sample_at rows k d) (sample_at rows k e) (sample_at rows k f) (sample_at rows k g))

-- N, from the samples of two rows and the pairs of three columns
unfoldable pub north_sum : List ℕ → List ℕ → ℕ → ℕ → ℕ → ℕ
north_sum rows v here there k =
    8 * apart (sample_at rows k here) (sample_at rows k there) + 2 * get_or v k 0 + get_or v (k - 1) 0 + get_or v (k + 1) 0

-- entry n is in the array, and has at most 12 bits
abbrev pub SmallEntry : List ℕ → ℕ → Type 0
SmallEntry rows n = (n < 98688) × (get_or rows n 0 ≤ 4095)

-- so do the entries in front of entry hi of the rows that start at the entries of at
pub record SmallRows (hi : ℕ) (at rows : List ℕ) : Type 0 where
  pub each : (p k : ℕ) → p < 7 → k < hi → SmallEntry rows (get_or at p 0 + k)

-- what N of the columns 0 to w − 1 is formed from: samples of 12 bits of two rows, and the pairs of the columns −1 to w
pub record NorthReads (w here there : ℕ) (rows v : List ℕ) : Type 0 where
  pub narrow : w ≤ 4096
  pub here_room : here + w + 8 ≤ 98688
  pub there_room : there + w + 8 ≤ 98688
  pub here_small : (k : ℕ) → k < w + 8 → get_or rows (here + k) 0 ≤ 4095
  pub there_small : (k : ℕ) → k < w + 8 → get_or rows (there + k) 0 ≤ 4095
  pub pairs_small : (k : ℕ) → 7 ≤ k → k < w + 9 → get_or v k 0 ≤ 32760

-- the rows x − 4 to x + 2 of a frame, and where the first half of row x starts
pub record SouthReads (f : Frame) (x c : ℕ) (at rows : List ℕ) : Type 0 where
  pub taken : Taken f
  pub start : c ≡ chroma_start f.phase x
  pub seven : Seven f x at rows

-- what a line is lent: such rows of some frame, and room
pub record SouthLent (shape : Shape) (c to : ℕ) (at rows : List ℕ) (out : List ℤ) : Type 0 where
  pub samples : List ℕ
  pub row : ℕ
  pub reads : SouthReads (frame shape samples) row c at rows
  pub room : to + shape.width ≤ length out

-- N of row x in halves, whatever the frame and x
pub record SouthStores (shape : Shape) (c to : ℕ) (at rows : List ℕ) (old new : List ℤ) : Type 0 where
  pub row : (zs : List ℕ) (x : ℕ) → SouthReads (frame shape zs) x c at rows
      → Wrote (pos 0) to shape.width (in_halves (frame shape zs) (norths (frame shape zs)) x) old new
