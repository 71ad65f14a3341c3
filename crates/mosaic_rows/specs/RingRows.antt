-- The rows of the mosaic that a step finds in the ring. Definitions alone. Assumes nothing.
use Rattle.std.specs.Prelude.{◌≡◌, List, ℕ, ◌+◌, ◌*◌, ◌-◌, ◌<◌, ◌≤◌, min, length}
use Rattle.frame.specs.Sites.{Frame}
use Rattle.positions.specs.Rings.{place_in_ring, Round}
use Rattle.positions.specs.Taken.{Taken}
use Rattle.mosaic_rows.specs.LoadedRows.{Loaded}

-- the rows from lo to hi − 1 stand at their places
pub record RowsKept (f : Frame) (lo hi : ℕ) (rows : List ℕ) : Type 0 where
  pub size : length rows ≡ 98688
  pub row : (r : ℕ) → lo ≤ r → r < hi → Loaded f r (place_in_ring r * 4112) rows

-- what is read of the mosaic for row i: the rows to four off
pub record MosaicLent (f : Frame) (i base : ℕ) (rows : List ℕ) : Type 0 where
  pub taken : Taken f
  pub inside : i < f.height
  pub round : Round base (i - 4) (i + 4)
  pub kept : RowsKept f (i - 4) (min (i + 5) f.height) rows
