-- What E of row i is formed from, and what is stored. Definitions alone. Assumes nothing.
use Rattle.std.specs.Prelude.{List, ℕ, ◌+◌, ◌*◌, ◌<◌, ◌≤◌, ℤ, pos, get_or}
use Rattle.toolkit.specs.Writes.{Wrote}
use Rattle.frame.specs.Sites.{Frame, frame}
use Rattle.frame.specs.declared.Shape.{Shape}
use Rattle.positions.specs.Taken.{Taken}
use Rattle.positions.specs.Rings.{place_in_ring}
use Rattle.records.specs.Layout.{record_size}
use Rattle.records.specs.Quantities.{east_entry}
use Rattle.mosaic_rows.specs.LoadedRows.{Seven}
use Rattle.east_rows.specs.RowSums.{Summed}

-- the rows i − 2 to i + 4 stand in rows from the entries of at on, and a of the rows i − 1, i and i + 1 at the same entries of alongs
pub record EastReads (f : Frame) (i : ℕ) (at rows alongs : List ℕ) : Type 0 where
  pub taken : Taken f
  pub inside : i < f.height
  pub seven : Seven f (i + 2) at rows
  pub sums : (p : ℕ) → 1 ≤ p → p ≤ 3 → Summed f.width (get_or at p 0) rows alongs

abbrev pub EastStored : Frame → ℕ → List ℤ → List ℤ → Type 0
EastStored f i old new = Wrote (pos 0) (place_in_ring i * record_size f.width) (f.width + 2) (east_entry f i) old new

pub record EastStores (shape : Shape) (i : ℕ) (at rows alongs : List ℕ) (old new : List ℤ) : Type 0 where
  pub row : (zs : List ℕ) → EastReads (frame shape zs) i at rows alongs → EastStored (frame shape zs) i old new
