-- What the lines of the first two stages are lent and store. Definitions alone. Assumes nothing.
use Rattle.std.specs.Prelude.{◌≡◌, List, ℕ, ◌+◌, ◌*◌, ◌-◌, ◌<◌, ◌≤◌, min, ℤ, length}
use Rattle.toolkit.specs.Writes.{Wrote}
use Rattle.frame.specs.Sites.{Frame, frame}
use Rattle.frame.specs.declared.Shape.{Shape}
use Rattle.method.specs.Green.{Direction, vertical, diagonal}
use Rattle.positions.specs.HalfRows.{chroma_start}
use Rattle.positions.specs.Rings.{place_in_ring}
use Rattle.records.specs.Quantities.{trials}
use Rattle.records.specs.Stages.{Gradients, Lent, FirstReads, TopsStored, GradientsStored, ChromaStored, CodesStored}
use Rattle.mosaic_rows.specs.LoadedRows.{RowStored, Seven}
use Rattle.mosaic_rows.specs.RingRows.{MosaicLent}
use Rattle.east_rows.specs.RowSums.{along_at, Summed}
use Rattle.east_rows.specs.EastRows.{EastReads}

-- a of the rows from lo to hi − 1 stands at their places, as it is formed of the rows
pub record SumsKept (f : Frame) (lo hi : ℕ) (rows alongs : List ℕ) : Type 0 where
  pub size : length alongs ≡ 98688
  pub row : (r : ℕ) → lo ≤ r → r < hi → Summed f.width (place_in_ring r * 4112) rows alongs

-- row i and its a are stored at their places
pub record LineLoaded (f : Frame) (i : ℕ) (rows rows' alongs alongs' : List ℕ) : Type 0 where
  pub row_stored : RowStored f i (place_in_ring i * 4112) rows rows'
  pub sums_stored : Wrote 0 (place_in_ring i * 4112 + 6) (f.width + 2) (λ (k : ℕ). along_at rows' (place_in_ring i * 4112 + 6 + k)) alongs alongs'

-- what the first stage reads for row i: the rows of the mosaic to four off, their a, and the gradients of the two rows above
pub record FirstLent (f : Frame) (i base : ℕ) (rows alongs : List ℕ) (tops work : List ℤ) : Type 0 where
  pub reads : FirstReads f i base tops work
  pub mosaic : MosaicLent f i base rows
  pub sums : SumsKept f (i - 4) (min (i + 5) f.height) rows alongs

-- what it stores
pub record FirstStored (f : Frame) (i : ℕ) (tops tops' work work' diagonals diagonals' verticals verticals' : List ℤ)
    (map map' : List ℕ) : Type 0 where
  pub tops_stored : TopsStored f i tops tops'
  pub gradients_stored : GradientsStored f i work work'
  pub diagonals_stored : ChromaStored f (trials f diagonal) i diagonals diagonals'
  pub verticals_stored : ChromaStored f (trials f vertical) i verticals verticals'
  pub codes_stored : CodesStored f i map map'

pub record FirstStores (shape : Shape) (i base : ℕ) (rows alongs : List ℕ)
    (tops tops' work work' diagonals diagonals' verticals verticals' : List ℤ) (map map' : List ℕ) : Type 0 where
  pub row : (zs : List ℕ) → FirstLent (frame shape zs) i base rows alongs tops work
      → FirstStored (frame shape zs) i tops tops' work work' diagonals diagonals' verticals verticals' map map'

-- N of a top row, whatever the frame
pub record TopsFormed (shape : Shape) (i base : ℕ) (rows : List ℕ) (old new : List ℤ) : Type 0 where
  pub row : (zs : List ℕ) → MosaicLent (frame shape zs) i base rows → TopsStored (frame shape zs) i old new

-- E and S of row i, whatever the frame
pub record GradientsFormed (shape : Shape) (i : ℕ) (at rows alongs : List ℕ) (old new : List ℤ) : Type 0 where
  pub row : (zs : List ℕ) → EastReads (frame shape zs) i at rows alongs → GradientsStored (frame shape zs) i old new

-- what the trial differences of row i are formed from: the rows i − 2 to i + 4 of the mosaic, and the gradients
pub record TrialsRead (f : Frame) (i base c : ℕ) (at rows : List ℕ) (tops work : List ℤ) : Type 0 where
  pub lent : Lent f i base tops work
  pub start : c ≡ chroma_start f.phase i
  pub seven : Seven f (i + 2) at rows
  pub gradients : Gradients f (i - 2) (i + 1) tops work

-- the trial differences of one direction, whatever the frame
pub record TrialsStored (shape : Shape) (i base c : ℕ) (d : Direction) (at rows : List ℕ) (tops work old new : List ℤ) : Type 0 where
  pub row : (zs : List ℕ) → TrialsRead (frame shape zs) i base c at rows tops work
      → ChromaStored (frame shape zs) (trials (frame shape zs) d) i old new

-- the codes, whatever the frame
pub record CodesFormed (shape : Shape) (i base c : ℕ) (at rows : List ℕ) (tops work : List ℤ) (map map' : List ℕ) : Type 0 where
  pub row : (zs : List ℕ) → TrialsRead (frame shape zs) i base c at rows tops work → CodesStored (frame shape zs) i map map'
