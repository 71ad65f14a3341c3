-- The half rows of the last stage, and what each of its steps leaves. Definitions alone. Assumes nothing.
-- Of row i: own and other hold both differences of its red and blue sites, then x and y those of its green sites: of the colour that the
-- row has beside green, and of the other of red and blue. The outputs then stand in zx, xg and xo (red and blue sites: the measured
-- colour, green, the other colour) and in zg, x and y (green sites: green, the row's colour, the other colour).
use Rattle.std.specs.Prelude.{◌≡◌, List, ℕ, ◌+◌, ◌*◌, ◌-◌, ◌<◌, ℤ, pos, length, get_or}
use Rattle.toolkit.specs.Entries.{Entries}
use Rattle.toolkit.specs.Writes.{Wrote}
use Rattle.frame.specs.Sites.{Frame, Colour, green, frame}
use Rattle.frame.specs.Colours.{trade}
use Rattle.frame.specs.declared.Shape.{Shape}
use Rattle.method.specs.Gradients.{mosaic}
use Rattle.method.specs.Planes.{colour_difference}
use Rattle.positions.specs.Taken.{Taken}
use Rattle.positions.specs.Rings.{place_in_ring}
use Rattle.positions.specs.HalfRows.{chroma_start, half_count, chroma_count, Half}
use Rattle.records.specs.Quantities.{finals, others, outputs}
use Rattle.records.specs.Stages.{OutReads}
use Rattle.records.specs.SiteColours.{row_colour}
use Rattle.mosaic_rows.specs.LoadedRows.{Loaded}
use Rattle.half_rows.specs.Sources.{source_entry}
use Rattle.out_rows.specs.declared.Places.{Places}
use Rattle.out_rows.specs.RowPlaces.{RowOf}

-- a quantity of the red and blue sites of row i, and of its green sites
abbrev pub ChromaHalf : Frame → ℕ → (ℕ → ℕ → ℤ) → List ℤ → Type 0
ChromaHalf f i q row = Half f.width (chroma_start f.phase i) 4 (chroma_count f i + 4) (q i) row

abbrev pub GreenHalf : Frame → ℕ → (ℕ → ℕ → ℤ) → List ℤ → Type 0
GreenHalf f i q row = Half f.width (1 - chroma_start f.phase i) 4 (f.width - chroma_count f i + 4) (q i) row

-- a part of a row's record as `copy` leaves it, mirrored, and the columns c, c + 2, .. with one more on each side
abbrev pub Copied : Places → List ℤ → ℕ → List ℤ → Type 0
Copied p work a row = Entries (pos 0) 2064 4 (p.count + 4) (λ (x : ℕ). get_or work (a + (x - 4)) (pos 0)) row

abbrev pub Mirrored : ℕ → Places → List ℤ → List ℤ → Type 0
Mirrored W p copied row = Entries (pos 0) 2064 3 (half_count W p.start + 4 + 1) (λ (x : ℕ). get_or copied (source_entry W p.start x) (pos 0)) row

abbrev pub WideHalf : ℕ → Places → (ℕ → ℤ) → List ℤ → Type 0
WideHalf W p q row = Half W p.start 3 (half_count W p.start + 4 + 1) q row

pub record RowDifferences (f : Frame) (i : ℕ) (own other x y : List ℤ) : Type 0 where
  pub chroma_own : ChromaHalf f i (finals f) own
  pub chroma_other : ChromaHalf f i (others f) other
  pub green_own : GreenHalf f i (colour_difference (mosaic f) (row_colour f.phase i)) x
  pub green_other : GreenHalf f i (colour_difference (mosaic f) (trade (row_colour f.phase i))) y

-- at black level b
pub record RowOutputs (f : Frame) (b i : ℕ) (zx zg xg xo x y : List ℤ) : Type 0 where
  pub chroma_own : ChromaHalf f i (outputs f b (row_colour f.phase i)) zx
  pub chroma_green : ChromaHalf f i (outputs f b green) xg
  pub chroma_other : ChromaHalf f i (outputs f b (trade (row_colour f.phase i))) xo
  pub green_green : GreenHalf f i (outputs f b green) zg
  pub green_own : GreenHalf f i (outputs f b (row_colour f.phase i)) x
  pub green_other : GreenHalf f i (outputs f b (trade (row_colour f.phase i))) y

-- of every frame whose differences stand in work
pub record DifferencesFormed (shape : Shape) (i base : ℕ) (tops work own other x y : List ℤ) : Type 0 where
  pub row : (zs : List ℕ) → OutReads (frame shape zs) i base tops work → RowDifferences (frame shape zs) i own other x y

-- the samples of row i from entry at on, and its differences
pub record OutputsRead (f : Frame) (i at : ℕ) (rows : List ℕ) (own other x y : List ℤ) : Type 0 where
  pub taken : Taken f
  pub inside : i < f.height
  pub row : Loaded f i at rows
  pub differences : RowDifferences f i own other x y

-- of every frame whose samples and differences these are, at a black level
pub record OutputsFormed (shape : Shape) (black i at : ℕ) (rows : List ℕ) (own other x y zx zg xg xo x' y' : List ℤ) : Type 0 where
  pub row : (zs : List ℕ) → OutputsRead (frame shape zs) i at rows own other x y → RowOutputs (frame shape zs) black i zx zg xg xo x' y'

-- a row of three planes of the shape
pub record RowStores (shape : Shape) (i start : ℕ) (red_plane green_plane blue_plane : List ℤ) : Type 0 where
  pub row : RowOf shape i
  pub start_is : start ≡ chroma_start shape.phase i
  pub red_size : length red_plane ≡ shape.height * shape.width
  pub green_size : length green_plane ≡ shape.height * shape.width
  pub blue_size : length blue_plane ≡ shape.height * shape.width

-- of every frame and black level whose outputs stand in the half rows
pub record PlaneRow (shape : Shape) (i : ℕ) (c : Colour) (zx zg xg xo x y old new : List ℤ) : Type 0 where
  pub row : (b : ℕ) (zs : List ℕ) → RowOutputs (frame shape zs) b i zx zg xg xo x y
      → Wrote (pos 0) (i * shape.width) shape.width (outputs (frame shape zs) b c i) old new

-- ---- the line: row i stands in the ring of rows, its differences and those of the rows one off in work
pub record OutLent (f : Frame) (i base : ℕ) (rows : List ℕ) (tops work : List ℤ) : Type 0 where
  pub reads : OutReads f i base tops work
  pub row : Loaded f i (place_in_ring i * 4112) rows

-- row i of the plane of a colour
pub record OutStores (shape : Shape) (black i base : ℕ) (c : Colour) (rows : List ℕ) (tops work old new : List ℤ) : Type 0 where
  pub row : (zs : List ℕ) → OutLent (frame shape zs) i base rows tops work
      → Wrote (pos 0) (i * shape.width) shape.width (outputs (frame shape zs) black c i) old new
