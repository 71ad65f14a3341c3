-- What each stage of the sweep reads for row i, and what it stores. Definitions alone. Assumes nothing.
-- `XReads` is what a stage asks of some frame, and what it is told of the frame whose numbers it then stores.
use Rattle.std.specs.Prelude.{◌≡◌, List, ℕ, ◌+◌, ◌*◌, ◌-◌, ◌<◌, ◌≤◌, min, ℤ, pos, length}
use Rattle.toolkit.specs.Writes.{Wrote}
use Rattle.frame.specs.Sites.{Frame, frame}
use Rattle.frame.specs.declared.Shape.{Shape}
use Rattle.method.specs.Green.{vertical, diagonal}
use Rattle.positions.specs.Taken.{Taken}
use Rattle.positions.specs.HalfRows.{chroma_count, chroma_row, in_halves}
use Rattle.positions.specs.Rings.{place_in_ring, Round}
use Rattle.records.specs.Held.{Held, MapHeld, Kept}
use Rattle.records.specs.Layout.{record_size, gradient_size, final_part, other_part, top_size}
use Rattle.records.specs.Quantities.{norths, gradient_entry, trials, first_codes, greens, finals, others, decisions}

-- the gradients of the rows from lo to hi − 1: E and S in their records, N of the rows 0 and 1 in tops
pub record Gradients (f : Frame) (lo hi : ℕ) (tops work : List ℤ) : Type 0 where
  pub records : Kept (record_size f.width) 0 (λ r. gradient_size f.width) lo hi (gradient_entry f) work
  pub top_rows : Held top_size 0 (λ r. f.width) 0 (min hi 2) (in_halves f (norths f)) tops

-- a frame, one of its rows, and the buffers that all stages share; base is a row at place 0 of the records' ring
pub record Lent (f : Frame) (i base : ℕ) (tops work : List ℤ) : Type 0 where
  pub taken : Taken f
  pub inside : i < f.height
  pub round : Round base (i - 4) (i + 4)
  pub tops_size : length tops ≡ 2 * top_size
  pub work_size : length work ≡ f.height * record_size f.width

abbrev pub PlaneSize : {A : Type 0} → Frame → List A → Type 0
PlaneSize f plane = length plane ≡ f.height * f.width

-- a quantity of the red and blue sites of the rows from lo to hi − 1, in a plane and in the records
abbrev pub ChromaHeld : Frame → ℕ → ℕ → (ℕ → ℕ → ℤ) → List ℤ → Type 0
ChromaHeld f lo hi q plane = Held f.width 0 (chroma_count f) lo hi (chroma_row f q) plane

abbrev pub ChromaKept : Frame → ℕ → ℕ → ℕ → (ℕ → ℕ → ℤ) → List ℤ → Type 0
ChromaKept f o lo hi q work = Kept (record_size f.width) o (chroma_count f) lo hi (chroma_row f q) work

-- the codes of the first pass at the red and blue sites of these rows, in the map
abbrev pub CodesHeld : Frame → ℕ → ℕ → List ℕ → Type 0
CodesHeld f lo hi map = MapHeld f.width 0 (chroma_count f) lo hi (chroma_row f (first_codes f)) map

-- ---- first: E, S, r_D and r_V of row i, from the mosaic; N is S of row i − 2
pub record FirstReads (f : Frame) (i base : ℕ) (tops work : List ℤ) : Type 0 where
  pub lent : Lent f i base tops work
  pub above : Gradients f (i - 2) i tops work

-- N of the rows 0 and 1 is stored where they are reached
pub record TopsStored (f : Frame) (i : ℕ) (old new : List ℤ) : Type 0 where
  pub here : i < 2 → Wrote (pos 0) (i * top_size) f.width (in_halves f (norths f) i) old new
  pub late : 2 ≤ i → new ≡ old

abbrev pub GradientsStored : Frame → ℕ → List ℤ → List ℤ → Type 0
GradientsStored f i old new = Wrote (pos 0) (place_in_ring i * record_size f.width) (gradient_size f.width) (gradient_entry f i) old new

-- a quantity of the red and blue sites of row i is stored in its row of a plane
abbrev pub ChromaStored : Frame → (ℕ → ℕ → ℤ) → ℕ → List ℤ → List ℤ → Type 0
ChromaStored f q i old new = Wrote (pos 0) (i * f.width) (chroma_count f i) (chroma_row f q i) old new

-- the same in its record, from entry o on
abbrev pub RecordStored : Frame → ℕ → (ℕ → ℕ → ℤ) → ℕ → List ℤ → List ℤ → Type 0
RecordStored f o q i old new = Wrote (pos 0) (place_in_ring i * record_size f.width + o) (chroma_count f i) (chroma_row f q i) old new

-- the codes of the first pass in row i of the map
abbrev pub CodesStored : Frame → ℕ → List ℕ → List ℕ → Type 0
CodesStored f i old new = Wrote 0 (i * f.width) (chroma_count f i) (chroma_row f (first_codes f) i) old new

-- ---- second: D of row i, from r_D and r_V of the rows to 8 off; row i of the map, from these and the codes of the first pass
pub record SecondReads (f : Frame) (i : ℕ) (diagonals verticals : List ℤ) : Type 0 where
  pub taken : Taken f
  pub inside : i < f.height
  pub diagonals_size : PlaneSize f diagonals
  pub verticals_size : PlaneSize f verticals
  pub diagonals_held : ChromaHeld f (i - 8) (min (i + 9) f.height) (trials f diagonal) diagonals
  pub verticals_held : ChromaHeld f (i - 8) (min (i + 9) f.height) (trials f vertical) verticals

pub record SecondLent (f : Frame) (i : ℕ) (diagonals verticals : List ℤ) (map : List ℕ) : Type 0 where
  pub planes : SecondReads f i diagonals verticals
  pub map_size : PlaneSize f map
  pub codes : CodesHeld f i (i + 1) map

pub record SecondStored (f : Frame) (i : ℕ) (green green' : List ℤ) (map map' : List ℕ) : Type 0 where
  pub differences_stored : ChromaStored f (greens f) i green green'
  pub map_stored : Wrote 0 (i * f.width) f.width (decisions f i) map map'

pub record SecondStores (shape : Shape) (i : ℕ) (diagonals verticals green green' : List ℤ) (map map' : List ℕ) : Type 0 where
  pub row : (zs : List ℕ) → SecondLent (frame shape zs) i diagonals verticals map → SecondStored (frame shape zs) i green green' map map'

-- ---- enhance: the final difference of row i, from D of the rows i and two off
pub record EnhanceReads (f : Frame) (i base : ℕ) (tops work green : List ℤ) : Type 0 where
  pub lent : Lent f i base tops work
  pub green_size : PlaneSize f green
  pub gradients : Gradients f (i - 2) (i + 1) tops work
  pub greens_held : ChromaHeld f (i - 2) (min (i + 3) f.height) (greens f) green

pub record EnhanceStores (shape : Shape) (i base : ℕ) (tops green old new : List ℤ) : Type 0 where
  pub row : (zs : List ℕ) → EnhanceReads (frame shape zs) i base tops old green
      → RecordStored (frame shape zs) (final_part shape.width) (finals (frame shape zs)) i old new

-- ---- diagonal: the difference of the other colour of row i, from the final differences of the rows one off
pub record DiagonalReads (f : Frame) (i base : ℕ) (tops work : List ℤ) : Type 0 where
  pub lent : Lent f i base tops work
  pub gradients : Gradients f (i - 2) (i + 1) tops work
  pub finals_held : ChromaKept f (final_part f.width) (i - 1) (min (i + 2) f.height) (finals f) work

pub record DiagonalStores (shape : Shape) (i base : ℕ) (tops old new : List ℤ) : Type 0 where
  pub row : (zs : List ℕ) → DiagonalReads (frame shape zs) i base tops old
      → RecordStored (frame shape zs) (other_part shape.width) (others (frame shape zs)) i old new

-- ---- out: the three numbers of row i, from both differences of the rows i and one off
pub record OutReads (f : Frame) (i base : ℕ) (tops work : List ℤ) : Type 0 where
  pub reads : DiagonalReads f i base tops work
  pub others_held : ChromaKept f (other_part f.width) (i - 1) (min (i + 2) f.height) (others f) work
