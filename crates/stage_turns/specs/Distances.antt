-- What a stage asks at step t, and what its turn leaves: load works on row t, first 4 rows behind step t, second 12, enhance 14, diagonal 15, out 20.
-- Definitions alone. Assumes nothing.
use Rattle.std.specs.Prelude.{◌≡◌, List, ℕ, ◌+◌, ◌*◌, ◌-◌, ◌<◌, ◌≤◌, min, ℤ, length}
use Rattle.frame.specs.Sites.{Frame, Colour, frame}
use Rattle.frame.specs.declared.Shape.{Shape}
use Rattle.method.specs.Green.{vertical, diagonal}
use Rattle.positions.specs.Taken.{Taken}
use Rattle.positions.specs.HalfRows.{chroma_count, chroma_row, in_halves}
use Rattle.positions.specs.Rings.{Round}
use Rattle.records.specs.Turns.{Turn, MapTurn, RingTurn}
use Rattle.records.specs.Layout.{record_size, gradient_size, final_part, other_part, top_size}
use Rattle.records.specs.Quantities.{norths, gradient_entry, first_codes, trials, greens, finals, others, outputs, decisions}
use Rattle.records.specs.Stages.{Gradients, PlaneSize, ChromaHeld, ChromaKept, CodesHeld}
use Rattle.mosaic_rows.specs.RingRows.{RowsKept}
use Rattle.first_stage.specs.FirstStage.{SumsKept, LineLoaded}

-- a frame, and the buffers that all stages share
pub record Buffers (f : Frame) (tops work : List ℤ) : Type 0 where
  pub taken : Taken f
  pub tops_size : length tops ≡ 2 * top_size
  pub work_size : length work ≡ f.height * record_size f.width

-- a turn that stores a quantity of the red and blue sites in a plane, and in the records from entry o on
abbrev pub ChromaTurn : Frame → ℕ → ℕ → (ℕ → ℕ → ℤ) → List ℤ → List ℤ → Type 0
ChromaTurn f L t q old new = Turn f.height L t f.width 0 (chroma_count f) (chroma_row f q) old new

abbrev pub RecordTurn : Frame → ℕ → ℕ → ℕ → (ℕ → ℕ → ℤ) → List ℤ → List ℤ → Type 0
RecordTurn f L t o q old new = RingTurn f.height L t (record_size f.width) o (chroma_count f) (chroma_row f q) old new

-- ---- load, in its own step
pub record LoadTurned (f : Frame) (t : ℕ) (rows rows' alongs alongs' : List ℕ) : Type 0 where
  pub here : t < f.height → LineLoaded f t rows rows' alongs alongs'
  pub late : f.height ≤ t → (rows' ≡ rows) × (alongs' ≡ alongs)

-- ---- first, 4 rows behind
pub record FirstAsks (f : Frame) (t base : ℕ) (rows alongs : List ℕ) (tops work : List ℤ) : Type 0 where
  pub buffers : Buffers f tops work
  pub round : Round base (t - 24) t
  pub kept : RowsKept f (t - 4 - 4) (min (t + 5 - 4) f.height) rows
  pub sums : SumsKept f (t - 4 - 4) (min (t + 5 - 4) f.height) rows alongs
  pub above : Gradients f (t - 4 - 2) (min (t - 4) f.height) tops work

pub record FirstTurns (f : Frame) (t : ℕ) (tops tops' work work' red red' blue blue' : List ℤ) (map map' : List ℕ) : Type 0 where
  pub tops_turn : Turn 2 4 t top_size 0 (λ r. f.width) (in_halves f (norths f)) tops tops'
  pub work_turn : RingTurn f.height 4 t (record_size f.width) 0 (λ r. gradient_size f.width) (gradient_entry f) work work'
  pub red_turn : ChromaTurn f 4 t (trials f diagonal) red red'
  pub blue_turn : ChromaTurn f 4 t (trials f vertical) blue blue'
  pub codes_turn : MapTurn f.height 4 t f.width 0 (chroma_count f) (chroma_row f (first_codes f)) map map'

pub record FirstTurned (shape : Shape) (t base : ℕ) (rows alongs : List ℕ) (tops tops' work work' red red' blue blue' : List ℤ)
    (map map' : List ℕ) : Type 0 where
  pub turn : (zs : List ℕ) → FirstAsks (frame shape zs) t base rows alongs tops work
      → FirstTurns (frame shape zs) t tops tops' work work' red red' blue blue' map map'

-- ---- second, 12 rows behind
pub record SecondAsks (f : Frame) (t : ℕ) (red blue : List ℤ) (map : List ℕ) : Type 0 where
  pub taken : Taken f
  pub red_size : PlaneSize f red
  pub blue_size : PlaneSize f blue
  pub diagonals : ChromaHeld f (t - 12 - 8) (min (t + 9 - 12) f.height) (trials f diagonal) red
  pub verticals : ChromaHeld f (t - 12 - 8) (min (t + 9 - 12) f.height) (trials f vertical) blue
  pub map_size : PlaneSize f map
  pub codes : CodesHeld f (t - 12) (min (t + 1 - 12) f.height) map

pub record SecondTurns (f : Frame) (t : ℕ) (green green' : List ℤ) (map map' : List ℕ) : Type 0 where
  pub green_turn : ChromaTurn f 12 t (greens f) green green'
  pub map_turn : MapTurn f.height 12 t f.width 0 (λ r. f.width) (decisions f) map map'

pub record SecondTurned (shape : Shape) (t : ℕ) (red blue green green' : List ℤ) (map map' : List ℕ) : Type 0 where
  pub turn : (zs : List ℕ) → SecondAsks (frame shape zs) t red blue map → SecondTurns (frame shape zs) t green green' map map'

-- ---- enhance, 14 rows behind
pub record EnhanceAsks (f : Frame) (t base : ℕ) (tops work green : List ℤ) : Type 0 where
  pub buffers : Buffers f tops work
  pub round : Round base (t - 24) t
  pub green_size : PlaneSize f green
  pub gradients : Gradients f (t - 14 - 2) (min (t + 1 - 14) f.height) tops work
  pub differences : ChromaHeld f (t - 14 - 2) (min (t + 3 - 14) f.height) (greens f) green

pub record EnhanceTurned (shape : Shape) (t base : ℕ) (tops green work work' : List ℤ) : Type 0 where
  pub turn : (zs : List ℕ) → EnhanceAsks (frame shape zs) t base tops work green
      → RecordTurn (frame shape zs) 14 t (final_part shape.width) (finals (frame shape zs)) work work'

-- ---- diagonal, 15 rows behind
pub record DiagonalAsks (f : Frame) (t base : ℕ) (tops work : List ℤ) : Type 0 where
  pub buffers : Buffers f tops work
  pub round : Round base (t - 24) t
  pub gradients : Gradients f (t - 15 - 2) (min (t + 1 - 15) f.height) tops work
  pub differences : ChromaKept f (final_part f.width) (t - 15 - 1) (min (t + 2 - 15) f.height) (finals f) work

pub record DiagonalTurned (shape : Shape) (t base : ℕ) (tops work work' : List ℤ) : Type 0 where
  pub turn : (zs : List ℕ) → DiagonalAsks (frame shape zs) t base tops work
      → RecordTurn (frame shape zs) 15 t (other_part shape.width) (others (frame shape zs)) work work'

-- ---- out, 20 rows behind
pub record OutAsks (f : Frame) (t base : ℕ) (rows : List ℕ) (tops work : List ℤ) : Type 0 where
  pub buffers : Buffers f tops work
  pub round : Round base (t - 24) t
  pub kept : RowsKept f (t - 20) (min (t + 1 - 20) f.height) rows
  pub gradients : Gradients f (t - 20 - 2) (min (t + 1 - 20) f.height) tops work
  pub own : ChromaKept f (final_part f.width) (t - 20 - 1) (min (t + 2 - 20) f.height) (finals f) work
  pub other : ChromaKept f (other_part f.width) (t - 20 - 1) (min (t + 2 - 20) f.height) (others f) work

abbrev pub OutTurn : Frame → ℕ → ℕ → Colour → List ℤ → List ℤ → Type 0
OutTurn f black t c old new = Turn f.height 20 t f.width 0 (λ r. f.width) (outputs f black c) old new

pub record OutTurned (shape : Shape) (black t base : ℕ) (c : Colour) (rows : List ℕ) (tops work old new : List ℤ) : Type 0 where
  pub turn : (zs : List ℕ) → OutAsks (frame shape zs) t base rows tops work → OutTurn (frame shape zs) black t c old new
