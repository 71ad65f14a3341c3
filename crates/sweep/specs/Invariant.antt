-- The invariant of the sweep: what the buffers hold when the stages after load have made a, b, c, d and e turns. Definitions alone. Assumes nothing.
use Rattle.std.specs.Prelude.{List, ℕ, ◌-◌, min, ℤ}
use Rattle.frame.specs.Sites.{Frame, Colour}
use Rattle.method.specs.Green.{vertical, diagonal}
use Rattle.records.specs.Held.{Held, MapHeld}
use Rattle.records.specs.Layout.{final_part, other_part}
use Rattle.records.specs.Quantities.{trials, greens, finals, others, outputs, decisions}
use Rattle.records.specs.Stages.{Gradients, PlaneSize, ChromaHeld, ChromaKept, CodesHeld}
use Rattle.stage_turns.specs.Distances.{Buffers}

-- the planes' rows that out has stored, at a black level; the numbers of earlier stages stand in the rows that it has not reached
abbrev pub Shown : Frame → ℕ → ℕ → Colour → List ℤ → Type 0
Shown f black e c plane = Held f.width 0 (λ r. f.width) 0 (min (e - 20) f.height) (outputs f black c) plane

-- first has made a turns, second b, enhance c, diagonal d and out e; of each part of the records the last 24 rows stand
pub record Sweep (f : Frame) (black a b c d e : ℕ) (tops work red green blue : List ℤ) (map : List ℕ) : Type 0 where
  pub buffers : Buffers f tops work
  pub red_size : PlaneSize f red
  pub green_size : PlaneSize f green
  pub blue_size : PlaneSize f blue
  pub map_size : PlaneSize f map
  pub gradients : Gradients f (min (a - 4) f.height - 24) (min (a - 4) f.height) tops work
  pub diagonals : ChromaHeld f (min (e - 20) f.height) (min (a - 4) f.height) (trials f diagonal) red
  pub verticals : ChromaHeld f (min (e - 20) f.height) (min (a - 4) f.height) (trials f vertical) blue
  pub differences : ChromaHeld f (min (e - 20) f.height) (min (b - 12) f.height) (greens f) green
  pub own : ChromaKept f (final_part f.width) (min (c - 14) f.height - 24) (min (c - 14) f.height) (finals f) work
  pub other : ChromaKept f (other_part f.width) (min (d - 15) f.height - 24) (min (d - 15) f.height) (others f) work
  pub reds : Shown f black e Colour.red red
  pub greens_shown : Shown f black e Colour.green green
  pub blues : Shown f black e Colour.blue blue
  pub codes : CodesHeld f (min (b - 12) f.height) (min (a - 4) f.height) map
  pub decided : MapHeld f.width 0 (λ r. f.width) 0 (min (b - 12) f.height) (decisions f) map
