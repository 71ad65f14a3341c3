-- The buffers that develop is lent to fill. Definitions alone. Assumes nothing.
use Rattle.std.specs.Prelude.{◌≡◌, List, ℕ, ℤ, length, Err, Ok}
use Rattle.frame.specs.Sites.{Colour, red, green, blue}
use Rattle.answers.specs.Calls.{Answer}
use Rattle.answers.specs.declared.Lengths.{Lengths}

-- the planes, the map and the work buffer, before a call of develop or after it
pub record Buffers : Type 0 where
  pub red_plane : List ℤ
  pub green_plane : List ℤ
  pub blue_plane : List ℤ
  pub map : List ℕ
  pub work : List ℤ

abbrev pub buffers : List ℤ → List ℤ → List ℤ → List ℕ → List ℤ → Buffers
buffers r g b m w = record { red_plane = r; green_plane = g; blue_plane = b; map = m; work = w }

abbrev pub lengths_of : Buffers → Lengths
lengths_of lent = record {
  red = length lent.red_plane;
  green = length lent.green_plane;
  blue = length lent.blue_plane;
  map = length lent.map;
  work = length lent.work;
}

abbrev pub plane_of : Buffers → Colour → List ℤ
plane_of lent red = lent.red_plane
plane_of lent green = lent.green_plane
plane_of lent blue = lent.blue_plane

-- "Every refusal leaves every buffer untouched."; "After success the work buffer may hold anything;"
abbrev pub KeptOnRefusal : Answer → List ℤ → List ℤ → Type 0
KeptOnRefusal (Ok _) before last = Unit
KeptOnRefusal (Err why) before last = last ≡ before
