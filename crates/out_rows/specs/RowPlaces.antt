-- Where the numbers stand that the outputs of row i are formed from. Definitions alone. Assumes nothing.
use Rattle.std.specs.Prelude.{◌≡◌, ℕ, ◌+◌, ◌*◌, ◌-◌, ◌<◌, ◌≤◌, pos}
use Rattle.std.proofs.Math.IntN.{sub_ℕ}
use Rattle.frame.specs.Sites.{reflect}
use Rattle.frame.specs.declared.Shape.{Shape}
use Rattle.positions.specs.Rings.{place_in_ring}
use Rattle.positions.specs.HalfRows.{chroma_start, half_count}
use Rattle.records.specs.Layout.{record_size, south_part, final_part, other_part}
use Rattle.out_rows.specs.declared.Places.{Places}

-- a row of a shape that may be developed
pub record RowOf (shape : Shape) (i : ℕ) : Type 0 where
  pub wide : 2 ≤ shape.width
  pub narrow : shape.width ≤ 4096
  pub tall : 2 ≤ shape.height
  pub low : shape.height ≤ 4096
  pub phase_small : shape.phase ≤ 3
  pub inside : i < shape.height

-- the columns of the row's halves, and where its records and those of the rows one off start
pub record Placed (shape : Shape) (i : ℕ) (p : Places) : Type 0 where
  pub start_is : p.start ≡ chroma_start shape.phase i
  pub count_is : p.count ≡ half_count shape.width p.start
  pub rest_is : p.rest ≡ shape.width - p.count
  pub east_is : p.east ≡ place_in_ring i * record_size shape.width + (p.count + 1)
  pub south_is : p.south ≡ place_in_ring i * record_size shape.width + south_part shape.width + p.count
  pub finals_is : p.here.finals ≡ place_in_ring i * record_size shape.width + final_part shape.width
  pub others_is : p.here.others ≡ place_in_ring i * record_size shape.width + other_part shape.width
  pub finals_south_is : p.below.finals ≡ place_in_ring (reflect shape.height (pos (i + 1))) * record_size shape.width + final_part shape.width
  pub finals_north_is : p.above.finals ≡ place_in_ring (reflect shape.height (sub_ℕ i 1)) * record_size shape.width + final_part shape.width
  pub others_south_is : p.below.others ≡ place_in_ring (reflect shape.height (pos (i + 1))) * record_size shape.width + other_part shape.width
  pub others_north_is : p.above.others ≡ place_in_ring (reflect shape.height (sub_ℕ i 1)) * record_size shape.width + other_part shape.width
