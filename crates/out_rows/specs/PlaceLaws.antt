-- What the places of the records one off are found by. Assumes nothing.
use Rattle.std.specs.Prelude.{◌≡◌, ℕ, ◌+◌, ◌-◌, ◌<◌, ◌≤◌, pos}
use Rattle.std.proofs.Common.{arith}
use Rattle.std.proofs.Math.IntN.{sub_ℕ}
use Rattle.frame.specs.Sites.{reflect}
use Rattle.frame.specs.declared.Shape.{Shape}
use Rattle.positions.specs.Near.{near_north, near_south}
use Rattle.positions.specs.Rings.{Round}
use Rattle.positions.specs.RingLaws.{round_part}
use Rattle.out_rows.specs.RowPlaces.{RowOf}

module _ {shape : Shape} {i base : ℕ} (row : RowOf shape i) (round : Round base (i - 4) (i + 4)) where
  near_record : (r : ℕ) → i - 1 ≤ r → r ≤ i + 1 → r < shape.height → (shape.width ≤ 4096) × (r ≤ 4096) × Round base r r
  near_record r a b h = (row.narrow, omega (arith, row.low), round_part round (omega arith) (omega arith))

  pub south_record : {r : ℕ} → (r ≡ reflect shape.height (pos (i + 1))) × (r < shape.height)
      → (shape.width ≤ 4096) × (r ≤ 4096) × Round base r r
  south_record {r} e = let near = near_south shape.height i 1 row.tall row.inside in near_record r (omega arith) (omega arith) e.1

  pub north_record : {r : ℕ} → (r ≡ reflect shape.height (sub_ℕ i 1)) × (r < shape.height)
      → (shape.width ≤ 4096) × (r ≤ 4096) × Round base r r
  north_record {r} e = let near = near_north shape.height i 1 row.tall row.inside in near_record r (omega arith) (omega arith) e.1
