-- The means at the green sites of a row, as the loop reads their values. Definitions alone. Assumes nothing.
use Rattle.std.specs.Prelude.{List, [], ◌∷◌, ℕ, ◌+◌, ◌-◌, ◌<◌, ◌≤◌, ℤ, pos, length, get_or}
use Rattle.method.specs.Four.{directions, sizes}
use Rattle.method.specs.Planes.{straight_gradients, mean_under}
use Rattle.method.specs.Sizes.{AtMost}
use Rattle.half_rows.specs.Sources.{four_entries, GradientsFit}
use Rattle.out_rows.specs.declared.Places.{Places}

-- the values east and west of green site k, from the mirrored half row of the columns c, c + 2, .., and south and north of it
abbrev pub beside_values : List ℤ → ℕ → List ℤ → ℕ → ℕ → ℕ → List ℤ
beside_values row c work south north k =
    get_or row (k + 4 - c + 1) (pos 0) ∷ get_or row (k + 4 - c) (pos 0) ∷ get_or work (south + k) (pos 0) ∷ get_or work (north + k) (pos 0) ∷ []

-- of the colour of this row's red or blue sites: their final differences, and the rows one off have it as their other colour
abbrev pub own_values : Places → List ℤ → List ℤ → ℕ → List ℤ
own_values p work own k = beside_values own p.start work p.below.others p.above.others k

-- of the other colour
abbrev pub other_values : Places → List ℤ → List ℤ → ℕ → List ℤ
other_values p work other k = beside_values other p.start work p.below.finals p.above.finals k

-- the weighted mean of four values under the gradients of green site k
abbrev mean_at : Places → List ℤ → List ℤ → List ℤ → ℕ → ℤ
mean_at p work n values k = mean_under straight_gradients (sizes (directions (four_entries work p.east p.south n k))) (directions values)

abbrev pub own_mean : Places → List ℤ → List ℤ → List ℤ → ℕ → ℤ
own_mean p work n own k = mean_at p work n (own_values p work own k) k

abbrev pub other_mean : Places → List ℤ → List ℤ → List ℤ → ℕ → ℤ
other_mean p work n other k = mean_at p work n (other_values p work other k) k

-- what a row of means reads
pub record DirectReads (p : Places) (work n own other : List ℤ) : Type 0 where
  pub gradients : GradientsFit p.rest p.east p.south work n
  pub start_small : p.start ≤ 1
  pub finals_south_inside : p.below.finals + p.rest ≤ length work
  pub finals_north_inside : p.above.finals + p.rest ≤ length work
  pub others_south_inside : p.below.others + p.rest ≤ length work
  pub others_north_inside : p.above.others + p.rest ≤ length work
  pub own_small : (k : ℕ) → k < p.rest → AtMost 4096 (sizes (directions (own_values p work own k)))
  pub other_small : (k : ℕ) → k < p.rest → AtMost 4096 (sizes (directions (other_values p work other k)))
