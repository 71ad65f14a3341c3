-- Four naturals as an array [u64; 4], in the order E, W, S, N; and what the mean asks of two such arrays. Definitions alone. Assumes nothing.
use Rattle.std.specs.Prelude.{List, [], ◌∷◌, ℕ, ◌+◌, ◌*◌, ◌≤◌, get_or, ℤ, pos, nat_abs}
use Rattle.method.specs.Gradients.{FourDirections}
use Rattle.method.specs.Sizes.{AtMost}

abbrev pub numbers : List ℕ → FourDirections ℕ
numbers l = record { east = get_or l 0 0; west = get_or l 1 0; south = get_or l 2 0; north = get_or l 3 0 }

-- naturals as whole numbers
abbrev pub signed : FourDirections ℕ → FourDirections ℤ
signed d = record { east = pos d.east; west = pos d.west; south = pos d.south; north = pos d.north }

-- whole numbers without their signs
abbrev pub unsigned : List ℤ → List ℕ
unsigned l =
    nat_abs (get_or l 0 (pos 0)) ∷ nat_abs (get_or l 1 (pos 0)) ∷ nat_abs (get_or l 2 (pos 0)) ∷ nat_abs (get_or l 3 (pos 0)) ∷ []

-- values to `value` and gradients to `gradient`, small enough that the sums fit a u64: 16,384 with 40,928; 8,192 with 81,856; 65,535 with 32,767
pub record NaturalMeanFits (v g : List ℕ) : Type 0 where
  pub value : ℕ
  pub gradient : ℕ
  pub values : AtMost value (numbers v)
  pub gradients : AtMost gradient (numbers g)
  pub value_most : value ≤ 65535
  pub gradient_most : gradient ≤ 81856
  pub room : (value + 1) * (gradient * (gradient * gradient)) ≤ 4600000000000000000
