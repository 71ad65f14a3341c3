-- What the rows of means read, entry by entry. Definitions alone. Assumes nothing.
use Rattle.std.specs.Prelude.{List, [], ◌∷◌, ℕ, ◌+◌, ◌<◌, ℤ, pos, get_or}
use Rattle.method.specs.Four.{directions, sizes}
use Rattle.method.specs.Planes.{straight_gradients, corner_gradients, mean_under}
use Rattle.method.specs.Sizes.{AtMost}
use Rattle.half_rows.specs.Sources.{four_entries}

-- the values of entry k: one entry on and one back in a half row, and in two rows of a plane
abbrev pub straight_read : List ℤ → List ℤ → ℕ → ℕ → ℕ → List ℤ
straight_read row plane south north k =
    get_or row (k + 5) (pos 0) ∷ get_or row (k + 3) (pos 0) ∷ get_or plane (south + k) (pos 0) ∷ get_or plane (north + k) (pos 0) ∷ []

-- the corners of entry k: NE, NW, SE, SW in the half rows above and below, of which the first entry right of the site is k + c + 4
abbrev pub corners_read : List ℤ → List ℤ → ℕ → ℕ → List ℤ
corners_read up down c k =
    get_or up (k + c + 4) (pos 0) ∷ get_or up (k + c + 3) (pos 0) ∷ get_or down (k + c + 4) (pos 0) ∷ get_or down (k + c + 3) (pos 0) ∷ []

-- M of entry k, and the mean of its corners
abbrev pub straight_mean_read : List ℤ → ℕ → ℕ → List ℤ → List ℤ → List ℤ → ℕ → ℕ → ℕ → ℤ
straight_mean_read work east south n row plane below above k =
    mean_under straight_gradients (sizes (directions (four_entries work east south n k))) (directions (straight_read row plane below above k))

abbrev pub corner_mean_read : List ℤ → ℕ → ℕ → List ℤ → List ℤ → List ℤ → ℕ → ℕ → ℤ
corner_mean_read work east south n up down c k =
    mean_under corner_gradients (sizes (directions (four_entries work east south n k))) (directions (corners_read up down c k))

-- values that are at most m
pub record ValuesFit (m count : ℕ) (values : ℕ → List ℤ) : Type 0 where
  pub each : (k : ℕ) → k < count → AtMost m (sizes (directions (values k)))
