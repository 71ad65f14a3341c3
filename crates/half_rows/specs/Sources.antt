-- Which entries `mirror`, `north` and `SiteGradients` read, and how large entries are. Definitions alone. Assumes nothing.
use Rattle.std.specs.Prelude.{◌≡◌, cond, List, [], ◌∷◌, ℕ, ◌+◌, ◌*◌, ◌-◌, ◌/◌, ◌<◌, ◌≤◌, ltb, ℤ, pos, nat_abs, length, get_or}
use Rattle.method.specs.Four.{directions, sizes, listed}
use Rattle.method.specs.Planes.{weighing}
use Rattle.method.specs.Sizes.{Naturals}
use Rattle.positions.specs.Columns.{column_at}
use Rattle.positions.specs.Rings.{place_in_ring, Round}
use Rattle.records.specs.Layout.{record_size, south_part, top_size}

-- the entries from lo to hi − 1 are at most m in size
pub record Sized (m lo hi : ℕ) (row : List ℤ) : Type 0 where
  pub each : (x : ℕ) → lo ≤ x → x < hi → nat_abs (get_or row x (pos 0)) ≤ m

-- the entry of a half row that holds the column of entry x, reflected
unfoldable pub source_entry : ℕ → ℕ → ℕ → ℕ
source_entry W c x = (column_at W (c + 2 * x) - c) / 2 + 4

-- entry k of N of row i, in halves: that of S of row i − 2, and for the rows 0 and 1 that of tops
unfoldable pub north_entry : List ℤ → List ℤ → ℕ → ℕ → ℕ → ℤ
north_entry tops work W i k =
    cond (ltb i 2) (get_or tops (i * top_size + k) (pos 0)) (get_or work (place_in_ring (i - 2) * record_size W + south_part W + k) (pos 0))

-- E, W, S, N of site k of a half row: its E stands from entry east on, two columns west, its S from entry south on, its N in n
abbrev pub four_entries : List ℤ → ℕ → ℕ → List ℤ → ℕ → List ℤ
four_entries work east south n k =
    get_or work (east + k + 1) (pos 0) ∷ get_or work (east + k) (pos 0) ∷ get_or work (south + k) (pos 0) ∷ get_or n (k + 4) (pos 0) ∷ []

-- the same four as the means of the site weigh them
abbrev pub weighed_entries : List ℤ → ℕ → ℕ → List ℤ → ℕ → List ℤ
weighed_entries work east south n k = listed (weighing (sizes (directions (four_entries work east south n k))))

-- of a `SiteGradients` of count sites: what `at` reads of each lies in the buffers, and is four gradients
pub record GradientsFit (count east south : ℕ) (work n : List ℤ) : Type 0 where
  pub few : count ≤ 2048
  pub east_in : east + count + 1 ≤ length work
  pub south_in : south + count ≤ length work
  pub most : length work ≤ 67108864
  pub each : (k : ℕ) → k < count → Naturals 40920 (four_entries work east south n k)

-- what `north` is lent: tops, and the records of the rows before row i; it is asked for the entries at to at + count − 1 of row i
pub record NorthRoom (W i base at count : ℕ) (tops work : List ℤ) : Type 0 where
  pub wide : 2 ≤ W
  pub narrow : W ≤ 4096
  pub low : i ≤ 4096
  pub round : Round base (i - 4) (i + 4)
  pub inside : at + count ≤ W
  pub few : count ≤ 2048
  pub tops_size : length tops ≡ 2 * top_size
  pub work_start : i * record_size W ≤ length work
  pub work_most : length work ≤ 67108864
