-- a and E as they are formed from the entries of loaded rows. Definitions alone. Assumes nothing.
use Rattle.std.specs.Prelude.{◌≡◌, List, ℕ, ◌+◌, ◌*◌, ◌-◌, ◌<◌, ◌≤◌, ℤ, pos, nat_abs, get_or}
use Rattle.method.specs.Gradients.{apart, taps}

-- the entries lo to hi − 1 are at most m
pub record Small (m lo hi : ℕ) (row : List ℕ) : Type 0 where
  pub each : (x : ℕ) → lo ≤ x → x < hi → get_or row x 0 ≤ m

-- E of the columns −2 to w − 1 is formed from samples of at most 12 bits and their a
pub record EastRoom (rows alongs : List ℕ) (up here down w : ℕ) : Type 0 where
  pub narrow : w ≤ 4096
  pub up_room : up + w + 8 ≤ 98688
  pub here_room : here + w + 10 ≤ 98688
  pub down_room : down + w + 8 ≤ 98688
  pub samples_small : Small 4095 (here + 6) (here + w + 10) rows
  pub up_small : Small 32760 (up + 6) (up + w + 8) alongs
  pub here_small : Small 32760 (here + 6) (here + w + 8) alongs
  pub down_small : Small 32760 (down + 6) (down + w + 8) alongs

-- the sample at entry k
abbrev pub sample_in : List ℕ → ℕ → ℤ
sample_in z k = pos (get_or z k 0)

-- |s| of the first six and of the last six of seven samples in line
unfoldable pub pair_of : List ℕ → ℕ
pair_of z =
    nat_abs (taps (sample_in z 0) (sample_in z 1) (sample_in z 2) (sample_in z 3) (sample_in z 4) (sample_in z 5))
    + nat_abs (taps (sample_in z 1) (sample_in z 2) (sample_in z 3) (sample_in z 4) (sample_in z 5) (sample_in z 6))

-- "Let a(i,j) = |s(i,j)| + |s(i,j+1)|.", with column j at entry k
unfoldable pub along_at : List ℕ → ℕ → ℕ
along_at z k =
    nat_abs (taps (sample_in z (k - 2)) (sample_in z (k - 1)) (sample_in z k) (sample_in z (k + 1)) (sample_in z (k + 2)) (sample_in z (k + 3)))
    + nat_abs (taps (sample_in z (k - 1)) (sample_in z k) (sample_in z (k + 1)) (sample_in z (k + 2)) (sample_in z (k + 3)) (sample_in z (k + 4)))

-- a of the row at entry at, at the columns −2 to w − 1, stands at the same entries of alongs
pub record Summed (w at : ℕ) (rows alongs : List ℕ) : Type 0 where
  pub entry : (k : ℕ) → k < w + 2 → get_or alongs (at + 6 + k) 0 ≡ along_at rows (at + 6 + k)

-- "E(i,j) = 8·|Z(i,j) − Z(i,j+2)| + 2·a(i,j) + a(i−1,j) + a(i+1,j)", with column j at entry x of the rows at up, here and down
unfoldable pub east_at : List ℕ → List ℕ → ℕ → ℕ → ℕ → ℕ → ℕ
east_at rows alongs up here down x =
    8 * apart (sample_in rows (here + x)) (sample_in rows (here + x + 2)) + 2 * get_or alongs (here + x) 0
    + get_or alongs (up + x) 0 + get_or alongs (down + x) 0
