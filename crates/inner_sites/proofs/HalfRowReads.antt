-- Document 02, A3: what the second pass and the means at a site read of local half rows. For a site far from both ends they read none
-- of the reflected columns: they are the same for any two half rows that are alike at their own columns. Assumes nothing.
use Rattle.std.specs.Prelude.{◌≡◌, List, ℕ, ◌+◌, ◌*◌, ◌-◌, ◌≤◌, ℤ, pos, get_or}
use Rattle.std.proofs.Common.{arith}
use Rattle.frame.specs.InnerSites.{Inner}
use Rattle.method.specs.Settings.{reach}
use Rattle.positions.specs.HalfRows.{half_count}
use Rattle.half_rows.specs.Sources.{four_entries}
use Rattle.sums.specs.Sums.{with_columns, with_rows, with_both}
use Rattle.differences.specs.Rows.{straight_mean_read, corner_mean_read}
use Rattle.out_rows.specs.DirectMeans.{own_mean, other_mean}
use Rattle.out_rows.specs.declared.Places.{Places}
use Rattle.inner_sites.specs.HalfRowReads.{WithinReach}
use Rattle.inner_sites.specs.Distances.{differences_off, finals_off, greens_off, trials_off}
use Rattle.inner_sites.proofs.StepDistances.{distances_in_figures}
use Rattle.inner_sites.proofs.OwnColumns.{SameEntries, OwnSites, own_site, alike_site}

-- site k of the columns c, c + 2, .. of a row: column c + 2·k, at entry k + 4 of the half row
module _ (W c k : ℕ) (small : c ≤ 1) where
  -- its gradients: E of the half row stands from entry east on, the first of them that of a reflected column
  pub gradients_alike : (east south : ℕ) (n : List ℤ) {work work' : List ℤ} → Inner W (trials_off reach) (c + 2 * k)
      → SameEntries (pos 0) (east + 1) (east + half_count W c + 1) work work' → SameEntries (pos 0) south (south + half_count W c) work work'
      → four_entries work east south n k ≡ four_entries work' east south n k
  gradients_alike east south n inner e s =
      let west = own_site inner 2 c (k + 3) small (omega (arith, distances_in_figures)) (omega arith) (omega arith) in
      let here = own_site inner 0 c (k + 4) small (omega (arith, distances_in_figures)) (omega arith) (omega arith) in
      rw (
        e.at (east + k + 1) (omega arith) (omega arith),
        e.at (east + k) (omega arith) (omega arith),
        s.at (south + k) (omega arith) (omega arith),
      )

  -- the sums of the second pass: step t adds the distances to r at 2·t columns off, and for FD those at 2·t rows off
  module _ (t : ℕ) {row row' : List ℤ} (inner : Inner W greens_off (c + 2 * k)) (few : WithinReach t) (alike : OwnSites W c row row') where
    trial : (x : ℕ) → (k + 4 ≤ x + t) × (x ≤ k + 4 + t) → get_or row x (pos 0) ≡ get_or row' x (pos 0)
    unfolding reach
    trial x h = alike_site inner (2 * t) c x small (omega (arith, distances_in_figures)) (omega arith) (omega arith) alike

    -- FH
    pub columns_alike : (sums : ℕ → ℤ) → with_columns row t sums (k + 4) ≡ with_columns row' t sums (k + 4)
    unfolding with_columns
    columns_alike sums = rw (trial (k + 4) (omega arith), trial (k + 4 - t) (omega arith), trial (k + 4 + t) (omega arith))

    -- FD
    pub both_alike : (plane : List ℤ) (up down : ℕ) (sums : ℕ → ℤ)
        → with_both row t plane up down sums (k + 4) ≡ with_both row' t plane up down sums (k + 4)
    unfolding with_rows
    both_alike plane up down sums = rw (columns_alike sums, trial (k + 4) (omega arith))

  -- M, from D two columns off
  pub straight_alike : (work : List ℤ) (east south : ℕ) (n plane : List ℤ) (below above : ℕ) {row row' : List ℤ} → Inner W finals_off (c + 2 * k)
      → OwnSites W c row row'
      → straight_mean_read work east south n row plane below above k ≡ straight_mean_read work east south n row' plane below above k
  straight_alike work east south n plane below above {row} {row'} inner alike = rw (same (k + 5) (omega arith), same (k + 3) (omega arith))
    where
      same : (x : ℕ) → (k + 3 ≤ x) × (x ≤ k + 5) → get_or row x (pos 0) ≡ get_or row' x (pos 0)
      same x h = alike_site inner 2 c x small (omega (arith, distances_in_figures)) (omega arith) (omega arith) alike

  -- the mean of the corners, from the final differences of the rows one off, whose half rows are of the columns 1 − c, 3 − c, ..
  pub corners_alike : (work : List ℤ) (east south : ℕ) (n : List ℤ) {up up' down down' : List ℤ} → Inner W differences_off (c + 2 * k)
      → OwnSites W (1 - c) up up' → OwnSites W (1 - c) down down'
      → corner_mean_read work east south n up down c k ≡ corner_mean_read work east south n up' down' c k
  corners_alike work east south n inner u d =
      rw (
        same (k + c + 4) u (omega arith),
        same (k + c + 3) u (omega arith),
        same (k + c + 4) d (omega arith),
        same (k + c + 3) d (omega arith),
      )
    where
      same : {row row' : List ℤ} (x : ℕ) → OwnSites W (1 - c) row row' → (k + c + 3 ≤ x) × (x ≤ k + c + 4)
          → get_or row x (pos 0) ≡ get_or row' x (pos 0)
      same x alike h = alike_site inner 1 (1 - c) x (omega arith) (omega (arith, distances_in_figures)) (omega arith) (omega arith) alike

-- green site k of a row whose red and blue sites start at column c, so column 1 − c + 2·k: the means of its direct neighbours
module _ (W k : ℕ) (p : Places) (small : p.start ≤ 1) {row row' : List ℤ} (inner : Inner W 0 (1 - p.start + 2 * k))
    (alike : OwnSites W p.start row row') where
  neighbour : (x : ℕ) → (k + 4 ≤ x + p.start) × (x + p.start ≤ k + 5) → get_or row x (pos 0) ≡ get_or row' x (pos 0)
  neighbour x h = alike_site inner 1 p.start x small (omega arith) (omega arith) (omega arith) alike

  -- of the colour of the row's red or blue sites
  pub own_alike : (work n : List ℤ) → own_mean p work n row k ≡ own_mean p work n row' k
  own_alike work n = rw (neighbour (k + 4 - p.start + 1) (omega arith), neighbour (k + 4 - p.start) (omega arith))

  -- of the other colour
  pub other_alike : (work n : List ℤ) → other_mean p work n row k ≡ other_mean p work n row' k
  other_alike work n = rw (neighbour (k + 4 - p.start + 1) (omega arith), neighbour (k + 4 - p.start) (omega arith))
