-- Document 02, A3: what the gradients and the estimates of a site read of local rows. For a site far from both ends they read none of
-- the reflected columns: they are the same for any two arrays that are alike at the rows' own columns. Assumes nothing.
use Rattle.std.specs.Prelude.{◌≡◌, List, ℕ, ◌+◌, ◌-◌, ◌<◌, ◌≤◌}
use Rattle.std.proofs.Common.{arith}
use Rattle.std.proofs.Math.ListN.{get_or}
use Rattle.east_rows.specs.RowSums.{along_at, east_at}
use Rattle.south_rows.specs.SevenRows.{column_pair, down_pair, north_sum}
use Rattle.south_rows.specs.SevenRowLaws.{pair_is}
use Rattle.first_pass.specs.Lines.{across_difference, down_difference}
use Rattle.inner_sites.specs.RowReads.{TrialColumn}
use Rattle.inner_sites.proofs.StepDistances.{distances_in_figures}
use Rattle.inner_sites.proofs.OwnColumns.{OwnColumns, alike_near}

-- column j stands at entry j + 8, and is one of those at which trial differences are read for an inner site
module _ {W j : ℕ} (inner : TrialColumn W j) where
  -- an entry to four columns off, of the row that starts at entry at
  near : (at y : ℕ) {rows rows' : List ℕ} → OwnColumns W at rows rows' → (at + j + 4 ≤ y) × (y ≤ at + j + 12)
      → get_or rows y 0 ≡ get_or rows' y 0
  near at y alike h = alike_near at 4 y inner (omega (arith, distances_in_figures)) alike (omega arith) (omega arith)

  -- ---- along the row: E of the site stands at entry j + 8, and W of it, which is E two columns west, at entry j + 6

  -- a, from the samples of its row
  pub along_alike : (at x : ℕ) {rows rows' : List ℕ} → OwnColumns W at rows rows' → j + 6 ≤ x → x ≤ j + 8
      → along_at rows (at + x) ≡ along_at rows' (at + x)
  unfolding along_at
  along_alike at x {rows} {rows'} alike low high =
      rw (
        same (at + x - 2) (omega arith),
        same (at + x - 1) (omega arith),
        same (at + x) (omega arith),
        same (at + x + 1) (omega arith),
        same (at + x + 2) (omega arith),
        same (at + x + 3) (omega arith),
        same (at + x + 4) (omega arith),
      )
    where
      same : (y : ℕ) → (at + j + 4 ≤ y) × (y ≤ at + j + 12) → get_or rows y 0 ≡ get_or rows' y 0
      same y = near at y alike

  -- E, from the samples of the row at entry here, and a of three rows
  pub east_alike : (up here down x : ℕ) {rows rows' alongs alongs' : List ℕ} → OwnColumns W here rows rows' → OwnColumns W up alongs alongs'
      → OwnColumns W here alongs alongs' → OwnColumns W down alongs alongs' → j + 6 ≤ x → x ≤ j + 8
      → east_at rows alongs up here down x ≡ east_at rows' alongs' up here down x
  unfolding east_at
  east_alike up here down x z u h d low high =
      rw (
        near here (here + x) z (omega arith),
        near here (here + x + 2) z (omega arith),
        near here (here + x) h (omega arith),
        near up (up + x) u (omega arith),
        near down (down + x) d (omega arith),
      )

  -- ---- of seven rows, which start at the entries of at

  module _ (at : List ℕ) {rows rows' : List ℕ} (alike : (p : ℕ) → p < 7 → OwnColumns W (get_or at p 0) rows rows') where
    cell : (p x : ℕ) → (p < 7) × (j + 4 ≤ x) × (x ≤ j + 12) → get_or rows (get_or at p 0 + x) 0 ≡ get_or rows' (get_or at p 0 + x) 0
    cell p x h = near (get_or at p 0) (get_or at p 0 + x) (alike p h.0) (omega arith)

    -- the pair of s down the columns j − 1, j and j + 1
    pub pair_alike : (x : ℕ) → j + 7 ≤ x → x ≤ j + 9 → down_pair rows at x ≡ down_pair rows' at x
    unfolding column_pair
    pair_alike x low high =
        rw (
          ← pair_is rows at x,
          ← pair_is rows' at x,
          cell 0 x (omega arith),
          cell 1 x (omega arith),
          cell 2 x (omega arith),
          cell 3 x (omega arith),
          cell 4 x (omega arith),
          cell 5 x (omega arith),
          cell 6 x (omega arith),
        )

    -- N, from the samples of two rows and the pairs of three columns
    pub north_alike : {v v' : List ℕ} → OwnColumns W 0 v v'
        → north_sum rows v (get_or at 2 0) (get_or at 4 0) (j + 8) ≡ north_sum rows' v' (get_or at 2 0) (get_or at 4 0) (j + 8)
    unfolding north_sum
    north_alike pairs =
        rw (
          cell 2 (j + 8) (omega arith),
          cell 4 (j + 8) (omega arith),
          near 0 (j + 8) pairs (omega arith),
          near 0 (j + 8 - 1) pairs (omega arith),
          near 0 (j + 8 + 1) pairs (omega arith),
        )

    -- gH less 8·X
    pub across_alike : across_difference at rows (j + 8) ≡ across_difference at rows' (j + 8)
    across_alike =
        rw (
          along (get_or at 2 0 + (j + 8)) (omega arith),
          along (get_or at 2 0 + (j + 8) - 1) (omega arith),
          along (get_or at 2 0 + (j + 8) + 1) (omega arith),
          along (get_or at 2 0 + (j + 8) - 2) (omega arith),
          along (get_or at 2 0 + (j + 8) + 2) (omega arith),
        )
      where
        along : (y : ℕ) → (get_or at 2 0 + j + 4 ≤ y) × (y ≤ get_or at 2 0 + j + 12) → get_or rows y 0 ≡ get_or rows' y 0
        along y = near (get_or at 2 0) y (alike 2 (omega arith))

    -- gV less 8·X
    pub down_alike : down_difference at rows (j + 8) ≡ down_difference at rows' (j + 8)
    down_alike =
        rw (
          cell 0 (j + 8) (omega arith),
          cell 1 (j + 8) (omega arith),
          cell 2 (j + 8) (omega arith),
          cell 3 (j + 8) (omega arith),
          cell 4 (j + 8) (omega arith),
        )
