-- E as the definitions have it, from the loaded rows i − 1, i and i + 1 and their a. Assumes nothing.
use Rattle.std.specs.Prelude.{◌≡◌, List, ℕ, ◌+◌, ◌-◌, ◌<◌, ◌≤◌, ℤ, pos, neg_ℤ, ◌+ℤ◌}
use Rattle.std.proofs.Common.{◌∙◌, ap, subst}
use native.Mathlib.Omega.{arith}
use Rattle.std.proofs.Math.IntN.{sub_ℕ}
use Rattle.std.proofs.Math.ListN.{get_or}
use Rattle.frame.specs.Sites.{Frame, highest_sample, reflect}
use Rattle.method.specs.Gradients.{mosaic, samples_around, six_tap, six_tap_pair, eastbound, gradients, gradients_at, west_gradient}
use Rattle.positions.specs.Taken.{Taken}
use Rattle.records.specs.Quantities.{wests}
use Rattle.mosaic_rows.specs.LoadedRows.{Loaded}
use Rattle.mosaic_rows.specs.LoadLaws.{loaded_ranged}
use Rattle.mosaic_rows.specs.Around.{loaded_around, row_off, column_off}
use Rattle.east_rows.specs.RowSums.{Small, along_at, east_at}
use Rattle.east_rows.specs.EastRows.{EastReads}

-- a of row i + r two columns west of column j, which is at entry j + 6
module _ (f : Frame) (i j : ℕ) (r : ℤ) (at : ℕ) (rows : List ℕ)
    (row : Loaded f (reflect f.height (pos i +ℤ r)) at rows) (near : j < f.width + 2) where
  read : (n k : ℕ) → n ≤ 10 → k ≡ at + (j + n) → pos (get_or rows k 0) ≡ samples_around (mosaic f) i j r (sub_ℕ n 8)
  read n k h e = ap (λ (x : ℕ). pos (get_or rows x 0)) e ∙ loaded_around f i j r (sub_ℕ n 8) at (j + n) rows row (omega arith) (column_off j n)

  along_of : along_at rows (at + 6 + j) ≡ six_tap_pair (samples_around (mosaic f) i j) r (neg_ℤ (pos 2))
  unfolding along_at six_tap_pair six_tap
  along_of =
      rw (
        read 4 (at + 6 + j - 2) (omega arith) (omega arith),
        read 5 (at + 6 + j - 1) (omega arith) (omega arith),
        read 6 (at + 6 + j) (omega arith) (omega arith),
        read 7 (at + 6 + j + 1) (omega arith) (omega arith),
        read 8 (at + 6 + j + 2) (omega arith) (omega arith),
        read 9 (at + 6 + j + 3) (omega arith) (omega arith),
        read 10 (at + 6 + j + 4) (omega arith) (omega arith),
      )

-- the entries of a loaded row are samples
pub loaded_small : (f : Frame) (y at : ℕ) (rows : List ℕ) → Taken f → Loaded f y at rows → Small 4095 at (at + f.width + 16) rows
unfolding highest_sample
loaded_small f y at rows taken row = record {
  each = λ x a b.
      let e : at + (x - at) ≡ x = omega arith in
      let l : get_or rows (at + (x - at)) 0 ≤ highest_sample = loaded_ranged f y at (x - at) rows taken row (omega arith) in
      omega (arith, subst (λ (k : ℕ). get_or rows k 0 ≤ highest_sample) e l);
}

module _ (f : Frame) (i : ℕ) (at rows alongs : List ℕ) (reads : EastReads f i at rows alongs) where
  -- of the seven rows, the p-th is p − 2 rows down from row i
  row_at : (p : ℕ) → p < 7 → Loaded f (reflect f.height (pos i +ℤ sub_ℕ p 2)) (get_or at p 0) rows
  row_at p h = subst (λ (y : ℤ). Loaded f (reflect f.height y) (get_or at p 0) rows) (row_off i p) (reads.seven.place p h)

  pub row_small : (p : ℕ) → p < 7 → Small 4095 (get_or at p 0) (get_or at p 0 + f.width + 16) rows
  row_small p h = loaded_small f _ (get_or at p 0) rows reads.taken (reads.seven.place p h)

  -- E(i,j − 2) stands at entry j + 6
  pub east_of : (j x : ℕ) → j < f.width + 2 → x ≡ j + 6
      → pos (east_at rows alongs (get_or at 1 0) (get_or at 2 0) (get_or at 3 0) x) ≡ wests f i j
  unfolding wests gradients_at gradients west_gradient eastbound east_at
  east_of j x h e =
      let up = get_or at 1 0 in
      let here = get_or at 2 0 in
      let down = get_or at 3 0 in
      let u : up + x ≡ up + 6 + j = omega arith in
      let m : here + x ≡ here + 6 + j = omega arith in
      let d : down + x ≡ down + 6 + j = omega arith in
      rw (
        u,
        d,
        (reads.sums 1 (omega arith) (omega arith)).entry j h ∙ along_of f i j (neg_ℤ (pos 1)) up rows (row_at 1 (omega arith)) h,
        (reads.sums 3 (omega arith) (omega arith)).entry j h ∙ along_of f i j (pos 1) down rows (row_at 3 (omega arith)) h,
        read f i j (pos 0) here rows (row_at 2 (omega arith)) h 6 (here + x) (omega arith) (omega arith),
        read f i j (pos 0) here rows (row_at 2 (omega arith)) h 8 (here + x + 2) (omega arith) (omega arith),
        m,
        (reads.sums 2 (omega arith) (omega arith)).entry j h ∙ along_of f i j (pos 0) here rows (row_at 2 (omega arith)) h,
      )
