-- The seven rows about a row are among those that a step finds in the ring. Assumes nothing.
use Rattle.std.specs.Prelude.{◌≡◌, List, ℕ, ◌+◌, ◌-◌, ◌<◌, ◌≤◌, leb, pos}
use Rattle.std.proofs.Common.{ap, arith}
use Rattle.std.proofs.Math.IntN.{sub_ℕ}
use Rattle.toolkit.specs.Tests.{by_test, leb_le, leb_gt}
use Rattle.toolkit.specs.Orders.{to_naturals}
use Rattle.frame.specs.Sites.{Frame, reflect}
use Rattle.positions.specs.Near.{near_north, near_south}
use Rattle.positions.specs.RingLaws.{round_part}
use Rattle.mosaic_rows.specs.LoadedRows.{near_row, NearRows, near_entries, Seven}
use Rattle.mosaic_rows.specs.LoadLaws.{seven_loaded}
use Rattle.mosaic_rows.specs.RingRows.{MosaicLent}

down_by : (i x p : ℕ) → i + 4 ≤ x + p → sub_ℕ (x + p) 4 ≡ pos (i + (x + p - 4 - i))
down_by i x p h = simp to_naturals (omega arith)

up_by : (i x p : ℕ) → x + p < i + 4 → i ≤ x → sub_ℕ (x + p) 4 ≡ sub_ℕ i (i + 4 - (x + p))
up_by i x p h l = simp to_naturals (omega arith)

-- the rows x − 4 to x + 2, for x from i to i + 2, lie to four off row i
pub near_bounds : (H i x p : ℕ) → 2 ≤ H → i < H → i ≤ x → x + p ≤ i + 8
    → (i - 4 ≤ near_row H x p) × (near_row H x p ≤ i + 4) × (near_row H x p < H)
near_bounds H i x p h l a b = by_test (leb (i + 4) (x + p)) _
    (λ t.
    let c : i + 4 ≤ x + p = leb_le _ _ t in
    let n = near_south H i (x + p - 4 - i) h l in
    let e = ap (reflect H) (down_by i x p c) in
    (omega (arith, n.0), omega (arith, n.1), omega (arith, n.2)))
    (λ t.
    let c : x + p < i + 4 = leb_gt _ _ t in
    let n = near_north H i (i + 4 - (x + p)) h l in
    let e = ap (reflect H) (up_by i x p c a) in
    (omega (arith, n.0), omega (arith, n.1), omega (arith, n.2)))

module _ {f : Frame} {i base : ℕ} {rows : List ℕ} (lent : MosaicLent f i base rows) (x : ℕ) (low : i ≤ x) (high : x ≤ i + 2) where
  bounds : (p : ℕ) → p < 7
      → (i - 4 ≤ near_row f.height x p) × (near_row f.height x p ≤ i + 4) × (near_row f.height x p < f.height)
  bounds p h = near_bounds f.height i x p lent.taken.tall lent.inside low (omega arith)

  pub near_rows : NearRows f.height x base
  near_rows = record { each = λ p h. round_part lent.round (bounds p h).0 (bounds p h).1 }

  pub seven_of : Seven f x (near_entries f.height x) rows
  seven_of = seven_loaded (λ p h. lent.kept.row _ (bounds p h).0 (omega (arith, bounds p h)))
