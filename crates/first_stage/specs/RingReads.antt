-- What the lines of the first stage find in the ring. Assumes nothing.
use Rattle.std.specs.Prelude.{◌≡◌, List, ℕ, ◌+◌, ◌<◌, ◌≤◌, ℤ}
use Rattle.std.proofs.Common.{subst, sym, arith}
use Rattle.frame.specs.Sites.{Frame}
use Rattle.positions.specs.HalfRows.{chroma_start}
use Rattle.mosaic_rows.specs.LoadedRows.{near_row, near_entry, near_entries, Seven}
use Rattle.mosaic_rows.specs.LoadLaws.{near_at}
use Rattle.mosaic_rows.specs.RingRows.{MosaicLent}
use Rattle.mosaic_rows.specs.RingRowLaws.{near_bounds, seven_of}
use Rattle.east_rows.specs.EastRows.{EastReads}
use Rattle.south_rows.specs.SevenRows.{SouthReads}
use Rattle.first_stage.specs.FirstStage.{FirstLent}

-- seven rows about row i, at the entries that the code has found
pub seven_at : {f : Frame} {i base x : ℕ} {at rows : List ℕ} → MosaicLent f i base rows → at ≡ near_entries f.height x → i ≤ x → x ≤ i + 2
    → Seven f x at rows
seven_at {f} {x = x} {rows = rows} lent e low high = subst (λ (l : List ℕ). Seven f x l rows) (sym e) (seven_of lent x low high)

-- what N of a top row is formed from
pub top_reads : {f : Frame} {i base c : ℕ} {at rows : List ℕ} → MosaicLent f i base rows → c ≡ chroma_start f.phase i
    → at ≡ near_entries f.height i → SouthReads f i c at rows
top_reads lent c e = record { taken = lent.taken; start = c; seven = seven_at lent e (omega arith) (omega arith) }

-- what E is formed from: the rows, and a of the rows one off
pub east_reads : {f : Frame} {i base : ℕ} {at rows alongs : List ℕ} {tops work : List ℤ} → FirstLent f i base rows alongs tops work
    → at ≡ near_entries f.height (i + 2) → EastReads f i at rows alongs
unfolding near_entry
east_reads {f} {i} {rows = rows} {alongs = alongs} lent e = record {
  taken = lent.mosaic.taken;
  inside = lent.mosaic.inside;
  seven = seven_at lent.mosaic e (omega arith) (omega arith);
  sums = λ p a b.
      let h : p < 7 = omega arith in
      let near = near_bounds f.height i (i + 2) p lent.mosaic.taken.tall lent.mosaic.inside (omega arith) (omega arith) in
      rw (e, near_at f.height (i + 2) p h) (lent.sums.row (near_row f.height (i + 2) p) near.0 (omega (arith, near.1, near.2)));
}
