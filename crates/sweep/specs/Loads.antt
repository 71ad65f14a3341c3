-- The ring of the mosaic: what it holds when t rows have been due, and what a turn of load makes of it. Assumes nothing.
use Rattle.std.specs.Prelude.{◌≡◌, List, ℕ, ◌+◌, ◌*◌, ◌-◌, ◌<◌, ◌≤◌, min, ltb, length, get_or}
use Rattle.std.proofs.Common.{sym, ◌∙◌, arith}
use Rattle.toolkit.specs.Tests.{by_test, ltb_lt, ltb_ge}
use Rattle.frame.specs.Sites.{Frame}
use Rattle.positions.specs.Taken.{Taken}
use Rattle.positions.specs.Rings.{place_in_ring}
use Rattle.positions.specs.RingLaws.{ring_apart}
use Rattle.records.specs.TurnLaws.{stored_elsewhere}
use Rattle.mosaic_rows.specs.LoadedRows.{Loaded}
use Rattle.mosaic_rows.specs.LoadLaws.{loaded}
use Rattle.mosaic_rows.specs.RingRows.{RowsKept}
use Rattle.east_rows.specs.RowSums.{along_at, Summed}
use Rattle.first_stage.specs.FirstStage.{SumsKept, LineLoaded}
use Rattle.stage_turns.specs.Distances.{LoadTurned}
use Rattle.stage_turns.specs.RowsDue.{rows_part, sums_part}

-- the last 24 rows, and their a
pub record MosaicKept (f : Frame) (t : ℕ) (rows alongs : List ℕ) : Type 0 where
  pub kept : RowsKept f (min t f.height - 24) (min t f.height) rows
  pub sums : SumsKept f (min t f.height - 24) (min t f.height) rows alongs

pub mosaic_none : {f : Frame} {rows alongs : List ℕ} → length rows ≡ 98688 → length alongs ≡ 98688 → MosaicKept f 0 rows alongs
mosaic_none a b = record {
  kept = record { size = a; row = λ r x y. absurd (omega arith) };
  sums = record { size = b; row = λ r x y. absurd (omega arith) };
}

-- a is formed of seven entries
along_same : (z z' : List ℕ) (k : ℕ) → 2 ≤ k → ((x : ℕ) → k - 2 ≤ x → x ≤ k + 4 → get_or z' x 0 ≡ get_or z x 0) → along_at z' k ≡ along_at z k
unfolding along_at
along_same z z' k h same = rw (
  same (k - 2) (omega arith) (omega arith),
  same (k - 1) (omega arith) (omega arith),
  same k (omega arith) (omega arith),
  same (k + 1) (omega arith) (omega arith),
  same (k + 2) (omega arith) (omega arith),
  same (k + 3) (omega arith) (omega arith),
  same (k + 4) (omega arith) (omega arith),
)

module _ {f : Frame} {t : ℕ} {rows rows' alongs alongs' : List ℕ} (taken : Taken f) (line : LineLoaded f t rows rows' alongs alongs') where
  -- what stands at another place is as it was
  row_elsewhere : (r k : ℕ) → ¬ (place_in_ring r ≡ place_in_ring t) → place_in_ring r * 4112 ≤ k → k < place_in_ring r * 4112 + 4112 → get_or rows' k 0 ≡ get_or rows k 0
  row_elsewhere r k other = stored_elsewhere 4112 (place_in_ring t) (place_in_ring r) line.row_stored (omega arith) (omega (arith, taken.narrow)) other k

  sum_elsewhere : (r k : ℕ) → ¬ (place_in_ring r ≡ place_in_ring t) → place_in_ring r * 4112 ≤ k → k < place_in_ring r * 4112 + 4112
      → get_or alongs' k 0 ≡ get_or alongs k 0
  sum_elsewhere r k other = stored_elsewhere 4112 (place_in_ring t) (place_in_ring r) line.sums_stored (omega arith) (omega (arith, taken.narrow)) other k

  row_next : (r : ℕ) → t < r + 24 → r ≤ t → (r < t → Loaded f r (place_in_ring r * 4112) rows) → Loaded f r (place_in_ring r * 4112) rows'
  row_next r a b old = by_test (ltb r t) _
      (λ u.
      let c : r < t = ltb_lt _ _ u in
      record {
        entry = λ x h. row_elsewhere r (place_in_ring r * 4112 + x) (ring_apart r t c a) (omega arith) (omega (arith, taken.narrow)) ∙ (old c).entry x h;
      })
      (λ u. let e : r ≡ t = omega (arith, ltb_ge r t u) in rw e (loaded line.row_stored))

  sum_next : (r : ℕ) → t < r + 24 → r ≤ t → (r < t → Summed f.width (place_in_ring r * 4112) rows alongs)
      → Summed f.width (place_in_ring r * 4112) rows' alongs'
  sum_next r a b old = by_test (ltb r t) _
      (λ u.
      let c : r < t = ltb_lt _ _ u in
      let other = ring_apart r t c a in
      record {
        entry = λ k h. sum_elsewhere r (place_in_ring r * 4112 + 6 + k) other (omega arith) (omega (arith, taken.narrow)) ∙ ((old c).entry k h
            ∙ sym (along_same rows rows' (place_in_ring r * 4112 + 6 + k) (omega arith)
            (λ x l m. row_elsewhere r x other (omega arith) (omega (arith, taken.narrow)))));
      })
      (λ u. let e : r ≡ t = omega (arith, ltb_ge r t u) in rw e (record { entry = line.sums_stored.inside }))

pub after_load : {f : Frame} {t : ℕ} {rows rows' alongs alongs' : List ℕ} → Taken f → MosaicKept f t rows alongs
    → LoadTurned f t rows rows' alongs alongs' → MosaicKept f (t + 1) rows' alongs'
after_load {f} {t} {rows} {rows'} {alongs} {alongs'} taken m turn = by_test (ltb t f.height) _
    (λ u.
    let l : t < f.height = ltb_lt _ _ u in
    let line = turn.here l in
    record {
      kept = record {
        size = line.row_stored.size ∙ m.kept.size;
        row = λ r x y. row_next taken line r (omega arith) (omega arith) (λ c. m.kept.row r (omega arith) (omega arith));
      };
      sums = record {
        size = line.sums_stored.size ∙ m.sums.size;
        row = λ r x y. sum_next taken line r (omega arith) (omega arith) (λ c. m.sums.row r (omega arith) (omega arith));
      };
    })
    (λ u.
    let l : f.height ≤ t = ltb_ge _ _ u in
    let same = turn.late l in
    rw (same.0, same.1) (record { kept = rows_part m.kept (omega arith) (omega arith); sums = sums_part m.sums (omega arith) (omega arith) }))
