-- What the stores of N, E and S leave: the gradients of one row more. Assumes nothing.
use Rattle.std.specs.Prelude.{◌≡◌, refl, List, ℕ, ◌+◌, ◌*◌, ◌-◌, ◌<◌, ◌≤◌, min, eqb, ltb, ℤ, pos, length, get_or}
use Rattle.std.proofs.Common.{sym, ◌∙◌, ap, arith}
use Rattle.toolkit.specs.Tests.{by_test, eqb_eq, eqb_ne, ltb_lt, ltb_ge}
use Rattle.toolkit.specs.Writes.{Wrote, wrote_as, wrote_then}
use Rattle.frame.specs.Sites.{Frame}
use Rattle.positions.specs.HalfRows.{chroma_start, in_halves}
use Rattle.positions.specs.Taken.{Taken}
use Rattle.positions.specs.Rings.{place_in_ring}
use Rattle.positions.specs.RingLaws.{ring_apart, ring_end}
use Rattle.records.specs.Layout.{record_size, gradient_size, south_part, top_size}
use Rattle.records.specs.Quantities.{norths, east_entry, gradient_entry}
use Rattle.records.specs.EntryLaws.{gradient_east, gradient_south}
use Rattle.records.specs.Neighbours.{south_from_north}
use Rattle.records.specs.TurnLaws.{stored_elsewhere}
use Rattle.records.specs.Stages.{Gradients, FirstReads, TopsStored, GradientsStored}
use Rattle.east_rows.specs.EastRows.{EastStored}
use Rattle.mosaic_rows.specs.LoadedRows.{Seven}
use Rattle.first_stage.specs.FirstStage.{TrialsRead}

-- E, and S behind it
pub gradients_stored : (f : Frame) (i at : ℕ) {old mid new : List ℤ} → EastStored f i old mid
    → Wrote (pos 0) at f.width (in_halves f (norths f) (i + 2)) mid new → at ≡ place_in_ring i * record_size f.width + south_part f.width
    → GradientsStored f i old new
gradients_stored f i at {old} {mid} {new} east south e = wrote_then (wrote_as east refl first) south (omega arith) (omega arith) second
  where
    first : (k : ℕ) → k < f.width + 2 → east_entry f i k ≡ gradient_entry f i k
    first k h = sym (gradient_east f i k h)

    second : (k : ℕ) → k < f.width → in_halves f (norths f) (i + 2) k ≡ gradient_entry f i (f.width + 2 + k)
    second k h = south_from_north f i k ∙ sym (gradient_south f i k)

module _ (f : Frame) (i : ℕ) {tops tops2 work work2 : List ℤ} (t : Taken f) (old : Gradients f (i - 2) i tops work)
    (top : TopsStored f i tops tops2) (stored : GradientsStored f i work work2) where
  -- the records before row i stay
  record_row : (r k : ℕ) → i - 2 ≤ r → r ≤ i → k < gradient_size f.width
      → get_or work2 (place_in_ring r * record_size f.width + 0 + k) (pos 0) ≡ gradient_entry f r k
  record_row r k l h b = by_test (eqb r i) _
      (λ e.
      let q : r ≡ i = eqb_eq r i e in
      let p : place_in_ring i * record_size f.width + 0 + k ≡ place_in_ring i * record_size f.width + k = omega arith in
      rw q (ap (λ (x : ℕ). get_or work2 x (pos 0)) p ∙ stored.inside k b))
      (λ e.
      let q : r < i = omega (arith, eqb_ne {m = r} {n = i} e) in
      stored_elsewhere (record_size f.width) (place_in_ring i) (place_in_ring r) stored (omega arith) (omega (arith, t.wide))
      (ring_apart r i q (omega arith)) _ (omega arith) (omega (arith, t.wide)) ∙ old.records.row r l q k b)

  top_row : (r k : ℕ) → r < min (i + 1) 2 → k < f.width → get_or tops2 (r * top_size + 0 + k) (pos 0) ≡ in_halves f (norths f) r k
  top_row r k h b = by_test (ltb i 2) _
      (λ e.
      let l : i < 2 = ltb_lt _ _ e in
      by_test (eqb r i) _
      (λ e2.
      let q : r ≡ i = eqb_eq r i e2 in
      let p : i * top_size + 0 + k ≡ i * top_size + k = omega arith in
      rw q (ap (λ (x : ℕ). get_or tops2 x (pos 0)) p ∙ (top.here l).inside k b))
      (λ e2.
      let q : r < i = omega (arith, eqb_ne {m = r} {n = i} e2) in
      (top.here l).before _ (omega (arith, t.narrow)) ∙ old.top_rows.row r (omega arith) (omega arith) k b))
      (λ e.
      let l : 2 ≤ i = ltb_ge _ _ e in
      ap (λ (x : List ℤ). get_or x (r * top_size + 0 + k) (pos 0)) (top.late l) ∙ old.top_rows.row r (omega arith) (omega arith) k b)

  -- the gradients to row i
  gradients_next : Gradients f (i - 2) (i + 1) tops2 work2
  gradients_next = record {
    records = record { row = λ r l h k b. record_row r k l (omega arith) b };
    top_rows = record { row = λ r l h k b. top_row r k h b };
  }

-- the size of tops stays
tops_size : {f : Frame} {i : ℕ} {old new : List ℤ} → TopsStored f i old new → length new ≡ length old
tops_size {f} {i} {old} {new} top = by_test (ltb i 2) _
    (λ e. let l : i < 2 = ltb_lt _ _ e in (top.here l).size)
    (λ e. let l : 2 ≤ i = ltb_ge _ _ e in ap length (top.late l))

-- the S of row i lies in work
pub south_room : (f : Frame) (i at : ℕ) {old work : List ℤ} → Taken f → i < f.height → length old ≡ f.height * record_size f.width
    → EastStored f i old work → at ≡ place_in_ring i * record_size f.width + south_part f.width → at + f.width ≤ length work
south_room f i at t h e w p = omega (arith, w.size, t.wide, ring_end f.height (record_size f.width) i h)

-- what the trial differences are formed from
pub trials_read : {f : Frame} {i base c : ℕ} {at rows : List ℕ} {tops tops2 work work2 : List ℤ} → FirstReads f i base tops work
    → c ≡ chroma_start f.phase i → Seven f (i + 2) at rows → TopsStored f i tops tops2 → GradientsStored f i work work2
    → TrialsRead f i base c at rows tops2 work2
trials_read {f} {i} reads e seven top stored = record {
  lent = record {
    taken = reads.lent.taken;
    inside = reads.lent.inside;
    round = reads.lent.round;
    tops_size = tops_size top ∙ reads.lent.tops_size;
    work_size = stored.size ∙ reads.lent.work_size;
  };
  start = e;
  seven = seven;
  gradients = gradients_next f i reads.lent.taken reads.above top stored;
}
