-- What `SiteGradients::at` reads of the records is the four gradients of a site. Assumes nothing.
use Rattle.std.specs.Prelude.{◌≡◌, List, ℕ, ◌+◌, ◌*◌, ◌-◌, ◌<◌, ◌≤◌, ltb, ℤ, length}
use Rattle.std.proofs.Math.Path.{refl, ap}
use Rattle.std.proofs.Common.{sym, ◌∙◌}
use native.Mathlib.Omega.{arith}
use Rattle.std.proofs.Math.IntN.{pos}
use Rattle.std.proofs.Math.ListN.{get_or}
use Rattle.toolkit.specs.Tests.{by_test, ltb_lt, ltb_ge}
use Rattle.toolkit.specs.Entries.{Entries}
use Rattle.toolkit.specs.Naturals.{not_negative}
use Rattle.frame.specs.Sites.{Frame, highest_sample}
use Rattle.method.specs.Gradients.{mosaic, gradients_at}
use Rattle.method.specs.Four.{listed, same_four}
use Rattle.method.specs.Planes.{weighing}
use Rattle.method.specs.Sizes.{AtMost, Naturals}
use Rattle.method.proofs.Sizes.{listed_naturals, weighing_size, gradients_size}
use Rattle.positions.specs.Taken.{Taken}
use Rattle.positions.specs.Places.{room, row_end}
use Rattle.positions.specs.Rings.{place_in_ring, Round}
use Rattle.positions.specs.RingLaws.{ring_end, round_part}
use Rattle.positions.specs.HalfRows.{chroma_start, half_column, chroma_count, in_halves}
use Rattle.positions.specs.HalfRowLaws.{first_half, second_half, count_high}
use Rattle.records.specs.Layout.{record_size, south_part, top_size}
use Rattle.records.specs.Quantities.{wests, souths, norths, east_entry}
use Rattle.records.specs.EntryLaws.{east_of_first, east_of_second, gradient_east, gradient_south}
use Rattle.records.specs.Neighbours.{east_is_west, south_from_north}
use Rattle.records.specs.Stages.{Gradients, Lent}
use Rattle.half_rows.specs.Sources.{north_entry, four_entries, weighed_entries, GradientsFit, NorthRoom}
use Rattle.half_rows.specs.Norths.{north_of_tops, north_of_work}

-- "at most 40,920"
pub gradients_most : (f : Frame) (i j : ℕ) → Taken f → AtMost 40920 (gradients_at (mosaic f) i j)
unfolding highest_sample
gradients_most f i j t = gradients_size f t.tall t.wide t.ranged i j

-- what `SiteGradients::weights` answers: the four gradients are naturals, and so are those that means weigh
module _ {count east south : ℕ} {work n : List ℤ} (fit : GradientsFit count east south work n) (k : ℕ) (low : k < count) where
  pub weighed_are : four_entries work east south n k ≡ weighed_entries work east south n k
  unfolding weighing
  weighed_are =
      let g = fit.each k low in
      same_four (sym (not_negative _ g.east_from)) (sym (not_negative _ g.west_from)) (sym (not_negative _ g.south_from))
      (sym (not_negative _ g.north_from))

  pub weighed_naturals : Naturals 40920 (weighed_entries work east south n k)
  weighed_naturals = listed_naturals _ refl (weighing_size _ _ (fit.each k low).most)

-- the record of row i lies in work
pub record_end : (f : Frame) (i base : ℕ) (tops work : List ℤ) → Lent f i base tops work → place_in_ring i * record_size f.width + record_size f.width ≤ length work
record_end f i base tops work l = omega (arith, l.work_size, ring_end f.height (record_size f.width) i l.inside)

pub work_most : (f : Frame) (i base : ℕ) (tops work : List ℤ) → Lent f i base tops work → length work ≤ 67108864
work_most f i base tops work l =
    let t = l.taken in
    omega (arith, l.work_size, room f.height (record_size f.width) t.low (omega (arith, t.narrow)))

-- what the place of a record is found by: of row r, to four off, and of row i
pub near_record : {f : Frame} {i base : ℕ} {tops work : List ℤ} → Lent f i base tops work → (r : ℕ) → i - 4 ≤ r → r ≤ i + 4 → r < f.height
    → (f.width ≤ 4096) × (r ≤ 4096) × Round base r r
near_record l r a b h = (l.taken.narrow, omega (arith, l.taken.low), round_part l.round a b)

pub own_record : {f : Frame} {i base : ℕ} {tops work : List ℤ} → Lent f i base tops work → (f.width ≤ 4096) × (i ≤ 4096) × Round base i i
own_record l = near_record l _ (omega arith) (omega arith) l.inside

-- what `north` asks
pub north_room : (f : Frame) (i base at count : ℕ) (tops work : List ℤ) → Lent f i base tops work → at + count ≤ f.width → count ≤ 2048
    → NorthRoom f.width i base at count tops work
north_room f i base at count tops work l inside few = record {
  wide = l.taken.wide;
  narrow = l.taken.narrow;
  low = omega (arith, l.inside, l.taken.low);
  inside = inside;
  few = few;
  tops_size = l.tops_size;
  round = l.round;
  work_start = omega (arith, l.work_size, row_end f.height (record_size f.width) i l.inside);
  work_most = work_most f i base tops work l;
}

module _ (f : Frame) (i : ℕ) (tops work : List ℤ) (g : Gradients f (i - 2) (i + 1) tops work) where
  east_read : (a k : ℕ) → k < f.width + 2 → a ≡ place_in_ring i * record_size f.width → get_or work (a + k) (pos 0) ≡ east_entry f i k
  east_read a k h e =
      let p : a + k ≡ place_in_ring i * record_size f.width + 0 + k = omega arith in
      ap (λ (x : ℕ). get_or work x (pos 0)) p
      ∙ (g.records.row i (omega arith) (omega arith) k (omega arith) ∙ gradient_east f i k h)

  south_read : (r a k : ℕ) → i - 2 ≤ r → r ≤ i → k < f.width → a ≡ place_in_ring r * record_size f.width + south_part f.width
      → get_or work (a + k) (pos 0) ≡ in_halves f (souths f) r k
  south_read r a k l h b e =
      let p : a + k ≡ place_in_ring r * record_size f.width + 0 + (south_part f.width + k) = omega arith in
      ap (λ (x : ℕ). get_or work x (pos 0)) p
      ∙ (g.records.row r l (omega arith) (south_part f.width + k) (omega arith) ∙ gradient_south f r k)

  two_down : (k : ℕ) → 2 ≤ i → in_halves f (souths f) (i - 2) k ≡ in_halves f (norths f) i k
  two_down k h =
      let back : i - 2 + 2 ≡ i = omega arith in
      sym (south_from_north f (i - 2) k) ∙ ap (λ (r : ℕ). in_halves f (norths f) r k) back

  north_read : (k : ℕ) → k < f.width → north_entry tops work f.width i k ≡ in_halves f (norths f) i k
  north_read k h = by_test (ltb i 2) _
      (λ t.
      let top : i < 2 = ltb_lt _ _ t in
      let p : i * top_size + k ≡ i * top_size + 0 + k = omega arith in
      north_of_tops tops work f.width i k top
      ∙ (ap (λ (x : ℕ). get_or tops x (pos 0)) p ∙ g.top_rows.row i (omega arith) (omega arith) k h))
      (λ t.
      let low : 2 ≤ i = ltb_ge _ _ t in
      north_of_work tops work f.width i k low
      ∙ (south_read (i - 2) _ k (omega arith) (omega arith) h refl ∙ two_down k low))

  -- the sites of a half row, of which S and N start at entry a of the row, E at entry b, and whose columns are c, c + 2, ..
  module _ (a b c m : ℕ) (columns : (k : ℕ) → k < m → half_column f.width (chroma_start f.phase i) (a + k) ≡ c + 2 * k)
      (easts : (k : ℕ) → k ≤ m → east_entry f i (b + k) ≡ wests f i (c + 2 * k)) (inside : a + m ≤ f.width) (room : b + m < f.width + 2) where
    sites : (n : List ℤ) (east south count at k : ℕ) → east ≡ place_in_ring i * record_size f.width + b
        → south ≡ place_in_ring i * record_size f.width + south_part f.width + a → count ≡ m → at ≡ a
        → Entries (pos 0) 2064 4 (count + 4) (λ (x : ℕ). north_entry tops work f.width i (at + (x - 4))) n → k < m
        → four_entries work east south n k ≡ listed (gradients_at (mosaic f) i (c + 2 * k))
    unfolding wests in_halves souths norths
    sites n east south count at k ee es ec ea norths_row l =
        let p1 : east + k + 1 ≡ place_in_ring i * record_size f.width + (b + (k + 1)) = omega arith in
        let p0 : east + k ≡ place_in_ring i * record_size f.width + (b + k) = omega arith in
        let ps : south + k ≡ place_in_ring i * record_size f.width + south_part f.width + (a + k) = omega arith in
        let pn : at + (k + 4 - 4) ≡ a + k = omega arith in
        let step : c + 2 * (k + 1) ≡ c + 2 * k + 2 = omega arith in
        same_four
        (ap (λ (x : ℕ). get_or work x (pos 0)) p1 ∙ (east_read _ (b + (k + 1)) (omega arith) refl ∙ (easts (k + 1) (omega arith)
        ∙ (ap (λ (j : ℕ). pos (gradients_at (mosaic f) i j).west) step ∙ ap pos (sym (east_is_west (mosaic f) i (c + 2 * k)))))))
        (ap (λ (x : ℕ). get_or work x (pos 0)) p0 ∙ (east_read _ (b + k) (omega arith) refl ∙ easts k (omega arith)))
        (ap (λ (x : ℕ). get_or work x (pos 0)) ps ∙ (south_read i _ (a + k) (omega arith) (omega arith) (omega arith) refl
        ∙ ap (λ (j : ℕ). pos (gradients_at (mosaic f) i j).south) (columns k l)))
        (norths_row.at (k + 4) (omega arith) (omega arith) ∙ (ap (north_entry tops work f.width i) pn
        ∙ (north_read (a + k) (omega arith) ∙ ap (λ (j : ℕ). pos (gradients_at (mosaic f) i j).north) (columns k l))))

  -- the red and blue sites of row i
  pub site_gradients_first : (n : List ℤ) (east south count at k : ℕ) → east ≡ place_in_ring i * record_size f.width
      → south ≡ place_in_ring i * record_size f.width + south_part f.width → count ≡ chroma_count f i → at ≡ 0
      → Entries (pos 0) 2064 4 (count + 4) (λ (x : ℕ). north_entry tops work f.width i (at + (x - 4))) n → k < chroma_count f i
      → four_entries work east south n k ≡ listed (gradients_at (mosaic f) i (chroma_start f.phase i + 2 * k))
  unfolding chroma_count
  site_gradients_first n east south count at k ee es ec ea =
      sites 0 0 (chroma_start f.phase i) (chroma_count f i)
      (λ x l. ap (half_column f.width (chroma_start f.phase i)) (zero_first x) ∙ first_half f.width (chroma_start f.phase i) x l)
      (λ x l. ap (east_entry f i) (zero_first x) ∙ east_of_first f i x (omega arith))
      (omega (arith, count_high f.width (chroma_start f.phase i))) (omega (arith, count_high f.width (chroma_start f.phase i)))
      n east south count at k (omega arith) (omega arith) ec ea
    where
      zero_first : (x : ℕ) → 0 + x ≡ x
      zero_first x = omega arith

  -- its green sites
  pub site_gradients_second : (n : List ℤ) (east south count at k : ℕ) → east ≡ place_in_ring i * record_size f.width + (chroma_count f i + 1)
      → south ≡ place_in_ring i * record_size f.width + south_part f.width + chroma_count f i → count ≡ f.width - chroma_count f i → at ≡ chroma_count f i
      → Entries (pos 0) 2064 4 (count + 4) (λ (x : ℕ). north_entry tops work f.width i (at + (x - 4))) n → k < f.width - chroma_count f i
      → four_entries work east south n k ≡ listed (gradients_at (mosaic f) i (1 - chroma_start f.phase i + 2 * k))
  unfolding chroma_count
  site_gradients_second n east south count at k ee es ec ea =
      sites (chroma_count f i) (chroma_count f i + 1) (1 - chroma_start f.phase i) (f.width - chroma_count f i)
      (λ x l. second_half f.width (chroma_start f.phase i) x) (λ x l. east_of_second f i x)
      (omega (arith, count_high f.width (chroma_start f.phase i))) (omega (arith, count_high f.width (chroma_start f.phase i)))
      n east south count at k ee es ec ea
