-- A row of differences of the other colour, from the final differences of the rows one off. Assumes nothing.
use Rattle.std.specs.Prelude.{◌≡◌, refl, List, ℕ, ◌+◌, ◌*◌, ◌-◌, ◌%◌, ◌<◌, ◌≤◌, min, ℤ, pos, neg_ℤ, nat_abs, ◌+ℤ◌, length, get_or}
use Rattle.std.proofs.Common.{sym, ◌∙◌, ap₂}
use Rattle.std.proofs.Math.Path.{ap}
use native.Mathlib.Omega.{arith}
use Rattle.std.proofs.Math.IntN.{sub_ℕ}
use Rattle.toolkit.specs.Orders.{to_naturals}
use Rattle.toolkit.specs.Entries.{Entries}
use Rattle.toolkit.specs.Writes.{Wrote, wrote_as}
use Rattle.frame.specs.Sites.{Frame, highest_sample, reflect, around}
use Rattle.method.specs.Gradients.{mosaic}
use Rattle.method.specs.Four.{directions, sizes}
use Rattle.method.specs.Planes.{mean_under, diagonally, corners, corner_gradients, chroma_site_difference}
use Rattle.method.specs.Sizes.{AtMost}
use Rattle.method.proofs.Sizes.{around_size, final_difference_size}
use Rattle.method.proofs.ColourLaws.{directions_path}
use Rattle.positions.specs.Taken.{Taken}
use Rattle.positions.specs.Rings.{place_in_ring}
use Rattle.positions.specs.RingLaws.{ring_end}
use Rattle.positions.specs.Near.{near_north, near_south, north_step, north_odd, south_odd}
use Rattle.positions.specs.HalfRows.{chroma_start, half_count, chroma_count, chroma_row, Half}
use Rattle.positions.specs.HalfRowLaws.{chroma_small, chroma_odd, both_counts, rest_small, rest_half}
use Rattle.records.specs.Layout.{record_size, south_part, final_part}
use Rattle.records.specs.Quantities.{finals, others}
use Rattle.records.specs.SiteColours.{chroma_not_traded}
use Rattle.records.specs.Stages.{ChromaKept, Lent, DiagonalReads}
use Rattle.half_rows.specs.Sources.{source_entry, north_entry}
use Rattle.half_rows.specs.Mirror.{mirrored}
use Rattle.half_rows.specs.Beside.{half_around, half_of_row}
use Rattle.half_rows.specs.GradientRow.{GradientRow, start_small, count_is, gradients_are}
use Rattle.differences.specs.Rows.{corners_read, corner_mean_read, ValuesFit}

on_one : (c k : ℕ) → c ≤ 1 → sub_ℕ (1 - c + 2 * (k + c + 4)) 8 ≡ pos (c + 2 * k) +ℤ pos 1
on_one c k h = simp to_naturals (omega arith)

back_one : (c k : ℕ) → c ≤ 1 → sub_ℕ (1 - c + 2 * (k + c + 3)) 8 ≡ pos (c + 2 * k) +ℤ neg_ℤ (pos 1)
back_one c k h = simp to_naturals (omega arith)

-- the sites of row i lie between those of the rows one off
reach_of : (W c k : ℕ) → c ≤ 1 → k < half_count W c → k + c + 4 < half_count W (1 - c) + 4 + 1
unfolding half_count
reach_of W c k h l = omega arith

-- a row one off, copied and mirrored
pub record RowOneOff (f : Frame) (c r rest : ℕ) (work copied row : List ℤ) : Type 0 where
  pub copied_row : Entries (pos 0) 2064 4 (rest + 4)
      (λ (x : ℕ). get_or work (place_in_ring r * record_size f.width + final_part f.width + (x - 4)) (pos 0)) copied
  pub mirrored_row : Entries (pos 0) 2064 (4 - 1) (half_count f.width (1 - c) + 4 + 1)
      (λ (x : ℕ). get_or copied (source_entry f.width (1 - c) x) (pos 0)) row

-- what the code has formed of row i when its means are due
pub record DiagonalRow (f : Frame) (i base c count above below : ℕ) (tops work n copied_up up copied_down down : List ℤ) : Type 0 where
  pub gradient_row : GradientRow f i base c count tops work n
  pub held : ChromaKept f (final_part f.width) (i - 1) (min (i + 2) f.height) (finals f) work
  pub one_above : above ≡ reflect f.height (sub_ℕ i 1)
  pub one_below : below ≡ reflect f.height (pos (i + 1))
  pub up_row : RowOneOff f c above (f.width - count) work copied_up up
  pub down_row : RowOneOff f c below (f.width - count) work copied_down down

-- the room of row r's final differences
module _ {f : Frame} {i base c count : ℕ} {tops work : List ℤ} (lent : Lent f i base tops work) (start : c ≡ chroma_start f.phase i)
    (sites : count ≡ half_count f.width c) where
  low : c ≤ 1
  low = omega (arith, chroma_small f.phase i)

  pub rest_few : f.width - count ≤ 2048
  rest_few = omega (arith, rest_small f.width c low lent.taken.wide lent.taken.narrow)

  pub rest_room : (r : ℕ) {at : ℕ} → r < f.height → at ≡ place_in_ring r * record_size f.width + final_part f.width → at + (f.width - count) ≤ length work
  rest_room r h e = omega (arith, rest_half f.width c low, lent.taken.wide, lent.work_size, ring_end f.height (record_size f.width) r h)

pub row_one_off : {f : Frame} {c r rest at : ℕ} {work copied row : List ℤ} → at ≡ place_in_ring r * record_size f.width + final_part f.width
    → Entries (pos 0) 2064 4 (rest + 4) (λ (x : ℕ). get_or work (at + (x - 4)) (pos 0)) copied
    → Entries (pos 0) 2064 (4 - 1) (half_count f.width (1 - c) + 4 + 1) (λ (x : ℕ). get_or copied (source_entry f.width (1 - c) x) (pos 0)) row
    → RowOneOff f c r rest work copied row
row_one_off e a b = record { copied_row = rw e at a; mirrored_row = b }

pub diagonal_row : {f : Frame} {i base c count above below : ℕ} {tops work n copied_up up copied_down down : List ℤ} → DiagonalReads f i base tops work
    → c ≡ chroma_start f.phase i → count ≡ half_count f.width c
    → Entries (pos 0) 2064 4 (count + 4) (λ (x : ℕ). north_entry tops work f.width i (0 + (x - 4))) n
    → above ≡ reflect f.height (sub_ℕ i 1) → below ≡ reflect f.height (pos (i + 1))
    → RowOneOff f c above (f.width - count) work copied_up up → RowOneOff f c below (f.width - count) work copied_down down
    → DiagonalRow f i base c count above below tops work n copied_up up copied_down down
diagonal_row r c n nr a b u d = record {
  gradient_row = record { lent = r.lent; gradients = r.gradients; start = c; sites = n; north_row = nr };
  held = r.finals_held;
  one_above = a;
  one_below = b;
  up_row = u;
  down_row = d;
}

module _ {f : Frame} {i base c count above below : ℕ} {tops work n copied_up up copied_down down : List ℤ}
    (row : DiagonalRow f i base c count above below tops work n copied_up up copied_down down) where
  taken : Taken f
  taken = row.gradient_row.lent.taken

  inside : i < f.height
  inside = row.gradient_row.lent.inside

  small : c ≤ 1
  small = start_small row.gradient_row

  rest_is : f.width - count ≡ half_count f.width (1 - c)
  rest_is = omega (arith, row.gradient_row.sites, both_counts f.width c small taken.wide)

  half : (r : ℕ) {copied l : List ℤ} → i - 1 ≤ r → r < min (i + 2) f.height → r % 2 ≡ (i + 1) % 2
      → RowOneOff f c r (f.width - count) work copied l → Half f.width (1 - c) (4 - 1) (half_count f.width (1 - c) + 4 + 1) (finals f r) l
  half r {copied} {l} a b par one =
      mirrored f.width (1 - c) taken.wide (omega arith) (4 - 1) (half_count f.width (1 - c) + 4 + 1) (finals f r) copied l
      (half_of_row f place_in_ring (record_size f.width) (final_part f.width) (i - 1) (min (i + 2) f.height) (finals f) work taken.wide row.held
      r (1 - c) (place_in_ring r * record_size f.width + final_part f.width) (f.width - count) copied a b
      (ap (λ (x : ℕ). 1 - x) row.gradient_row.start ∙ sym (chroma_odd f.phase i r par)) rest_is refl one.copied_row)
      one.mirrored_row

  half_up : Half f.width (1 - c) (4 - 1) (half_count f.width (1 - c) + 4 + 1) (finals f above) up
  half_up =
      let near = near_north f.height i 1 taken.tall inside in
      half above (omega (arith, row.one_above)) (omega (arith, row.one_above))
      (ap (λ (r : ℕ). r % 2) row.one_above ∙ north_odd f.height i taken.tall) row.up_row

  half_down : Half f.width (1 - c) (4 - 1) (half_count f.width (1 - c) + 4 + 1) (finals f below) down
  half_down =
      let near = near_south f.height i 1 taken.tall inside in
      half below (omega (arith, row.one_below)) (omega (arith, row.one_below))
      (ap (λ (r : ℕ). r % 2) row.one_below ∙ south_odd f.height i taken.tall) row.down_row

  module _ (k : ℕ) (low : k < count) where
    corner : (l : List ℤ) (r x : ℕ) (o o' : ℤ) → Half f.width (1 - c) (4 - 1) (half_count f.width (1 - c) + 4 + 1) (finals f r) l
        → 3 ≤ x → x < half_count f.width (1 - c) + 4 + 1 → r ≡ reflect f.height (pos i +ℤ o)
        → sub_ℕ (1 - c + 2 * x) 8 ≡ pos (c + 2 * k) +ℤ o' → get_or l x (pos 0) ≡ around f.height f.width (finals f) i (c + 2 * k) o o'
    corner l r x o o' h a b e p =
        half_around f.height f.width (1 - c) (4 - 1) (half_count f.width (1 - c) + 4 + 1) (finals f) l r h x i (c + 2 * k) o o' a b e p

    in_reach : k + c + 4 < half_count f.width (1 - c) + 4 + 1
    in_reach = reach_of f.width c k small (omega (arith, row.gradient_row.sites))

    north_east : get_or up (k + c + 4) (pos 0) ≡ around f.height f.width (finals f) i (c + 2 * k) (neg_ℤ (pos 1)) (pos 1)
    north_east = corner up above (k + c + 4) (neg_ℤ (pos 1)) (pos 1) half_up (omega arith) in_reach
        (row.one_above ∙ ap (reflect f.height) (north_step i 1)) (on_one c k small)

    north_west : get_or up (k + c + 3) (pos 0) ≡ around f.height f.width (finals f) i (c + 2 * k) (neg_ℤ (pos 1)) (neg_ℤ (pos 1))
    north_west = corner up above (k + c + 3) (neg_ℤ (pos 1)) (neg_ℤ (pos 1)) half_up (omega arith) (omega (arith, in_reach))
        (row.one_above ∙ ap (reflect f.height) (north_step i 1)) (back_one c k small)

    south_east : get_or down (k + c + 4) (pos 0) ≡ around f.height f.width (finals f) i (c + 2 * k) (pos 1) (pos 1)
    south_east = corner down below (k + c + 4) (pos 1) (pos 1) half_down (omega arith) in_reach row.one_below (on_one c k small)

    south_west : get_or down (k + c + 3) (pos 0) ≡ around f.height f.width (finals f) i (c + 2 * k) (pos 1) (neg_ℤ (pos 1))
    south_west = corner down below (k + c + 3) (pos 1) (neg_ℤ (pos 1)) half_down (omega arith) (omega (arith, in_reach))
        row.one_below (back_one c k small)

    four_corners : directions (corners_read up down c k) ≡ corners (around f.height f.width (finals f) i (c + 2 * k))
    unfolding corners diagonally
    four_corners = directions_path north_east north_west south_east south_west

    around_small : (r o : ℤ) → nat_abs (around f.height f.width (finals f) i (c + 2 * k) r o) ≤ 4092
    unfolding finals mosaic highest_sample
    around_small r o = around_size f taken.tall taken.wide 4092 (finals f)
        (final_difference_size f taken.tall taken.wide taken.ranged) i (c + 2 * k) r o

    values_small : AtMost 4092 (sizes (directions (corners_read up down c k)))
    values_small = record {
      east_most = rw north_east (around_small (neg_ℤ (pos 1)) (pos 1));
      west_most = rw north_west (around_small (neg_ℤ (pos 1)) (neg_ℤ (pos 1)));
      south_most = rw south_east (around_small (pos 1) (pos 1));
      north_most = rw south_west (around_small (pos 1) (neg_ℤ (pos 1)));
    }

  pub corner_values_fit : ValuesFit 4092 count (corners_read up down c)
  corner_values_fit = record { each = values_small }

  module _ (east south : ℕ) (e : east ≡ place_in_ring i * record_size f.width) (s : south ≡ place_in_ring i * record_size f.width + south_part f.width) (m : List ℤ)
      (means : Entries (pos 0) 2064 4 (count + 4) (λ (x : ℕ). corner_mean_read work east south n up down c (x - 4)) m) where
    other_is : (k : ℕ) → k < count → get_or m (k + 4) (pos 0) ≡ others f i (c + 2 * k)
    unfolding others chroma_site_difference finals mosaic
    other_is k h =
        let back : k + 4 - 4 ≡ k = omega arith in
        means.at (k + 4) (omega arith) (omega arith)
        ∙ (ap (corner_mean_read work east south n up down c) back
        ∙ (ap₂ (mean_under corner_gradients) (gradients_are row.gradient_row east south e s k h) (four_corners k h)
        ∙ rw (chroma_not_traded f.phase i c k row.gradient_row.start) refl))

    pub others_stored : {at a : ℕ} {old new : List ℤ} → at ≡ a → Wrote (pos 0) at count (λ (k : ℕ). get_or m (k + 4) (pos 0)) old new
        → Wrote (pos 0) a (chroma_count f i) (chroma_row f (others f) i) old new
    unfolding chroma_row
    others_stored p w = rw (← p) (wrote_as w (count_is row.gradient_row) (λ k h.
        other_is k h ∙ ap (λ (x : ℕ). others f i (x + 2 * k)) row.gradient_row.start))
