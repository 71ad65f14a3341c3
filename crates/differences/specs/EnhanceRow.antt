-- A row of final differences, from D of the rows i and two off. Assumes nothing.
use Rattle.std.specs.Prelude.{◌≡◌, List, ℕ, ◌+◌, ◌*◌, ◌-◌, ◌%◌, ◌<◌, ◌≤◌, min, ℤ, pos, neg_ℤ, nat_abs, ◌+ℤ◌, length, get_or}
use Rattle.std.proofs.Common.{sym, ◌∙◌, le_trans, arith, lit≤}
use Rattle.std.proofs.Math.Path.{ap, ap₂}
use Rattle.std.proofs.Math.IntN.{sub_ℕ}
use Rattle.toolkit.specs.Orders.{to_naturals}
use Rattle.toolkit.specs.Entries.{Entries}
use Rattle.toolkit.specs.Writes.{Wrote, wrote_as}
use Rattle.frame.specs.Sites.{Frame, highest_sample, reflect, around}
use Rattle.frame.proofs.Reflection.{reflect_here}
use Rattle.method.specs.Settings.{fusion_share}
use Rattle.method.specs.Gradients.{mosaic}
use Rattle.method.specs.Four.{directions, sizes}
use Rattle.method.specs.Planes.{straight_gradients, mean_under, straight, mean_two_off, fused, final_difference}
use Rattle.method.specs.Sizes.{AtMost}
use Rattle.method.proofs.Sizes.{around_size, green_difference_size, mean_under_size}
use Rattle.method.proofs.ColourLaws.{directions_path}
use Rattle.positions.specs.Taken.{Taken}
use Rattle.positions.specs.Places.{plane_row}
use Rattle.positions.specs.Near.{near_north, near_south, north_step, north_even, south_even}
use Rattle.positions.specs.Rings.{place_in_ring}
use Rattle.positions.specs.HalfRows.{chroma_start, half_count, chroma_count, chroma_row, Half}
use Rattle.positions.specs.HalfRowLaws.{count_high}
use Rattle.records.specs.Layout.{record_size, south_part}
use Rattle.records.specs.Quantities.{greens, finals}
use Rattle.records.specs.Stages.{ChromaHeld, PlaneSize, EnhanceReads}
use Rattle.half_rows.specs.Sources.{Sized, source_entry, north_entry}
use Rattle.half_rows.specs.Reading.{by_sites}
use Rattle.half_rows.specs.Mirror.{mirrored}
use Rattle.half_rows.specs.Beside.{half_near, half_around, half_of_row, row_near_even}
use Rattle.half_rows.specs.GradientRow.{GradientRow, start_small, count_is, site_inside, gradients_are}
use Rattle.differences.specs.Rows.{straight_read, straight_mean_read, ValuesFit}

on_two : (c k : ℕ) → sub_ℕ (c + 2 * (k + 5)) 8 ≡ pos (c + 2 * k) +ℤ pos 2
on_two c k = simp to_naturals (omega arith)

back_two : (c k : ℕ) → sub_ℕ (c + 2 * (k + 3)) 8 ≡ pos (c + 2 * k) +ℤ neg_ℤ (pos 2)
back_two c k = simp to_naturals (omega arith)

here : (c k : ℕ) → sub_ℕ (c + 2 * (k + 4)) 8 ≡ pos (c + 2 * k) +ℤ pos 0
here c k = simp to_naturals (omega arith)

-- what the code has formed of row i when its means are due
pub record EnhanceRow (f : Frame) (i base c count below above : ℕ) (tops work green n copied l : List ℤ) : Type 0 where
  pub gradient_row : GradientRow f i base c count tops work n
  pub green_size : PlaneSize f green
  pub held : ChromaHeld f (i - 2) (min (i + 3) f.height) (greens f) green
  pub two_below : below ≡ reflect f.height (pos (i + 2))
  pub two_above : above ≡ reflect f.height (sub_ℕ i 2)
  pub copied_row : Entries (pos 0) 2064 4 (count + 4) (λ (x : ℕ). get_or green (i * f.width + (x - 4)) (pos 0)) copied
  pub mirrored_row : Entries (pos 0) 2064 (4 - 1) (half_count f.width c + 4 + 1)
      (λ (x : ℕ). get_or copied (source_entry f.width c x) (pos 0)) l

pub enhance_row : {f : Frame} {i base c count below above : ℕ} {tops work green n copied l : List ℤ} → EnhanceReads f i base tops work green
    → c ≡ chroma_start f.phase i → count ≡ half_count f.width c → below ≡ reflect f.height (pos (i + 2))
    → above ≡ reflect f.height (sub_ℕ i 2)
    → Entries (pos 0) 2064 4 (count + 4) (λ (x : ℕ). north_entry tops work f.width i (0 + (x - 4))) n
    → Entries (pos 0) 2064 4 (count + 4) (λ (x : ℕ). get_or green (i * f.width + (x - 4)) (pos 0)) copied
    → Entries (pos 0) 2064 (4 - 1) (half_count f.width c + 4 + 1) (λ (x : ℕ). get_or copied (source_entry f.width c x) (pos 0)) l
    → EnhanceRow f i base c count below above tops work green n copied l
enhance_row r c n b a nr cr mr = record {
  gradient_row = record { lent = r.lent; gradients = r.gradients; start = c; sites = n; north_row = nr };
  green_size = r.green_size;
  held = r.greens_held;
  two_below = b;
  two_above = a;
  copied_row = cr;
  mirrored_row = mr;
}

-- the room of row r of green
module _ {f : Frame} {i base c count : ℕ} {tops work green : List ℤ} (reads : EnhanceReads f i base tops work green)
    (start : c ≡ chroma_start f.phase i) (sites : count ≡ half_count f.width c) where
  pub row_room : (r : ℕ) → r < f.height → r * f.width + count ≤ length green
  row_room r h = omega (arith, reads.green_size, plane_row f r count reads.lent.taken h (omega (arith, count_high f.width c)))

  pub green_most : length green ≤ 67108864
  green_most = omega (arith, reads.green_size, plane_row f i 0 reads.lent.taken reads.lent.inside (omega arith))

module _ {f : Frame} {i base c count below above : ℕ} {tops work green n copied l : List ℤ}
    (row : EnhanceRow f i base c count below above tops work green n copied l) where
  taken : Taken f
  taken = row.gradient_row.lent.taken

  inside : i < f.height
  inside = row.gradient_row.lent.inside

  small : c ≤ 1
  small = start_small row.gradient_row

  half : Half f.width c (4 - 1) (half_count f.width c + 4 + 1) (greens f i) l
  half = mirrored f.width c taken.wide small (4 - 1) (half_count f.width c + 4 + 1) (greens f i) copied l
      (half_of_row f (λ (n : ℕ). n) f.width 0 (i - 2) (min (i + 3) f.height) (greens f) green taken.wide row.held i c (i * f.width) count copied
      (omega arith) (omega (arith, inside)) row.gradient_row.start row.gradient_row.sites (omega arith) row.copied_row)
      row.mirrored_row

  module _ (k : ℕ) (low : k < count) where
    -- D two columns off, of row i
    beside : (x : ℕ) (o : ℤ) → 3 ≤ x → x < half_count f.width c + 5 → sub_ℕ (c + 2 * x) 8 ≡ pos (c + 2 * k) +ℤ o
        → get_or l x (pos 0) ≡ around f.height f.width (greens f) i (c + 2 * k) (pos 0) o
    beside x o a b e = half_around f.height f.width c (4 - 1) (half_count f.width c + 4 + 1) (greens f) l i half x i (c + 2 * k) (pos 0) o
        (omega arith) (omega arith) (sym (reflect_here f.height i taken.tall inside)) e

    -- D two rows off
    off : (r : ℕ) (o : ℤ) → r ≡ reflect f.height (pos i +ℤ o) → i - 2 ≤ r → r < min (i + 3) f.height → r % 2 ≡ i % 2
        → get_or green (r * f.width + k) (pos 0) ≡ around f.height f.width (greens f) i (c + 2 * k) o (pos 0)
    off r o e a b par =
        row_near_even f (λ (n : ℕ). n) f.width 0 (i - 2) (min (i + 3) f.height) (greens f) green taken.wide row.held r i k (r * f.width) o e a b par
        (omega (arith, count_is row.gradient_row)) (omega arith)
        ∙ ap (λ (s : ℕ). around f.height f.width (greens f) i (s + 2 * k) o (pos 0)) (sym row.gradient_row.start)

    south : get_or green (below * f.width + k) (pos 0) ≡ around f.height f.width (greens f) i (c + 2 * k) (pos 2) (pos 0)
    south =
        let near = near_south f.height i 2 taken.tall inside in
        off below (pos 2) row.two_below (omega (arith, row.two_below)) (omega (arith, row.two_below))
        (ap (λ (r : ℕ). r % 2) row.two_below ∙ south_even f.height i 1 taken.tall)

    north : get_or green (above * f.width + k) (pos 0) ≡ around f.height f.width (greens f) i (c + 2 * k) (neg_ℤ (pos 2)) (pos 0)
    north =
        let near = near_north f.height i 2 taken.tall inside in
        off above (neg_ℤ (pos 2)) (row.two_above ∙ ap (reflect f.height) (north_step i 2)) (omega (arith, row.two_above))
        (omega (arith, row.two_above)) (ap (λ (r : ℕ). r % 2) row.two_above ∙ north_even f.height i 1 taken.tall)

    east : get_or l (k + 5) (pos 0) ≡ around f.height f.width (greens f) i (c + 2 * k) (pos 0) (pos 2)
    east = beside (k + 5) (pos 2) (omega arith) (omega (arith, row.gradient_row.sites)) (on_two c k)

    west : get_or l (k + 3) (pos 0) ≡ around f.height f.width (greens f) i (c + 2 * k) (pos 0) (neg_ℤ (pos 2))
    west = beside (k + 3) (neg_ℤ (pos 2)) (omega arith) (omega (arith, row.gradient_row.sites)) (back_two c k)

    four_two_off : directions (straight_read l green (below * f.width) (above * f.width) k)
        ≡ straight 2 (around f.height f.width (greens f) i (c + 2 * k))
    unfolding straight
    four_two_off = directions_path east west south north

    around_small : (r o : ℤ) → nat_abs (around f.height f.width (greens f) i (c + 2 * k) r o) ≤ 8184
    unfolding greens mosaic highest_sample
    around_small r o = around_size f taken.tall taken.wide 8184 (greens f)
        (green_difference_size f taken.tall taken.wide taken.ranged) i (c + 2 * k) r o

    values_small : AtMost 8184 (sizes (directions (straight_read l green (below * f.width) (above * f.width) k)))
    values_small = record {
      east_most = rw east (around_small (pos 0) (pos 2));
      west_most = rw west (around_small (pos 0) (neg_ℤ (pos 2)));
      south_most = rw south (around_small (pos 2) (pos 0));
      north_most = rw north (around_small (neg_ℤ (pos 2)) (pos 0));
    }

    D_is : get_or l (k + 4) (pos 0) ≡ greens f i (c + 2 * k)
    D_is =
        half_near f.width c (4 - 1) (half_count f.width c + 4 + 1) (greens f i) l half (k + 4) (c + 2 * k) (pos 0) (omega arith)
        (omega (arith, row.gradient_row.sites)) (here c k)
        ∙ ap (greens f i) (reflect_here f.width (c + 2 * k) taken.wide (site_inside row.gradient_row k low))

    D_small : nat_abs (get_or l (k + 4) (pos 0)) ≤ 8184
    unfolding greens highest_sample
    D_small =
        rw D_is (green_difference_size f taken.tall taken.wide taken.ranged i (c + 2 * k) inside (site_inside row.gradient_row k low))

  pub values_fit : ValuesFit 8184 count (straight_read l green (below * f.width) (above * f.width))
  values_fit = record { each = values_small }

  pub differences_fit : Sized 8192 4 (count + 4) l
  differences_fit = by_sites (λ k h. le_trans (D_small k h) (lit≤ tt))

  module _ (east south : ℕ) (e : east ≡ place_in_ring i * record_size f.width) (s : south ≡ place_in_ring i * record_size f.width + south_part f.width) (m : List ℤ)
      (means : Entries (pos 0) 2064 4 (count + 4)
      (λ (x : ℕ). straight_mean_read work east south n l green (below * f.width) (above * f.width) (x - 4)) m) where
    mean_at : (k : ℕ) → k < count → get_or m (k + 4) (pos 0) ≡ straight_mean_read work east south n l green (below * f.width) (above * f.width) k
    mean_at k h =
        let back : k + 4 - 4 ≡ k = omega arith in
        means.at (k + 4) (omega arith) (omega arith)
        ∙ ap (straight_mean_read work east south n l green (below * f.width) (above * f.width)) back

    pub means_fit : Sized 8192 4 (count + 4) m
    means_fit = by_sites (λ k h. rw (mean_at k h) (le_trans (mean_under_size 8184 _ _ _ (values_small k h)) (lit≤ tt)))

    M_is : (k : ℕ) → k < count → get_or m (k + 4) (pos 0) ≡ mean_two_off (mosaic f) i (c + 2 * k)
    unfolding mean_two_off greens mosaic
    M_is k h = mean_at k h ∙ ap₂ (mean_under straight_gradients) (gradients_are row.gradient_row east south e s k h) (four_two_off k h)

    pub finals_stored : {at a : ℕ} {old new : List ℤ} → at ≡ a
        → Wrote (pos 0) at count (λ (k : ℕ). fused fusion_share (get_or l (k + 4) (pos 0)) (get_or m (k + 4) (pos 0))) old new
        → Wrote (pos 0) a (chroma_count f i) (chroma_row f (finals f) i) old new
    unfolding chroma_row finals final_difference greens mosaic
    finals_stored p w = rw (← p) (wrote_as w (count_is row.gradient_row) (λ k h.
        ap₂ (fused fusion_share) (D_is k h) (M_is k h) ∙ ap (λ (x : ℕ). finals f i (x + 2 * k)) row.gradient_row.start))
