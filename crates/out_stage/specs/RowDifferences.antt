-- From the half rows that are copied and mirrored and from the rows of means to both differences of a row. Assumes nothing.
use Rattle.std.specs.Prelude.{◌≡◌, refl, List, ℕ, ◌+◌, ◌*◌, ◌-◌, ◌<◌, ◌≤◌, min, ℤ, pos}
use Rattle.std.proofs.Common.{◌∙◌, ap, arith}
use Rattle.toolkit.specs.Entries.{Entries, entries_as}
use Rattle.frame.specs.Sites.{Frame, frame}
use Rattle.frame.specs.Colours.{trade}
use Rattle.frame.specs.declared.Shape.{Shape}
use Rattle.method.specs.Gradients.{mosaic}
use Rattle.method.specs.Planes.{colour_difference}
use Rattle.positions.specs.Rings.{place_in_ring}
use Rattle.positions.specs.HalfRows.{chroma_start, half_count, chroma_count, Half}
use Rattle.positions.specs.HalfRowLaws.{chroma_small, count_column, both_counts, chroma_count_is}
use Rattle.records.specs.Layout.{record_size, final_part, other_part}
use Rattle.records.specs.Quantities.{finals, others}
use Rattle.records.specs.Stages.{ChromaKept, OutReads}
use Rattle.records.specs.SiteColours.{row_colour}
use Rattle.half_rows.specs.Mirror.{mirrored}
use Rattle.half_rows.specs.Beside.{half_of_row}
use Rattle.half_rows.specs.Sources.{north_entry}
use Rattle.out_rows.specs.declared.Places.{Places}
use Rattle.out_rows.specs.RowPlaces.{Placed}
use Rattle.out_rows.specs.DirectMeans.{own_mean, other_mean, DirectReads}
use Rattle.out_stage.specs.DirectReads.{start_small, rest_green, direct_reads, own_means, other_means}
use Rattle.out_stage.specs.OutRows.{ChromaHalf, Copied, Mirrored, WideHalf, RowDifferences}
use Rattle.out_stage.specs.HalfLaws.{half_as, half_made}

-- the columns of both halves lie in the row
pub chroma_columns : (f : Frame) (i k : ℕ) → k < chroma_count f i → chroma_start f.phase i + 2 * k < f.width
unfolding chroma_count
chroma_columns f i k h = count_column f.width (chroma_start f.phase i) k (chroma_small f.phase i) h

pub green_columns : (f : Frame) (i k : ℕ) → 2 ≤ f.width → k < f.width - chroma_count f i → 1 - chroma_start f.phase i + 2 * k < f.width
unfolding chroma_count
green_columns f i k w h =
    let s = chroma_small f.phase i in
    count_column f.width (1 - chroma_start f.phase i) k (omega arith)
    (omega (arith, both_counts f.width (chroma_start f.phase i) s w))

module _ (shape : Shape) (zs : List ℕ) (i : ℕ) (p : Places) (placed : Placed shape i p) (base : ℕ) (tops work : List ℤ)
    (reads : OutReads (frame shape zs) i base tops work) where
  -- a part of the row's own record, copied and mirrored
  row_half : (q : ℕ → ℕ → ℤ) (o a : ℕ) (copied row : List ℤ)
      → ChromaKept (frame shape zs) o (i - 1) (min (i + 2) shape.height) q work
      → a ≡ place_in_ring i * record_size shape.width + o → Copied p work a copied
      → Mirrored shape.width p copied row
      → WideHalf shape.width p (q i) row
  row_half q o a copied row held e c m =
      let lent = reads.reads.lent in
      mirrored shape.width p.start lent.taken.wide (start_small shape zs i p placed) 3 (half_count shape.width p.start + 4 + 1) (q i)
      copied row
      (half_of_row (frame shape zs) place_in_ring (record_size shape.width) o (i - 1) (min (i + 2) shape.height) q work lent.taken.wide held i p.start a
      p.count copied (omega arith) (omega (arith, lent.inside)) placed.start_is placed.count_is e c) m

  -- its middle
  middle_half : (q : ℕ → ℕ → ℤ) {row : List ℤ} → WideHalf shape.width p (q i) row
      → ChromaHalf (frame shape zs) i q row
  middle_half q h =
      half_as shape.width (q i) placed.start_is (chroma_count_is (frame shape zs) i p.start placed.start_is)
      (entries_as h (omega arith) (omega arith) (λ x l k. refl))

  module _ (n own_copied own other_copied other : List ℤ)
      (norths : Entries (pos 0) 2064 4 (p.rest + 4) (λ (x : ℕ). north_entry tops work shape.width i (p.count + (x - 4))) n)
      (oc : Copied p work p.here.finals own_copied)
      (om : Mirrored shape.width p own_copied own)
      (tc : Copied p work p.here.others other_copied)
      (tm : Mirrored shape.width p other_copied other) where
    own_half : WideHalf shape.width p (finals (frame shape zs) i) own
    own_half = row_half (finals (frame shape zs)) (final_part shape.width) _ own_copied own reads.reads.finals_held placed.finals_is oc om

    other_half : WideHalf shape.width p (others (frame shape zs) i) other
    other_half = row_half (others (frame shape zs)) (other_part shape.width) _ other_copied other reads.others_held placed.others_is tc tm

    pub means_asked : DirectReads p work n own other
    means_asked = direct_reads shape zs i p placed base tops work reads n own other norths own_half other_half

    -- a row of means
    green_half : (q : ℕ → ℤ) {g : ℕ → ℤ} {row : List ℤ} → Entries (pos 0) 2064 4 (p.rest + 4) (λ (k : ℕ). g (k - 4)) row
        → ((k : ℕ) → k < p.rest → g k ≡ q (1 - chroma_start shape.phase i + 2 * k))
        → Half shape.width (1 - chroma_start shape.phase i) 4 (shape.width - chroma_count (frame shape zs) i + 4) q row
    green_half q {g} e same =
        let wide = reads.reads.lent.taken.wide in
        let rest = rest_green shape zs i p placed in
        half_as shape.width q refl rest
        (half_made shape.width (1 - chroma_start shape.phase i) wide p.rest q
        (λ k l. green_columns (frame shape zs) i k wide (omega arith)) e
        (λ k l. let back : k + 4 - 4 ≡ k = omega arith in ap g back ∙ same k l))

    pub differences_are : (x y : List ℤ)
        → Entries (pos 0) 2064 4 (p.rest + 4) (λ (k : ℕ). own_mean p work n own (k - 4)) x
        → Entries (pos 0) 2064 4 (p.rest + 4) (λ (k : ℕ). other_mean p work n other (k - 4)) y
        → RowDifferences (frame shape zs) i own other x y
    differences_are x y ex ey = record {
      chroma_own = middle_half (finals (frame shape zs)) own_half;
      chroma_other = middle_half (others (frame shape zs)) other_half;
      green_own = green_half (colour_difference (mosaic (frame shape zs)) (row_colour shape.phase i) i)
          {g = own_mean p work n own} ex
          (own_means shape zs i p placed base tops work reads n own other norths own_half other_half);
      green_other = green_half (colour_difference (mosaic (frame shape zs)) (trade (row_colour shape.phase i)) i)
          {g = other_mean p work n other} ey
          (other_means shape zs i p placed base tops work reads n own other norths own_half other_half);
    }
