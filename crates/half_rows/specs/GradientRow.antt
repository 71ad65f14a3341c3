-- The gradients of the red and blue sites of a row, as `SiteGradients::at` reads them. Assumes nothing.
use Rattle.std.specs.Prelude.{◌≡◌, refl, List, ℕ, ◌+◌, ◌*◌, ◌-◌, ◌<◌, ◌≤◌, ℤ, pos, length}
use Rattle.std.proofs.Common.{sym, ◌∙◌, ap, arith}
use Rattle.toolkit.specs.Entries.{Entries}
use Rattle.frame.specs.Sites.{Frame}
use Rattle.method.specs.Gradients.{mosaic, gradients_at}
use Rattle.method.specs.Four.{directions, sizes, listed}
use Rattle.method.proofs.Sizes.{listed_naturals}
use Rattle.positions.specs.Rings.{place_in_ring}
use Rattle.positions.specs.HalfRows.{chroma_start, half_count, chroma_count}
use Rattle.positions.specs.HalfRowLaws.{chroma_small, count_column, count_high, count_half, count_most, chroma_count_is}
use Rattle.records.specs.Layout.{record_size, south_part, final_part, other_part}
use Rattle.records.specs.Stages.{Gradients, Lent}
use Rattle.half_rows.specs.Sources.{north_entry, four_entries, GradientsFit}
use Rattle.half_rows.specs.SiteGradients.{gradients_most, record_end, work_most, site_gradients_first}

-- row i, its red and blue sites, and its N in a half row
pub record GradientRow (f : Frame) (i base c count : ℕ) (tops work n : List ℤ) : Type 0 where
  pub lent : Lent f i base tops work
  pub gradients : Gradients f (i - 2) (i + 1) tops work
  pub start : c ≡ chroma_start f.phase i
  pub sites : count ≡ half_count f.width c
  pub north_row : Entries (pos 0) 2064 4 (count + 4) (λ (x : ℕ). north_entry tops work f.width i (0 + (x - 4))) n

-- ---- room

module _ {f : Frame} {i base c count : ℕ} {tops work : List ℤ} (lent : Lent f i base tops work) (start : c ≡ chroma_start f.phase i)
    (sites : count ≡ half_count f.width c) where
  pub sites_few : count ≤ 2048
  sites_few = omega (arith, count_most f.width c lent.taken.narrow)

  pub sites_inside : 0 + count ≤ f.width
  sites_inside = omega (arith, count_high f.width c)

  pub final_room : {at : ℕ} → at ≡ place_in_ring i * record_size f.width + final_part f.width → at + count ≤ length work
  final_room e = omega (arith, count_half f.width c, lent.taken.wide, record_end f i base tops work lent)

  pub other_room : {at : ℕ} → at ≡ place_in_ring i * record_size f.width + other_part f.width → at + count ≤ length work
  other_room e = omega (arith, count_half f.width c, lent.taken.wide, record_end f i base tops work lent)

module _ {f : Frame} {i base c count : ℕ} {tops work n : List ℤ} (row : GradientRow f i base c count tops work n) where
  pub start_small : c ≤ 1
  start_small = rw row.start (chroma_small f.phase i)

  pub count_is : count ≡ chroma_count f i
  count_is = row.sites ∙ chroma_count_is f i c row.start

  pub count_few : count ≤ 2048
  count_few = omega (arith, row.sites, count_most f.width c row.lent.taken.narrow)

  pub site_inside : (k : ℕ) → k < count → c + 2 * k < f.width
  site_inside k h = count_column f.width c k start_small (omega (arith, row.sites))

  module _ (east south : ℕ) (e : east ≡ place_in_ring i * record_size f.width) (s : south ≡ place_in_ring i * record_size f.width + south_part f.width) where
    pub four_are : (k : ℕ) → k < count → four_entries work east south n k ≡ listed (gradients_at (mosaic f) i (c + 2 * k))
    four_are k h =
        site_gradients_first f i tops work row.gradients n east south count 0 k e s count_is refl row.north_row (omega (arith, count_is))
        ∙ ap (λ (x : ℕ). listed (gradients_at (mosaic f) i (x + 2 * k))) (sym row.start)

    pub gradients_are : (k : ℕ) → k < count → sizes (directions (four_entries work east south n k)) ≡ gradients_at (mosaic f) i (c + 2 * k)
    gradients_are k h = ap (λ (l : List ℤ). sizes (directions l)) (four_are k h)

    pub gradients_fit : GradientsFit count east south work n
    gradients_fit = record {
      few = count_few;
      east_in = omega (arith, e, row.sites, count_high f.width c, row.lent.taken.wide, record_end f i base tops work row.lent);
      south_in = omega (arith, s, row.sites, count_high f.width c, row.lent.taken.wide, record_end f i base tops work row.lent);
      most = work_most f i base tops work row.lent;
      each = λ k h. listed_naturals _ (four_are k h) (gradients_most f i (c + 2 * k) row.lent.taken);
    }
