-- What `trial_row` reads and stores, for the frame whose rows are loaded. Assumes nothing.
use Rattle.std.specs.Prelude.{◌≡◌, ℕ, ◌+◌, ◌*◌, ◌-◌, ◌<◌, ◌≤◌, ℤ, pos, nat_abs, get_or}
use Rattle.std.proofs.Common.{◌∙◌, arith}
use Rattle.std.proofs.Math.Path.{ap}
use mathlib.Core.List.{List}
use Rattle.toolkit.specs.Entries.{Entries}
use Rattle.toolkit.specs.Writes.{Wrote, wrote_as}
use Rattle.frame.specs.Sites.{Frame}
use Rattle.method.specs.Gradients.{FourDirections, mosaic, gradients_at}
use Rattle.method.specs.Four.{directions, sizes}
use Rattle.method.specs.Settings.{threshold}
use Rattle.method.specs.Green.{Direction, first_pass, outcome_at}
use Rattle.positions.specs.Rings.{place_in_ring}
use Rattle.positions.specs.HalfRows.{half_count, chroma_row}
use Rattle.positions.specs.HalfRowLaws.{chroma_small}
use Rattle.records.specs.Layout.{record_size, south_part}
use Rattle.records.specs.Quantities.{trials, first_code, first_codes}
use Rattle.records.specs.Stages.{ChromaStored, CodesStored}
use Rattle.half_rows.specs.Sources.{north_entry}
use Rattle.half_rows.specs.GradientRow.{GradientRow, count_is, site_inside, four_are, gradients_are, gradients_fit}
use Rattle.first_pass.specs.Lines.{across_difference, down_difference, SmallRows, across_reads, down_reads, line_size}
use Rattle.first_pass.specs.Trials.{tried, site_trial, site_code, TrialReads}
use Rattle.first_pass.specs.FrameTrials.{loaded_small, across_of, down_of, trial_is}
use Rattle.first_stage.specs.FirstStage.{TrialsRead}

pub start_low : (f : Frame) (i base c : ℕ) (at rows : List ℕ) (tops work : List ℤ) → TrialsRead f i base c at rows tops work → c ≤ 1
start_low f i base c at rows tops work r = rw r.start (chroma_small f.phase i)

-- the rows that the lines read
pub lines_small : (f : Frame) (i base c count : ℕ) (at rows : List ℕ) (tops work : List ℤ) → TrialsRead f i base c at rows tops work
    → count ≡ half_count f.width c → SmallRows (c + 2 * count + 9) at rows
unfolding half_count
lines_small f i base c count at rows tops work r e =
    loaded_small f (i + 2) (c + 2 * count + 9) at rows r.lent.taken r.seven
    (omega (arith, r.lent.taken.wide, r.start, chroma_small f.phase i))

module _ (f : Frame) (i base c count east south : ℕ) (at rows : List ℕ) (tops work n a b : List ℤ) (r : TrialsRead f i base c at rows tops work)
    (ec : count ≡ half_count f.width c) (ee : east ≡ place_in_ring i * record_size f.width)
    (es : south ≡ place_in_ring i * record_size f.width + south_part f.width)
    (norths_row : Entries (pos 0) 2064 4 (count + 4) (λ (x : ℕ). north_entry tops work f.width i (0 + (x - 4))) n)
    (across_row : Entries (pos 0) 2064 4 (count + 4) (λ (x : ℕ). across_difference at rows (c + 2 * (x - 4) + 8)) a)
    (down_row : Entries (pos 0) 2064 4 (count + 4) (λ (x : ℕ). down_difference at rows (c + 2 * (x - 4) + 8)) b) where
  gradient_row : GradientRow f i base c count tops work n
  gradient_row = record { lent = r.lent; gradients = r.gradients; start = r.start; sites = ec; north_row = norths_row }

  module _ (k : ℕ) (inside : k < count) where
    column_inside : c + 2 * k < f.width
    column_inside = site_inside gradient_row k inside

    across_at : get_or a (k + 4) (pos 0) ≡ across_difference at rows (c + 2 * k + 8)
    across_at =
        let back : k + 4 - 4 ≡ k = omega arith in
        across_row.at (k + 4) (omega arith) (omega arith) ∙ ap (λ (x : ℕ). across_difference at rows (c + 2 * x + 8)) back

    down_at : get_or b (k + 4) (pos 0) ≡ down_difference at rows (c + 2 * k + 8)
    down_at =
        let back : k + 4 - 4 ≡ k = omega arith in
        down_row.at (k + 4) (omega arith) (omega arith) ∙ ap (λ (x : ℕ). down_difference at rows (c + 2 * x + 8)) back

    across_size : nat_abs (get_or a (k + 4) (pos 0)) ≤ 8184
    across_size =
        let lines = lines_small f i base c count at rows tops work r ec in
        let s = across_reads (c + 2 * count + 9) (c + 2 * k + 8) at rows lines (omega arith) (omega arith) in
        rw across_at (line_size _ _ _ _ _ s.0 s.1 s.2 s.3 s.4)

    down_size : nat_abs (get_or b (k + 4) (pos 0)) ≤ 8184
    down_size =
        let s = down_reads (c + 2 * count + 9) (c + 2 * k + 8) at rows (lines_small f i base c count at rows tops work r ec) (omega arith) in
        rw down_at (line_size _ _ _ _ _ s.0 s.1 s.2 s.3 s.4)

    trial_at : (d : Direction) → site_trial d work east south n a b k ≡ chroma_row f (trials f d) i k
    unfolding chroma_row trials
    trial_at d =
        ap (λ (g : List ℤ). tried d (sizes (directions g)) (get_or a (k + 4) (pos 0)) (get_or b (k + 4) (pos 0)))
        (four_are gradient_row east south ee es k inside)
        ∙ (same (across_at ∙ across_of f i (c + 2 * k) at rows r.seven column_inside)
        (down_at ∙ down_of f i (c + 2 * k) at rows r.seven column_inside)
        ∙ (trial_is f d i (c + 2 * k) r.lent.taken r.lent.inside column_inside
        ∙ ap (λ (x : ℕ). trials f d i (x + 2 * k)) r.start))
      where
        same : {x y u v : ℤ} → x ≡ u → y ≡ v
            → tried d (gradients_at (mosaic f) i (c + 2 * k)) x y ≡ tried d (gradients_at (mosaic f) i (c + 2 * k)) u v
        same p q = rw (p, q)

    code_at : site_code work east south n k ≡ chroma_row f (first_codes f) i k
    unfolding chroma_row first_codes outcome_at mosaic
    code_at =
        ap (λ (g : FourDirections ℕ). first_code (first_pass threshold g)) (gradients_are gradient_row east south ee es k inside)
        ∙ ap (λ (x : ℕ). first_codes f i (x + 2 * k)) r.start

  pub trial_reads : TrialReads east south count work n a b
  trial_reads = record {
    gradients = gradients_fit gradient_row east south ee es;
    across_small = across_size;
    down_small = down_size;
  }

  pub trials_stored : (d : Direction) {old new : List ℤ} → Wrote (pos 0) (i * f.width) count (site_trial d work east south n a b) old new
      → ChromaStored f (trials f d) i old new
  trials_stored d w = wrote_as w (count_is gradient_row) (λ k h. trial_at k h d)

  pub codes_stored : {old new : List ℕ} → Wrote 0 (i * f.width) count (site_code work east south n) old new → CodesStored f i old new
  codes_stored w = wrote_as w (count_is gradient_row) code_at
