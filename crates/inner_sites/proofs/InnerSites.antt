-- Document 02, A3: "the proofs show that every position read for it lies in the frame", for a site 20 or more rows and columns from every
-- edge. Over the method: each step's positions, and that nothing farther off counts. Over the code: the row numbers. The columns are in
-- `RowReads` and `HalfRowReads`. No hypothesis but the distance to the edges. Assumes nothing.
use Rattle.std.specs.Prelude.{◌≡◌, refl, ℕ, ◌+◌, ◌-◌, ◌≤◌, ℤ, nat_abs, ◌+ℤ◌}
use Rattle.std.proofs.Common.{sym, ◌∙◌}
use Rattle.std.proofs.Math.Path.{ap}
use native.Mathlib.Omega.{arith}
use Rattle.std.proofs.Math.IntN.{pos}
use contract.Lifetimes.{Lfts}
use borrow.Fn.Kinds.{ended_of}
use denote.Triple.Clauses.{AtExit}
use mir.Val.{Fits}
use mir.Syntax.{w64}
use Rattle.positions.proofs.row_near.Kinds as row_near_kinds
use Rattle.positions.proofs.row_near.Reads as row_near_contract
use Rattle.positions.specs.declared.TheConstants.{OUT_OFF, DIAGONAL_OFF, ENHANCE_OFF, SECOND_OFF, FIRST_OFF}
use Rattle.positions.proofs.edge_row.Reads as edge_row_contract
use Rattle.toolkit.specs.Differences.{as_difference}
use Rattle.toolkit.specs.Orders.{to_naturals}
use Rattle.frame.specs.Sites.{Frame, Colour, around}
use Rattle.frame.specs.InnerSites.{Inner}
use Rattle.frame.proofs.InnerSites.{inner_near, read_as_written}
use Rattle.method.specs.Settings.{reach}
use Rattle.method.specs.Gradients.{mosaic}
use Rattle.method.specs.Planes.{less_black, number_at, entry_at}
use Rattle.method.proofs.Sizes.{usual_allowed}
use Rattle.method.proofs.PlaneLaws.{number_is_output, entry_is_code}
use Rattle.inner_sites.specs.Distances.{gradient_distance, second_pass_distance, enhancement_distance, corner_distance, neighbour_distance, differences_off, finals_off, greens_off, trials_off, reading_distance}
use Rattle.inner_sites.proofs.StepDistances.{distances_in_figures, within_margin}
use Rattle.inner_sites.specs.FarSites.{FarFromEdges, Near, ReadAsWritten, StepAsWritten, StepsAsWritten, SameWindow}
use Rattle.inner_sites.proofs.Surroundings.{written_near, InnerSite, Alike}
use Rattle.inner_sites.proofs.Stages.{output_alike, entry_alike}

reach_few : reach ≤ 4
reach_few = usual_allowed.reach_high

-- a position that is read for an inner one, off away or less
inner_off : {n i : ℕ} (off x : ℕ) → Inner n 0 i → Near off i x → Inner n off x
inner_off off x inner near = inner_near off x off (omega arith) inner near.not_before near.not_behind

module _ (f : Frame) (i j : ℕ) (far : FarFromEdges f i j) where
  inner_row : Inner f.height 0 i
  inner_row = record { before = omega (arith, far.rows_above); behind = omega (arith, far.rows_below) }

  inner_column : Inner f.width 0 j
  inner_column = record { before = omega (arith, far.columns_west); behind = omega (arith, far.columns_east) }

  inner_site : InnerSite (mosaic f) 0 i j
  unfolding mosaic
  inner_site = record {
    tall = omega (arith, far.rows_below);
    wide = omega (arith, far.columns_east);
    row = inner_row;
    column = inner_column;
  }

  step_as_written : (off d : ℕ) → off + d ≤ reading_distance reach → StepAsWritten f off d i j
  step_as_written off d h x y nx ny r c hr hc = (
    read_as_written r (omega (arith, far.rows_below)) (inner_off off x inner_row nx) (omega (arith, within_margin reach reach_few)),
    read_as_written c (omega (arith, far.columns_east)) (inner_off off y inner_column ny)
        (omega (arith, within_margin reach reach_few)),
  )

  -- "every position read for it lies in the frame", at every step
  pub every_step_as_written : StepsAsWritten f i j
  unfolding reading_distance trials_off greens_off finals_off differences_off
  every_step_as_written = record {
    neighbours = step_as_written 0 neighbour_distance (omega arith);
    corners = step_as_written differences_off corner_distance (omega arith);
    enhancement = step_as_written finals_off enhancement_distance (omega arith);
    second_pass = step_as_written greens_off (second_pass_distance reach) (omega arith);
    gradients = step_as_written (trials_off reach) gradient_distance (omega arith);
    samples = step_as_written 0 (reading_distance reach) (omega arith) i j here here;
  }
    where
      here : {x : ℕ} → Near 0 x x
      here = record { not_before = omega arith; not_behind = omega arith }

-- ---- nothing farther off counts

-- where two sites lie apart, so do the positions that are written alike from them
written_apart : (x y i i' : ℕ) (r : ℤ) → pos x ≡ pos i +ℤ r → pos y ≡ pos i' +ℤ r → x + i' ≡ y + i
written_apart x y i i' r = rw (as_difference r) (simp to_naturals (omega arith))

module _ (f f' : Frame) (i j i' j' : ℕ) (far : FarFromEdges f i j) (far' : FarFromEdges f' i' j') (same : SameWindow f f' i j i' j') where
  module _ (r c : ℤ) (hr : nat_abs r + 0 ≤ reading_distance reach) (hc : nat_abs c + 0 ≤ reading_distance reach) where
    here : ReadAsWritten f (reading_distance reach) i j
    here = (every_step_as_written f i j far).samples

    there : ReadAsWritten f' (reading_distance reach) i' j'
    there = (every_step_as_written f' i' j' far').samples

    -- what is the same at all sites of the window is the same where it is read, r rows and c columns off
    window_read : {X : Type 0} (q q' : ℕ → ℕ → X)
        → ((x y x' y' : ℕ) → x + i' ≡ x' + i → y + j' ≡ y' + j → Near (reading_distance reach) i x → Near (reading_distance reach) j y → q x y ≡ q' x' y')
        → around f.height f.width q i j r c ≡ around f'.height f'.width q' i' j' r c
    unfolding around
    window_read q q' e =
        let a = here r c (omega arith) (omega arith) in
        let b = there r c (omega arith) (omega arith) in
        let row = written_near i _ r a.0 in
        let column = written_near j _ c a.1 in
        e _ _ _ _ (written_apart _ _ i i' r a.0 b.0) (written_apart _ _ j j' c a.1 b.1)
        (record { not_before = omega arith; not_behind = omega arith }) (record { not_before = omega arith; not_behind = omega arith })

  window_alike : Alike reach (mosaic f) (mosaic f') 0 i j i' j'
  unfolding mosaic
  window_alike = record {
    settings_same = refl;
    reach_is = refl;
    reach_few = reach_few;
    inside = inner_site f i j far;
    inside' = inner_site f' i' j' far';
    samples = λ r c hr hc. window_read r c hr hc _ _ (λ x y x' y' a b n o. ap pos (same.samples x y x' y' a b n o));
    colours = λ r c hr hc. window_read r c hr hc _ _ same.colours;
  }

  pub nothing_farther_counts : (b : ℕ) (c : Colour) → number_at f b c i j ≡ number_at f' b c i' j'
  nothing_farther_counts b c =
      number_is_output f b c i j (omega (arith, far.rows_below)) (omega (arith, far.columns_east))
      ∙ ap (less_black b) (output_alike _ _ _ _ _ _ window_alike c)
      ∙ sym (number_is_output f' b c i' j' (omega (arith, far'.rows_below)) (omega (arith, far'.columns_east)))

  pub nothing_farther_decides : entry_at f i j ≡ entry_at f' i' j'
  nothing_farther_decides =
      entry_is_code f i j (omega (arith, far.rows_below)) (omega (arith, far.columns_east)) ∙ entry_alike _ _ _ _ _ _ window_alike
      ∙ sym (entry_is_code f' i' j' (omega (arith, far'.rows_below)) (omega (arith, far'.columns_east)))

-- ---- the row numbers of the code, by the contracts of positions `row_near` and `edge_row` at a distance off, a constant
-- of the call. A call is given h, x, down and up

module _ (off : ℕ) (fits : Fits w64 off) (κs : Lfts 1) (h x down up : ℕ) where
  -- where row x is read for a row i that is far from both edges, off rows away or less, `row_near` answers by adding and subtracting
  pub rows_by_adding : (r : ℕ) (s : AtExit (ended_of 1 (row_near_kinds.ps off fits) (row_near_kinds.r off fits)) κs)
      → row_near_contract.Learnt off fits κs (h, (x, (down, (up, tt)))) r s → (i : ℕ) → Inner h 0 i → Near off i x → r ≡ x + down - up
  rows_by_adding r s learnt i inner near = learnt.1 (inner_off _ _ inner near)

  -- and `edge_row`, the one function of rows that reflects, is never asked for it
  pub never_reflected : edge_row_contract.Asked off fits κs (h, (x, (down, (up, tt)))) → (i : ℕ) → Inner h 0 i → ¬ (Near off i x)
  never_reflected asked i inner near = asked.1.4 (inner_off _ _ inner near)

-- ---- at the constants by which the stages call them: how far from the row that a stage hands over the site may stand for
-- which it reads there. First hands over the row two below its own, and its top line the row itself

-- row y is read for a row i that is far from both edges, d rows away or less: for the row `below` rows under it, at the
-- constant off, what reflects is never asked
abbrev NeverReflects : ℕ → ℕ → ℕ → Type 0
NeverReflects off below d =
    (fits : Fits w64 off) (κs : Lfts 1) (h y down up : ℕ) → edge_row_contract.Asked off fits κs (h, (y + below, (down, (up, tt))))
    → (i : ℕ) → Inner h 0 i → ¬ (Near d i y)

-- each stage, by how far from a site what it leaves is read
pub record StagesNeverReflect : Type 0 where
  pub out : NeverReflects OUT_OFF 0 0
  pub diagonal : NeverReflects DIAGONAL_OFF 0 differences_off
  pub enhance : NeverReflects ENHANCE_OFF 0 finals_off
  pub second : NeverReflects SECOND_OFF 0 greens_off
  pub first : NeverReflects FIRST_OFF 2 (trials_off reach)
  pub tops : NeverReflects FIRST_OFF 0 (trials_off reach)

never_at : (off below d : ℕ) → d + below ≤ off → NeverReflects off below d
never_at off below d few fits κs h y down up asked i inner near =
    never_reflected off fits κs h (y + below) down up asked i inner
    (record { not_before = omega (arith, near.not_before); not_behind = omega (arith, near.not_behind) })

-- so no stage calls what reflects for a row that is read for a site far from every edge
pub stages_never_reflect : StagesNeverReflect
stages_never_reflect =
    let figures = distances_in_figures in record {
      out = never_at OUT_OFF 0 0 (omega arith);
      diagonal = never_at DIAGONAL_OFF 0 differences_off (omega arith);
      enhance = never_at ENHANCE_OFF 0 finals_off (omega arith);
      second = never_at SECOND_OFF 0 greens_off (omega arith);
      first = never_at FIRST_OFF 2 (trials_off reach) (omega arith);
      tops = never_at FIRST_OFF 0 (trials_off reach) (omega arith);
    }
