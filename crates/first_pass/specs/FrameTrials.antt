-- The estimates and the trial differences of a frame, from the rows i − 2 to i + 2 of its mosaic, the first five of seven. Assumes nothing.
use Rattle.std.specs.Prelude.{◌≡◌, List, ℕ, ◌+◌, ◌-◌, ◌<◌, ◌≤◌, ℤ, get_or}
use Rattle.std.proofs.Math.Path.{refl}
use Rattle.std.proofs.Common.{sym, ◌∙◌, ap, ap₂, arith}
use Rattle.std.proofs.Math.IntN.{pos, sub_ℕ}
use Rattle.frame.specs.Sites.{Frame, sample, around}
use Rattle.frame.proofs.Reflection.{reflect_here}
use Rattle.method.specs.Gradients.{mosaic, samples_around, gradients_at}
use Rattle.method.specs.Green.{Direction, horizontal, vertical, estimate, horizontal_estimate, less_eight}
use Rattle.method.specs.Settings.{threshold}
use Rattle.method.specs.Green.{first_pass, first_pass_or, outcome_at, green_or, trial_difference}
use Rattle.positions.specs.Taken.{Taken}
use Rattle.mosaic_rows.specs.LoadedRows.{Seven}
use Rattle.mosaic_rows.specs.LoadLaws.{loaded_ranged}
use Rattle.mosaic_rows.specs.Around.{row_off, column_off, seven_around}
use Rattle.first_pass.specs.Lines.{line_difference, across_difference, down_difference, SmallRows}
use Rattle.first_pass.specs.Trials.{tried, own_is}

-- what is loaded are samples
pub loaded_small : (f : Frame) (x m : ℕ) (at rows : List ℕ) → Taken f → Seven f x at rows → m ≤ f.width + 16 → SmallRows m at rows
loaded_small f x m at rows t s h = record {
  room = λ p a. s.inside p (omega arith);
  each = λ p k a b. loaded_ranged f _ (get_or at p 0) k rows t (s.place p (omega arith)) (omega arith);
}

-- gH and gV less 8·X
unfoldable pub own_difference : Frame → Direction → ℕ → ℕ → ℤ
own_difference f d i j = less_eight (estimate d (samples_around (mosaic f) i j)) (samples_around (mosaic f) i j (pos 0) (pos 0))

module _ (f : Frame) (i j : ℕ) (at rows : List ℕ) (s : Seven f (i + 2) at rows) (inside : j < f.width) where
  -- entry j + n of the p-th row
  cell : (p n a : ℕ) → p < 7 → n ≤ 10 → get_or at p 0 + (j + n) ≡ a → pos (get_or rows a 0) ≡ samples_around (mosaic f) i j (sub_ℕ p 2) (sub_ℕ n 8)
  cell p n a h l e =
      ap (λ (y : ℕ). pos (get_or rows y 0)) (sym e)
      ∙ seven_around f i j (sub_ℕ p 2) (sub_ℕ n 8) (i + 2) p (j + n) at rows s h (omega arith) (row_off i p) (column_off j n)

  pub across_of : across_difference at rows (j + 8) ≡ own_difference f horizontal i j
  unfolding line_difference own_difference estimate horizontal_estimate
  across_of =
      rw (
        cell 2 8 (get_or at 2 0 + (j + 8)) (omega arith) (omega arith) refl,
        cell 2 7 (get_or at 2 0 + (j + 8) - 1) (omega arith) (omega arith) (omega arith),
        cell 2 9 (get_or at 2 0 + (j + 8) + 1) (omega arith) (omega arith) (omega arith),
        cell 2 6 (get_or at 2 0 + (j + 8) - 2) (omega arith) (omega arith) (omega arith),
        cell 2 10 (get_or at 2 0 + (j + 8) + 2) (omega arith) (omega arith) (omega arith),
      )

  pub down_of : down_difference at rows (j + 8) ≡ own_difference f vertical i j
  unfolding line_difference own_difference estimate horizontal_estimate
  down_of = rw (column 2 (omega arith), column 1 (omega arith), column 3 (omega arith), column 0 (omega arith), column 4 (omega arith))
    where
      column : (p : ℕ) → p < 7 → pos (get_or rows (get_or at p 0 + (j + 8)) 0) ≡ samples_around (mosaic f) i j (sub_ℕ p 2) (pos 0)
      column p h = cell p 8 (get_or at p 0 + (j + 8)) h (omega arith) refl

sample_here : (f : Frame) (i j : ℕ) → Taken f → i < f.height → j < f.width
    → samples_around (mosaic f) i j (pos 0) (pos 0) ≡ (mosaic f).sample_at i j
unfolding around mosaic
sample_here f i j t h w =
    ap₂ (λ (x y : ℕ). pos (sample f x y)) (reflect_here f.height i t.tall h) (reflect_here f.width j t.wide w)

-- the trial difference of a site, from its gradients and estimates
pub trial_is : (f : Frame) (d : Direction) (i j : ℕ) → Taken f → i < f.height → j < f.width
    → tried d (gradients_at (mosaic f) i j) (own_difference f horizontal i j) (own_difference f vertical i j) ≡ trial_difference (mosaic f) d i j
unfolding tried own_difference trial_difference green_or outcome_at mosaic
trial_is f d i j t h w =
    sym (own_is (first_pass_or (first_pass threshold (gradients_at (mosaic f) i j)) d) (samples_around (mosaic f) i j)
    (samples_around (mosaic f) i j (pos 0) (pos 0)))
    ∙ ap (less_eight (estimate (first_pass_or (first_pass threshold (gradients_at (mosaic f) i j)) d) (samples_around (mosaic f) i j)))
    (sample_here f i j t h w)
