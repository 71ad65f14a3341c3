-- An entry of a loaded row is the method's sample around a site. Assumes nothing.
use Rattle.std.specs.Prelude.{◌≡◌, List, ℕ, ◌+◌, ◌<◌, ℤ, ◌+ℤ◌, get_or}
use Rattle.std.proofs.Common.{◌∙◌, subst, arith}
use Rattle.std.proofs.Math.Path.{ap}
use Rattle.std.proofs.Math.IntN.{pos, sub_ℕ}
use Rattle.toolkit.specs.Orders.{to_naturals}
use Rattle.frame.specs.Sites.{Frame, sample, reflect, around}
use Rattle.method.specs.Gradients.{mosaic, samples_around}
use Rattle.positions.specs.Columns.{column_at}
use Rattle.mosaic_rows.specs.LoadedRows.{Loaded, Seven}

-- the p-th of the rows i − 2 to i + 4, from 0, is p − 2 rows down from row i
pub row_off : (i p : ℕ) → sub_ℕ (i + 2 + p) 4 ≡ pos i +ℤ sub_ℕ p 2
row_off i p = simp to_naturals (omega arith)

-- entry j + n of a row is the column n − 8 to the right of column j
pub column_off : (j n : ℕ) → sub_ℕ (j + n) 8 ≡ pos j +ℤ sub_ℕ n 8
column_off j n = simp to_naturals (omega arith)

module _ (f : Frame) (i j : ℕ) (r o : ℤ) where
  -- row i + r stands at entry at; its entry x is column j + o
  pub loaded_around : (at x : ℕ) (rows : List ℕ) → Loaded f (reflect f.height (pos i +ℤ r)) at rows → x < f.width + 16
      → sub_ℕ x 8 ≡ pos j +ℤ o → pos (get_or rows (at + x) 0) ≡ samples_around (mosaic f) i j r o
  unfolding mosaic around column_at
  loaded_around at x rows l h e =
      ap pos (l.entry x h) ∙ ap (λ (y : ℤ). pos (sample f (reflect f.height (pos i +ℤ r)) (reflect f.width y))) e

  -- of the rows x − 4 to x + 2, the p-th is row i + r
  pub seven_around : (x p k : ℕ) (at rows : List ℕ) → Seven f x at rows → p < 7 → k < f.width + 16 → sub_ℕ (x + p) 4 ≡ pos i +ℤ r
      → sub_ℕ k 8 ≡ pos j +ℤ o → pos (get_or rows (get_or at p 0 + k) 0) ≡ samples_around (mosaic f) i j r o
  seven_around x p k at rows s h l e =
      loaded_around (get_or at p 0) k rows (subst (λ (y : ℤ). Loaded f (reflect f.height y) (get_or at p 0) rows) e (s.place p h)) l
