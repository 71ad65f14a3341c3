-- One step of a sum, along the row and down the column, as half rows hold it. Assumes nothing.
use Rattle.std.specs.Prelude.{◌≡◌, refl, List, ℤ, ◌+ℤ◌, ◌*ℤ◌}
use Rattle.std.proofs.Common.{sym, ◌∙◌, arith}
use Rattle.std.proofs.Math.Path.{ap}
use Prim.Native.Nat.{ℕ, suc, ◌+◌, ◌*◌, ◌-◌, ◌<◌, ◌≤◌, min}
use Rattle.std.proofs.Math.IntN.{pos, negsuc, sub_ℕ}
use Rattle.std.proofs.Math.ListN.{get_or}
use Rattle.toolkit.specs.Differences.{as_difference}
use Rattle.toolkit.specs.Orders.{to_naturals}
use Rattle.toolkit.specs.Entries.{Entries, entries_as}
use Rattle.frame.specs.Sites.{Frame, Around, reflect}
use Rattle.frame.proofs.Reflection.{reflect_here}
use Rattle.method.specs.Gradients.{apart, exchanged}
use Rattle.method.specs.Green.{sum_about, column_sum}
use Rattle.positions.specs.HalfRows.{chroma_start, chroma_count, Half}
use Rattle.positions.specs.Taken.{Taken}
use Rattle.half_rows.specs.Beside.{half_around, row_near_even}
use Rattle.sums.specs.Sums.{with_columns, with_rows, around_entry, HeldNear, RowNear}
use Rattle.sums.specs.Nearby.{near_above, near_below}

-- ---- the entries of a step

here_step : (c x : ℕ) → 4 ≤ x → sub_ℕ (c + 2 * x) 8 ≡ pos (c + 2 * (x - 4)) +ℤ pos 0
here_step c x h = simp to_naturals (omega arith)

west_step : (c x n : ℕ) → 4 ≤ x → suc n ≤ 4 → sub_ℕ (c + 2 * (x - suc n)) 8 ≡ pos (c + 2 * (x - 4)) +ℤ (pos 2 *ℤ negsuc n)
west_step c x n h l = simp to_naturals (omega arith)

east_step : (c x n : ℕ) → 4 ≤ x → sub_ℕ (c + 2 * (x + suc n)) 8 ≡ pos (c + 2 * (x - 4)) +ℤ (pos 2 *ℤ pos (suc n))
east_step c x n h = simp to_naturals (omega arith)

up_step : (i n : ℕ) → sub_ℕ i (2 * suc n) ≡ pos i +ℤ (pos 2 *ℤ negsuc n)
up_step i n = simp to_naturals (omega arith)

-- the middle of a half row that is mirrored
pub middle : (n : ℕ) {g : ℕ → ℤ} {row : List ℤ} → Entries (pos 0) 2064 0 (n + 8) g row → Entries (pos 0) 2064 4 (n + 4) g row
middle n e = entries_as e (omega arith) (omega arith) (λ x a b. refl)

-- ---- the sums

apart_self : (x : ℤ) → apart x x ≡ 0
unfolding apart
apart_self x = rw (as_difference x) (simp to_naturals (omega arith))

pub sum_none : (r : Around ℤ) → column_sum 0 r ≡ 0
unfolding column_sum sum_about
sum_none r = apart_self (r (pos 0) (pos 0))

sum_next : (r : Around ℤ) (n : ℕ) (x w e : ℤ) → x ≡ r (pos 0) (pos 0) → w ≡ r (pos 0) (pos 2 *ℤ negsuc n)
    → e ≡ r (pos 0) (pos 2 *ℤ pos (suc n)) → column_sum n r + apart x w + apart x e ≡ column_sum (suc n) r
unfolding column_sum sum_about
sum_next r n x w e p a b = rw (p, a, b) (omega arith)

-- a sum s of which part is the sum about a site
added : (r : Around ℤ) (n s t d : ℕ) (o x w e : ℤ) → o ≡ pos s → s ≡ column_sum n r + d → t ≡ column_sum (suc n) r + d
    → x ≡ r (pos 0) (pos 0) → w ≡ r (pos 0) (pos 2 *ℤ negsuc n) → e ≡ r (pos 0) (pos 2 *ℤ pos (suc n))
    → o +ℤ pos (apart x w) +ℤ pos (apart x e) ≡ pos t
added r n s t d o x w e p a b q u v = rw p (ap pos (omega (arith, sum_next r n x w e q u v)))

module _ (f : Frame) (taken : Taken f) (i : ℕ) (inside : i < f.height) (q : ℕ → ℕ → ℤ) (n : ℕ) (few : suc n ≤ 4) (x : ℕ) (low : 4 ≤ x)
    (high : x < chroma_count f i + 4) where
  abbrev start : ℕ
  start = chroma_start f.phase i

  beside : {lo hi : ℕ} (row : List ℤ) (y : ℕ) (o : ℤ) → Half f.width start lo hi (q i) row → lo ≤ y → y < hi
      → sub_ℕ (start + 2 * y) 8 ≡ pos (start + 2 * (x - 4)) +ℤ o → get_or row y (pos 0) ≡ around_entry f q i x (pos 0) o
  beside {lo} {hi} row y o h a b e =
      half_around f.height f.width start lo hi q row i h y i (start + 2 * (x - 4)) (pos 0) o a b
      (sym (reflect_here f.height i taken.tall inside)) e

  -- along the row
  pub columns_next : (row : List ℤ) (old : ℕ → ℤ) (s t d : ℕ) → Half f.width start 0 (chroma_count f i + 8) (q i) row → old x ≡ pos s
      → s ≡ column_sum n (around_entry f q i x) + d → t ≡ column_sum (suc n) (around_entry f q i x) + d
      → with_columns row (suc n) old x ≡ pos t
  unfolding with_columns
  columns_next row old s t d h o p e = added (around_entry f q i x) n s t d _ _ _ _ o p e
      (beside row x (pos 0) h (omega arith) (omega arith) (here_step start x low))
      (beside row (x - suc n) (pos 2 *ℤ negsuc n) h (omega arith) (omega arith) (west_step start x n low few))
      (beside row (x + suc n) (pos 2 *ℤ pos (suc n)) h (omega arith) (omega arith) (east_step start x n low))

  -- down the column
  pub rows_next : (row plane : List ℤ) (old : ℕ → ℤ) (up down above below s t d : ℕ)
      → Half f.width start 4 (chroma_count f i + 4) (q i) row
      → HeldNear f i q plane → above ≡ reflect f.height (sub_ℕ i (2 * suc n)) → below ≡ reflect f.height (pos (i + 2 * suc n))
      → up ≡ above * f.width → down ≡ below * f.width → old x ≡ pos s
      → s ≡ column_sum n (exchanged (around_entry f q i x)) + d → t ≡ column_sum (suc n) (exchanged (around_entry f q i x)) + d
      → with_rows row plane up down old x ≡ pos t
  unfolding with_rows
  rows_next row plane old up down above below s t d h held ea eb eu ed o p e =
      added (exchanged (around_entry f q i x)) n s t d _ _ _ _ o p e (beside row x (pos 0) h low high (here_step start x low))
      (off above up (pos 2 *ℤ negsuc n) (near_above f.height i (suc n) above taken.tall inside few ea)
      (ea ∙ ap (reflect f.height) (up_step i n)) eu)
      (off below down (pos 2 *ℤ pos (suc n)) (near_below f.height i (suc n) below taken.tall inside few eb) eb ed)
    where
      off : (r a : ℕ) (o : ℤ) → RowNear f.height i r → r ≡ reflect f.height (pos i +ℤ o) → a ≡ r * f.width
          → get_or plane (a + (x - 4)) (pos 0) ≡ around_entry f q i x o (pos 0)
      off r a o near er ea =
          row_near_even f (λ (n : ℕ). n) f.width 0 (i - 8) (min (i + 9) f.height) q plane taken.wide held r i (x - 4) a o er near.low near.high
          near.even (omega arith) (omega arith)
