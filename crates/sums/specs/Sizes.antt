-- Sizes of the numbers that the sums are formed from, and of the sums. Assumes nothing.
use Rattle.std.specs.Prelude.{◌≡◌, refl, List, ℕ, ◌+◌, ◌*◌, ◌-◌, ◌<◌, ◌≤◌, min, ℤ, pos, nat_abs, ◌+ℤ◌, get_or}
use Rattle.std.proofs.Common.{sym, ◌∙◌, ap, arith}
use Rattle.toolkit.specs.Differences.{as_difference}
use Rattle.toolkit.specs.Orders.{to_naturals}
use Rattle.toolkit.specs.Entries.{Entries}
use Rattle.frame.specs.Sites.{Frame, highest_sample}
use Rattle.method.specs.Gradients.{apart}
use Rattle.method.specs.Green.{Direction}
use Rattle.method.proofs.Sizes.{trial_difference_size}
use Rattle.positions.specs.Taken.{Taken}
use Rattle.positions.specs.Columns.{column_at}
use Rattle.positions.specs.ColumnLaws.{column_lt}
use Rattle.positions.specs.HalfRows.{chroma_start, chroma_count, Half}
use Rattle.positions.specs.HalfRowLaws.{chroma_small, count_column, chroma_count_is}
use Rattle.records.specs.Quantities.{trials}
use Rattle.half_rows.specs.Reading.{size_read}
use Rattle.half_rows.specs.Beside.{entry_of_row}
use Rattle.half_rows.specs.Sources.{Sized}
use Rattle.sums.specs.Sums.{with_columns, with_rows, HeldNear, RowNear}
use Rattle.sums.specs.Nearby.{counts_alike}
use Rattle.sums.specs.Gaps.{apart_most}

pub sized_as : {m n lo hi l h : ℕ} {row : List ℤ} → Sized m lo hi row → m ≤ n → lo ≤ l → h ≤ hi → Sized n l h row
sized_as s a b c = record { each = λ x p q. omega (arith, s.each x (omega arith) (omega arith)) }

pub entries_sized : {m n lo hi : ℕ} {g : ℕ → ℤ} {row : List ℤ} → Entries (pos 0) n lo hi g row
    → ((x : ℕ) → lo ≤ x → x < hi → nat_abs (g x) ≤ m) → Sized m lo hi row
entries_sized e l = record { each = λ x a b. size_read _ (e.at x a b) (l x a b) }

module _ (f : Frame) (t : Taken f) (k : Direction) where
  trial_most : (i j : ℕ) → i < f.height → j < f.width → nat_abs (trials f k i j) ≤ 32760
  unfolding trials highest_sample
  trial_most i j a b = omega (arith, trial_difference_size f t.tall t.wide t.ranged k i j a b)

  -- a half row of r_k
  pub row_sized : {lo hi : ℕ} (c i : ℕ) (row : List ℤ) → i < f.height → Half f.width c lo hi (trials f k i) row → Sized 32760 lo hi row
  row_sized c i row l h = record {
    each = λ x a b. size_read _ (h.at x a b) (trial_most i (column_at f.width (c + 2 * x)) l (column_lt f.width (c + 2 * x) t.wide));
  }

  -- the first n numbers of a row of a plane of r_k, an even number of rows off row i
  pub plane_sized : (i r a n : ℕ) (plane : List ℤ) → HeldNear f i (trials f k) plane → RowNear f.height i r → n ≡ chroma_count f i
      → a ≡ r * f.width → Sized 32760 a (a + n) plane
  plane_sized i r a n plane held near m e = record {
    each = λ x b d.
        let place : a + (x - a) ≡ x = omega arith in
        let inside : x - a < chroma_count f r = omega (arith, counts_alike f i r near.even) in
        size_read _
        (ap (λ (y : ℕ). get_or plane y (pos 0)) (sym place)
        ∙ entry_of_row f (λ (n : ℕ). n) f.width 0 (i - 8) (min (i + 9) f.height) (trials f k) plane t.wide held r (x - a) a
        near.low near.high inside (omega arith))
        (trial_most r (chroma_start f.phase r + 2 * (x - a)) (omega (arith, near.high))
        (count_column f.width (chroma_start f.phase r) (x - a) (chroma_small f.phase r)
        (omega (arith, chroma_count_is f r (chroma_start f.phase r) refl))));
  }

-- ---- the sums

two_more : (m : ℕ) (s x y z : ℤ) → nat_abs s ≤ m → nat_abs x ≤ 32760 → nat_abs y ≤ 32760 → nat_abs z ≤ 32760
    → nat_abs (s +ℤ pos (apart x y) +ℤ pos (apart x z)) ≤ m + 131040
two_more m s x y z a b c d = go s (apart x y) (apart x z) a (apart_most x y b c) (apart_most x z b d)
  where
    go : (s : ℤ) (p q : ℕ) → nat_abs s ≤ m → p ≤ 65520 → q ≤ 65520 → nat_abs (s +ℤ pos p +ℤ pos q) ≤ m + 131040
    go s p q = rw (as_difference s) (simp to_naturals (omega arith))

pub columns_most : {m : ℕ} (t n : ℕ) {row : List ℤ} (old : ℕ → ℤ) → t ≤ 4 → Sized 32760 0 (n + 8) row
    → (x : ℕ) → 4 ≤ x → x < n + 4 → nat_abs (old x) ≤ m → nat_abs (with_columns row t old x) ≤ m + 131040
unfolding with_columns
columns_most {m} t n {row} old h r x a b s =
    two_more m (old x) (get_or row x (pos 0)) (get_or row (x - t) (pos 0)) (get_or row (x + t) (pos 0)) s (r.each x (omega arith) (omega arith))
    (r.each (x - t) (omega arith) (omega arith)) (r.each (x + t) (omega arith) (omega arith))

pub rows_most : {m up down : ℕ} (n : ℕ) {row plane : List ℤ} (old : ℕ → ℤ) → Sized 32760 4 (n + 4) row → Sized 32760 up (up + n) plane
    → Sized 32760 down (down + n) plane
    → (x : ℕ) → 4 ≤ x → x < n + 4 → nat_abs (old x) ≤ m → nat_abs (with_rows row plane up down old x) ≤ m + 131040
unfolding with_rows
rows_most {m} {up} {down} n {row} {plane} old r u d x a b s =
    two_more m (old x) (get_or row x (pos 0)) (get_or plane (up + (x - 4)) (pos 0)) (get_or plane (down + (x - 4)) (pos 0)) s (r.each x a b)
    (u.each (up + (x - 4)) (omega arith) (omega arith)) (d.each (down + (x - 4)) (omega arith) (omega arith))
