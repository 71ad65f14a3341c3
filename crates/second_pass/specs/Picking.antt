-- The second pass picks the difference of the least sum: that is D. Assumes nothing.
use Rattle.std.specs.Prelude.{◌≡◌, Bool, true, false, cond, ◌&&◌, List, ℕ, ◌+◌, ◌*◌, ◌-◌, ◌<◌, ◌≤◌, ltb, ℤ, pos, ◌*ℤ◌, get_or}
use Rattle.std.proofs.Math.Path.{refl, sym, ap}
use Rattle.std.proofs.Common.{◌∙◌}
use native.Mathlib.Omega.{arith}
use Rattle.std.specs.Int.Signed.{lt_z}
use Rattle.toolkit.specs.Writes.{Wrote, wrote_as}
use Rattle.frame.specs.Sites.{Frame, around}
use Rattle.method.specs.Settings.{reach}
use Rattle.method.specs.Gradients.{mosaic, exchanged}
use Rattle.method.specs.Green.{Direction, horizontal, vertical, diagonal, column_sum, horizontal_sum, vertical_sum, diagonal_sum}
use Rattle.method.specs.Green.{less_eight, least_sum, second_pass, second_pass_at, trial_difference}
use Rattle.method.proofs.GreenLaws.{green_is_decided}
use Rattle.method.specs.Planes.{green_difference}
use Rattle.positions.specs.ColumnLaws.{column_inside}
use Rattle.positions.specs.HalfRows.{chroma_start, chroma_count, chroma_row, Half}
use Rattle.positions.specs.HalfRowLaws.{chroma_small, count_column, chroma_count_is}
use Rattle.records.specs.Quantities.{trials, greens}
use Rattle.records.specs.Stages.{ChromaStored}
use Rattle.sums.specs.Sums.{Sums, SumsRead}
use Rattle.second_pass.specs.Picked.{picked, picked_entry}

-- ---- the tests, as the code makes them

-- FH is below both others, or not
pub both_below : {a b : Bool} → a ≡ true → b ≡ true → (a && b) ≡ true
both_below e f = rw (e, f)

pub first_not : {a : Bool} (b : Bool) → a ≡ false → (a && b) ≡ false
first_not b e = rw e

pub second_not : (a : Bool) {b : Bool} → b ≡ false → (a && b) ≡ false
second_not true e = e
second_not false e = refl

module _ {A : Type 0} (FH FV FD : ℤ) (x y z : A) where
  pub picked_first : (lt_z FH FV && lt_z FH FD) ≡ true → x ≡ picked FH FV FD x y z
  unfolding picked
  picked_first e = rw e

  pub picked_second : (lt_z FH FV && lt_z FH FD) ≡ false → (lt_z FV FH && lt_z FV FD) ≡ true → y ≡ picked FH FV FD x y z
  unfolding picked
  picked_second e f = rw (e, f)

  pub picked_third : (lt_z FH FV && lt_z FH FD) ≡ false → (lt_z FV FH && lt_z FV FD) ≡ false → z ≡ picked FH FV FD x y z
  unfolding picked
  picked_third e f = rw (e, f)

-- of numbers as they were read
pub picked_read : {A : Type 0} {FH FV FD a b c : ℤ} {x y z d e f : A} → a ≡ FH → b ≡ FV → c ≡ FD → d ≡ x → e ≡ y → f ≡ z
    → picked a b c d e f ≡ picked FH FV FD x y z
picked_read p q r s t u = rw (p, q, r, s, t, u)

-- ---- what is picked

-- by the least sum
picked_is : {A : Type 0} (r : Direction → A) (a b c : ℕ)
    → picked (pos a) (pos b) (pos c) (r horizontal) (r vertical) (r diagonal) ≡ r (least_sum a b c)
unfolding picked least_sum
picked_is r a b c = by_tests (ltb a b && ltb a c) (ltb b a && ltb b c)
  where
    by_tests : (t u : Bool) → cond t (r horizontal) (cond u (r vertical) (r diagonal)) ≡ r (cond t horizontal (cond u vertical diagonal))
    by_tests true u = refl
    by_tests false true = refl
    by_tests false false = refl

-- the second pass takes the least of the three sums
second_is : (f : Frame) (i j : ℕ) → second_pass_at (mosaic f) i j
    ≡ least_sum (2 * column_sum reach (around f.height f.width (trials f horizontal) i j))
    (2 * column_sum reach (exchanged (around f.height f.width (trials f vertical) i j)))
    (column_sum reach (around f.height f.width (trials f diagonal) i j)
    + column_sum reach (exchanged (around f.height f.width (trials f diagonal) i j)))
unfolding trials second_pass_at second_pass horizontal_sum vertical_sum diagonal_sum mosaic
second_is f i j = refl

-- D is the trial difference that it takes: where the site has its first-pass green, all three are equal to it
green_is : (f : Frame) (i j : ℕ) → greens f i j ≡ trials f (second_pass_at (mosaic f) i j) i j
unfolding greens trials green_difference trial_difference
green_is f i j = ap (λ (g : ℤ). less_eight g ((mosaic f).sample_at i j)) (green_is_decided (mosaic f) i j)

-- what is picked by the sums of a row is that of the direction that the second pass takes
pub picked_as : {A : Type 0} (f : Frame) (i : ℕ) (fh fv fd : List ℤ) → Sums f reach i fh fv fd → (r : Direction → A) (x : ℕ)
    → 4 ≤ x → x < chroma_count f i + 4
    → picked (pos 2 *ℤ get_or fh x (pos 0)) (pos 2 *ℤ get_or fv x (pos 0)) (get_or fd x (pos 0)) (r horizontal) (r vertical) (r diagonal)
    ≡ r (second_pass_at (mosaic f) i (chroma_start f.phase i + 2 * (x - 4)))
picked_as f i fh fv fd sums r x a b =
    picked_read (ap (λ (z : ℤ). pos 2 *ℤ z) (sums.across.at x a b)) (ap (λ (z : ℤ). pos 2 *ℤ z) (sums.down.at x a b)) (sums.both.at x a b)
    refl refl refl
    ∙ (picked_is r _ _ _ ∙ ap r (sym (second_is f i (chroma_start f.phase i + 2 * (x - 4)))))

module _ (f : Frame) (i : ℕ) (diagonals verticals rh rv rd fh fv fd : List ℤ) (read : SumsRead f i diagonals verticals rh rv rd)
    (sums : Sums f reach i fh fv fd) where
  -- the difference of the site itself
  own : {lo hi : ℕ} (k : Direction) (row : List ℤ) (x : ℕ) → Half f.width (chroma_start f.phase i) lo hi (trials f k i) row → lo ≤ x → x < hi
      → 4 ≤ x → x < chroma_count f i + 4 → get_or row x (pos 0) ≡ trials f k i (chroma_start f.phase i + 2 * (x - 4))
  own k row x h a b low high =
      let n = chroma_count_is f i (chroma_start f.phase i) refl in
      let l = count_column f.width (chroma_start f.phase i) (x - 4) (chroma_small f.phase i) (omega arith) in
      h.at x a b
      ∙ ap (trials f k i)
      (column_inside f.width (chroma_start f.phase i + 2 * x) read.planes.taken.wide (omega arith) (omega arith) ∙ omega arith)

  green_entry : (x : ℕ) → 4 ≤ x → x < chroma_count f i + 4 → picked_entry rh rv rd fh fv fd x ≡ greens f i (chroma_start f.phase i + 2 * (x - 4))
  unfolding picked_entry
  green_entry x a b =
      let j = chroma_start f.phase i + 2 * (x - 4) in
      picked_read refl refl refl
      (own horizontal rh x read.across_row (omega arith) (omega arith) a b) (own vertical rv x read.down_row a b a b)
      (own diagonal rd x read.both_row (omega arith) (omega arith) a b)
      ∙ (picked_as f i fh fv fd sums (λ k. trials f k i j) x a b ∙ sym (green_is f i j))

  pub line_stored : (count : ℕ) (old new : List ℤ) → count ≡ chroma_count f i
      → Wrote (pos 0) (i * f.width) count (λ (k : ℕ). picked_entry rh rv rd fh fv fd (k + 4)) old new → ChromaStored f (greens f) i old new
  unfolding chroma_row
  line_stored count old new e w = wrote_as w e (λ k l.
      let same : k + 4 - 4 ≡ k = omega arith in
      green_entry (k + 4) (omega arith) (omega arith) ∙ ap (λ (n : ℕ). greens f i (chroma_start f.phase i + 2 * n)) same)
