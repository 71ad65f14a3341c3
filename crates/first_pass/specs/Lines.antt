-- The estimates less 8·X, as they are formed from five rows of the mosaic, the first of seven, and their size. Assumes nothing.
use Rattle.std.specs.Prelude.{◌≡◌, refl, List, ℕ, ◌+◌, ◌-◌, ◌<◌, ◌≤◌, ℤ, pos, nat_abs, ◌+ℤ◌, ◌-ℤ◌, ◌*ℤ◌, get_or}
use Rattle.std.proofs.Common.{sym, arith}
use Rattle.toolkit.specs.Orders.{to_naturals}
use Rattle.frame.specs.Sites.{highest_sample}
use Rattle.method.specs.Green.{line_estimate, less_eight}

-- from X, the greens on both sides and the Xs two off
unfoldable pub line_difference : ℕ → ℕ → ℕ → ℕ → ℕ → ℤ
line_difference x l r y z = less_eight (line_estimate (pos l) (pos r) (pos x) (pos y) (pos z)) (pos x)

-- along the row at entry at[2], and down its column, at entry j of the rows
abbrev pub across_difference : List ℕ → List ℕ → ℕ → ℤ
across_difference at rows j =
    line_difference (get_or rows (get_or at 2 0 + j) 0) (get_or rows (get_or at 2 0 + j - 1) 0) (get_or rows (get_or at 2 0 + j + 1) 0)
    (get_or rows (get_or at 2 0 + j - 2) 0) (get_or rows (get_or at 2 0 + j + 2) 0)

abbrev pub down_difference : List ℕ → List ℕ → ℕ → ℤ
down_difference at rows j =
    line_difference (get_or rows (get_or at 2 0 + j) 0) (get_or rows (get_or at 1 0 + j) 0) (get_or rows (get_or at 3 0 + j) 0)
    (get_or rows (get_or at 0 0 + j) 0) (get_or rows (get_or at 4 0 + j) 0)

-- the first five rows from the entries of at on lie inside, and their first m entries are samples
pub record SmallRows (m : ℕ) (at rows : List ℕ) : Type 0 where
  pub room : (p : ℕ) → p < 5 → get_or at p 0 + 4112 ≤ 98688
  pub each : (p x : ℕ) → p < 5 → x < m → get_or rows (get_or at p 0 + x) 0 ≤ highest_sample

pub line_is : (x l r y z : ℕ) → pos 4 *ℤ (pos l +ℤ pos r) -ℤ pos 4 *ℤ pos x -ℤ pos 2 *ℤ (pos y +ℤ pos z) ≡ line_difference x l r y z
unfolding line_difference less_eight line_estimate
line_is x l r y z = simp to_naturals (omega arith)

pub line_size : (x l r y z : ℕ) → x ≤ highest_sample → l ≤ highest_sample → r ≤ highest_sample → y ≤ highest_sample → z ≤ highest_sample
    → nat_abs (line_difference x l r y z) ≤ 8184
unfolding line_difference less_eight line_estimate highest_sample
line_size x l r y z = simp to_naturals (omega arith)

-- what a line reads, along the row and down the column
module _ (m j : ℕ) (at rows : List ℕ) (s : SmallRows m at rows) where
  along : (x a : ℕ) → x < m → get_or at 2 0 + x ≡ a → get_or rows a 0 ≤ highest_sample
  along x a l e = rw (sym e) (s.each 2 x (omega arith) l)

  pub across_reads : 2 ≤ j → j + 2 < m
      → (get_or rows (get_or at 2 0 + j) 0 ≤ highest_sample) × (get_or rows (get_or at 2 0 + j - 1) 0 ≤ highest_sample)
      × (get_or rows (get_or at 2 0 + j + 1) 0 ≤ highest_sample)
      × (get_or rows (get_or at 2 0 + j - 2) 0 ≤ highest_sample) × (get_or rows (get_or at 2 0 + j + 2) 0 ≤ highest_sample)
  across_reads h l = (
    along j _ (omega arith) refl,
    along (j - 1) _ (omega arith) (omega arith),
    along (j + 1) _ (omega arith) (omega arith),
    along (j - 2) _ (omega arith) (omega arith),
    along (j + 2) _ l (omega arith),
  )

  pub down_reads : j < m
      → (get_or rows (get_or at 2 0 + j) 0 ≤ highest_sample) × (get_or rows (get_or at 1 0 + j) 0 ≤ highest_sample)
      × (get_or rows (get_or at 3 0 + j) 0 ≤ highest_sample)
      × (get_or rows (get_or at 0 0 + j) 0 ≤ highest_sample) × (get_or rows (get_or at 4 0 + j) 0 ≤ highest_sample)
  down_reads l = (
    s.each 2 j (omega arith) l,
    s.each 1 j (omega arith) l,
    s.each 3 j (omega arith) l,
    s.each 0 j (omega arith) l,
    s.each 4 j (omega arith) l,
  )
