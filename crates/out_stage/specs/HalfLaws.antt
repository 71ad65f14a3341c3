-- Half rows of a quantity: made of entries, told otherwise, formed from others, and woven to a row. Assumes nothing.
use Rattle.std.specs.Prelude.{◌≡◌, List, ℕ, ◌+◌, ◌*◌, ◌-◌, ◌/◌, ◌%◌, ◌<◌, ◌≤◌, eqb, ℤ, pos, nat_abs, get_or}
use Rattle.std.proofs.Common.{sym, ◌∙◌, ap, arith}
use Rattle.toolkit.specs.Tests.{by_test, eqb_eq, eqb_ne}
use Rattle.toolkit.specs.Entries.{Entries, entries_as}
use Rattle.frame.specs.Sites.{Frame, sample}
use Rattle.positions.specs.Columns.{column_at}
use Rattle.positions.specs.ColumnLaws.{column_inside, column_lt}
use Rattle.positions.specs.HalfRows.{half_count, Half}
use Rattle.positions.specs.HalfRowLaws.{column_parity}
use Rattle.mosaic_rows.specs.LoadedRows.{Loaded}
use Rattle.half_rows.specs.Sources.{Sized}
use Rattle.out_rows.specs.Woven.{woven}

-- the same half row, its start and its count told otherwise
pub half_as : (W : ℕ) (q : ℕ → ℤ) {c d n m : ℕ} {row : List ℤ} → c ≡ d → n ≡ m → Half W c 4 (n + 4) q row → Half W d 4 (m + 4) q row
half_as W q e k h = rw (← e, ← k) h

module _ (W c : ℕ) (wide : 2 ≤ W) where
  -- site k stands at entry k + 4
  pub half_made : (n : ℕ) (q : ℕ → ℤ) {g : ℕ → ℤ} {row : List ℤ} → ((k : ℕ) → k < n → c + 2 * k < W) → Entries (pos 0) 2064 4 (n + 4) g row
      → ((k : ℕ) → k < n → g (k + 4) ≡ q (c + 2 * k)) → Half W c 4 (n + 4) q row
  half_made n q {g} inside e same = entries_as e (omega arith) (omega arith) (λ x l h.
      let back : x ≡ x - 4 + 4 = omega arith in
      let i : c + 2 * (x - 4) < W = inside (x - 4) (omega arith) in
      ap g back ∙ (same (x - 4) (omega arith) ∙ ap q (sym (column_inside W (c + 2 * x) wide (omega arith) (omega arith) ∙ omega arith))))

  -- another quantity that is the same at its columns
  pub half_same : {lo hi : ℕ} {q q' : ℕ → ℤ} {row : List ℤ} → ((j : ℕ) → j < W → j % 2 ≡ c % 2 → q j ≡ q' j)
      → Half W c lo hi q row → Half W c lo hi q' row
  half_same same e =
      entries_as e (omega arith) (omega arith) (λ x l h. same (column_at W (c + 2 * x)) (column_lt W (c + 2 * x) wide) (column_parity W c x wide))

  -- formed entry by entry from three half rows
  pub half_of_three : (op : ℤ → ℤ → ℤ → ℤ) (p q r : ℕ → ℤ) {lo hi : ℕ} {a b d row : List ℤ} → Half W c lo hi p a
      → Half W c lo hi q b → Half W c lo hi r d
      → Entries (pos 0) 2064 lo hi (λ (x : ℕ). op (get_or a x (pos 0)) (get_or b x (pos 0)) (get_or d x (pos 0))) row
      → Half W c lo hi (λ (j : ℕ). op (p j) (q j) (r j)) row
  half_of_three op p q r ha hb hd e = entries_as e (omega arith) (omega arith) (λ x l h.
      same (ha.at x l h) (hb.at x l h) (hd.at x l h))
    where
      same : {x y z x' y' z' : ℤ} → x ≡ x' → y ≡ y' → z ≡ z' → op x y z ≡ op x' y' z'
      same e f g = rw (e, f, g)

  pub half_bounded : (m n : ℕ) (q : ℕ → ℤ) {row : List ℤ} → ((j : ℕ) → j < W → nat_abs (q j) ≤ m) → Half W c 4 (n + 4) q row → Sized m 4 (n + 4) row
  half_bounded m n q small e = record { each = λ x l h. rw (e.at x l h) (small (column_at W (c + 2 * x)) (column_lt W (c + 2 * x) wide)) }

-- the samples of a loaded row
pub samples_half : (f : Frame) (i at c n : ℕ) {rows : List ℕ} {row : List ℤ} → Loaded f i at rows → ((k : ℕ) → k < n → c + 2 * k < f.width)
    → Entries (pos 0) 2064 4 (n + 4) (λ (x : ℕ). pos (get_or rows (at + (c + 2 * (x - 4) + 8)) 0)) row
    → Half f.width c 4 (n + 4) (λ (j : ℕ). pos (sample f i j)) row
samples_half f i at c n {rows} loaded inside e = entries_as e (omega arith) (omega arith) (λ x l h.
    let place : at + (c + 2 * (x - 4) + 8) ≡ at + (c + 2 * x) = omega arith in
    let j : c + 2 * (x - 4) < f.width = inside (x - 4) (omega arith) in
    ap (λ (y : ℕ). pos (get_or rows y 0)) place ∙ ap pos (loaded.entry (c + 2 * x) (omega arith)))

first_place : (W c j : ℕ) → c ≤ 1 → j % 2 ≡ c → j < W → j / 2 < half_count W c
unfolding half_count
first_place W c j s q h = omega arith

second_place : (W c j : ℕ) → c ≤ 1 → ¬ (j % 2 ≡ c) → j < W → j / 2 < W - half_count W c
unfolding half_count
second_place W c j s o h = omega (arith, o)

second_column : (c j : ℕ) → c ≤ 1 → ¬ (j % 2 ≡ c) → 1 - c + 2 * (j / 2 + 4) ≡ j + 8
second_column c j s o = omega (arith, o)

-- a quantity whose two half rows are woven
pub woven_half : (W c : ℕ) (q : ℕ → ℤ) (u v : List ℤ) (j : ℕ) → 2 ≤ W → c ≤ 1 → Half W c 4 (half_count W c + 4) q u
    → Half W (1 - c) 4 (W - half_count W c + 4) q v → j < W → woven c u v j ≡ q j
unfolding woven
woven_half W c q u v j wide s hu hv h = by_test (eqb (j % 2) c) _
    (λ t.
    let e : j % 2 ≡ c = eqb_eq (j % 2) c t in
    let l : j / 2 < half_count W c = first_place W c j s e h in
    let a : c + 2 * (j / 2 + 4) ≡ j + 8 = omega arith in
    rw t (hu.at (j / 2 + 4) (omega arith) (omega arith) ∙ ap q (ap (column_at W) a ∙ back)))
    (λ t.
    let l : j / 2 < W - half_count W c = second_place W c j s (eqb_ne t) h in
    rw t (hv.at (j / 2 + 4) (omega arith) (omega arith) ∙ ap q (ap (column_at W) (second_column c j s (eqb_ne t)) ∙ back)))
  where
    back : column_at W (j + 8) ≡ j
    back = column_inside W (j + 8) wide (omega arith) (omega arith) ∙ omega arith
