-- Laws of `mirror`: a reflected entry is read in the middle of the half row. Assumes nothing.
use Rattle.std.specs.Prelude.{◌≡◌, refl, List, ℤ, pos, set}
use Rattle.std.proofs.Common.{◌∙◌}
use Rattle.std.proofs.Math.Path.{ap}
use Prim.Native.Nat.{ℕ, ◌+◌, ◌*◌, ◌-◌, ◌/◌, ◌<◌, ◌≤◌}
use native.Mathlib.Omega.{arith}
use Rattle.std.proofs.Math.ListN.{get_or}
use Rattle.frame.specs.Sites.{reflect}
use Rattle.toolkit.specs.Entries.{Entries, entries_as, entries_front, entries_next}
use Rattle.positions.specs.Columns.{column_at}
use Rattle.positions.specs.ColumnLaws.{column_is, column_inside, column_lt}
use Rattle.positions.specs.HalfRows.{half_count, Half}
use Rattle.positions.specs.HalfRowLaws.{count_column, seat_of, column_parity}
use Rattle.half_rows.specs.Sources.{source_entry}

module _ (W c : ℕ) (w : 2 ≤ W) (small : c ≤ 1) where
  pub source_middle : (x : ℕ) → 4 ≤ x → x < half_count W c + 4 → source_entry W c x ≡ x
  unfolding source_entry
  source_middle x a b =
      let l : c + 2 * (x - 4) < W = count_column W c (x - 4) small (omega arith) in
      ap (λ (n : ℕ). (n - c) / 2 + 4) (column_inside W (c + 2 * x) w (omega arith) (omega arith)) ∙ omega arith

  pub source_west : (k s : ℕ) → 1 ≤ k → k ≤ 4 → s ≡ (reflect W (pos (2 * k - c)) - c) / 2 → s + 4 ≡ source_entry W c (4 - k)
  unfolding source_entry
  source_west k s a b e = rw (e, column_is W (c + 2 * (4 - k)) (2 * k - c) w (omega arith))

  pub source_east : (k n s : ℕ) → 1 ≤ k → 1 ≤ n → s ≡ (reflect W (pos (c + 2 * (n - 1 + k))) - c) / 2
      → s + 4 ≡ source_entry W c (n + 3 + k)
  unfolding source_entry
  source_east k n s a b e = rw (e, column_is W (c + 2 * (n + 3 + k)) (c + 2 * (n - 1 + k)) w (omega arith))

  -- the middle is as it was
  pub middle_kept : (lo hi y : ℕ) (old row : List ℤ)
      → Entries (pos 0) 2064 lo hi (λ (x : ℕ). get_or old (source_entry W c x) (pos 0)) row → lo ≤ 4
      → half_count W c + 4 ≤ hi → y < half_count W c → get_or row (y + 4) (pos 0) ≡ get_or old (y + 4) (pos 0)
  middle_kept lo hi y old row e p q h =
      e.at (y + 4) (omega arith) (omega arith) ∙ ap (λ (n : ℕ). get_or old n (pos 0)) (source_middle (y + 4) (omega arith) (omega arith))

  -- a half row of a quantity, mirrored
  pub mirrored : (lo hi : ℕ) (q : ℕ → ℤ) (old row : List ℤ) → Half W c 4 (half_count W c + 4) q old
      → Entries (pos 0) 2064 lo hi (λ (x : ℕ). get_or old (source_entry W c x) (pos 0)) row → Half W c lo hi q row
  unfolding source_entry
  mirrored lo hi q old row h e = entries_as e (omega arith) (omega arith) one
    where
      one : (x : ℕ) → lo ≤ x → x < hi → get_or old ((column_at W (c + 2 * x) - c) / 2 + 4) (pos 0) ≡ q (column_at W (c + 2 * x))
      one x a b =
          let j = column_at W (c + 2 * x) in
          let s = seat_of W c j small (column_lt W (c + 2 * x) w) (column_parity W c x w) in
          let k : ℕ = (j - c) / 2 in
          h.at (k + 4) (omega arith) (omega (arith, s.2))
          ∙ ap q (column_inside W (c + 2 * (k + 4)) w (omega arith) (omega (arith, s.1, column_lt W (c + 2 * x) w)) ∙ (omega (arith, s.1)))

  -- one turn of the loop: a reflected entry on each side
  pub mirror_step : (old row : List ℤ) (k n a b : ℕ) (u v : ℤ) → n ≡ half_count W c → 1 ≤ n → n ≤ 2048 → 1 ≤ k → k ≤ 4
      → Entries (pos 0) 2064 (5 - k) (n + 3 + k) (λ (x : ℕ). get_or old (source_entry W c x) (pos 0)) row
      → (a ≡ (reflect W (pos (2 * k - c)) - c) / 2) × (a < half_count W c) → u ≡ get_or row (a + 4) (pos 0)
      → (b ≡ (reflect W (pos (c + 2 * (n - 1 + k))) - c) / 2) × (b < half_count W c) → v ≡ get_or (set row (4 - k) u) (b + 4) (pos 0)
      → Entries (pos 0) 2064 (5 - (k + 1)) (n + 3 + (k + 1)) (λ (x : ℕ). get_or old (source_entry W c x) (pos 0))
      (set (set row (4 - k) u) (n + 3 + k) v)
  mirror_step old row k n a b u v e n1 n2 k1 k4 inv p eu q ev =
      let front = entries_front {i = 4 - k} inv (omega arith) (omega arith)
      (eu
      ∙ (middle_kept (5 - k) (n + 3 + k) a old row inv (omega arith) (omega arith) p.1
      ∙ ap (λ (x : ℕ). get_or old x (pos 0)) (source_west k a k1 k4 p.0))) in
      entries_as (entries_next front (omega arith) refl
      (ev
      ∙ (middle_kept (4 - k) (n + 3 + k) b old (set row (4 - k) u) front (omega arith) (omega arith) q.1
      ∙ ap (λ (x : ℕ). get_or old x (pos 0)) (source_east k n b k1 n1 q.0))))
      (omega arith) (omega arith) (λ x l h. refl)
