-- N as it is formed from the entries of the seven rows. Assumes nothing.
use Rattle.std.specs.Prelude.{◌≡◌, List, ℕ, ◌+◌, ◌-◌, ◌<◌, ◌≤◌, ℤ, pos, negsuc, neg_ℤ, nat_abs, ◌+ℤ◌, get_or}
use Rattle.std.proofs.Math.Path.{refl}
use Rattle.std.proofs.Common.{sym, ◌∙◌, ap, arith}
use Rattle.toolkit.specs.Orders.{to_naturals}
use Rattle.toolkit.specs.Entries.{Entries, entries_as}
use Rattle.method.specs.Gradients.{exchanged, six_tap, six_tap_pair, eastbound, gradients, west_gradient}
use Rattle.east_rows.specs.RowSums.{pair_of}
use Rattle.east_rows.specs.SumLaws.{taps_most}
use Rattle.south_rows.specs.SevenRows.{seven_rows, column_pair, down_pair, north_sum, north_at, SmallEntry, SmallRows}

-- the entries of a column and of those beside it
pub entry_here : (k : ℕ) → nat_abs (pos k +ℤ pos 0) ≡ k
entry_here k = omega arith

pub entry_west : (k : ℕ) → 1 ≤ k → nat_abs (pos k +ℤ neg_ℤ (pos 1)) ≡ k - 1
entry_west k h = simp to_naturals (omega arith)

pub entry_east : (k : ℕ) → nat_abs (pos k +ℤ pos 1) ≡ k + 1
entry_east k = omega arith

module _ (rows at : List ℕ) (k : ℕ) where
  -- entry m of the row at at[p]
  pub at_place : (p m : ℕ) (r c : ℤ) → nat_abs (r +ℤ pos 4) ≡ p → nat_abs (pos k +ℤ c) ≡ m
      → seven_rows rows at k r c ≡ pos (get_or rows (get_or at p 0 + m) 0)
  unfolding seven_rows
  at_place p m r c e d = rw (e, d)

  place : (p : ℕ) (r : ℤ) → nat_abs (r +ℤ pos 4) ≡ p → seven_rows rows at k r (pos 0) ≡ pos (get_or rows (get_or at p 0 + k) 0)
  place p r e = at_place p k r (pos 0) e (entry_here k)

  -- the pair, from where the rows start
  pub pair_is : column_pair rows (get_or at 0 0) (get_or at 1 0) (get_or at 2 0) (get_or at 3 0) (get_or at 4 0) (get_or at 5 0) (get_or at 6 0) k
      ≡ down_pair rows at k
  unfolding column_pair down_pair six_tap_pair six_tap
  pair_is =
      rw (
        place 0 (negsuc 3) refl,
        place 1 (negsuc 2) refl,
        place 2 (negsuc 1) refl,
        place 3 (negsuc 0) refl,
        place 4 (pos 0) refl,
        place 5 (pos 1) refl,
        place 6 (pos 2) refl,
      )

-- the seven samples of a column
pub column_small : (rows at : List ℕ) (k : ℕ) → SmallRows (k + 1) at rows
    → (SmallEntry rows (get_or at 0 0 + k)) × (SmallEntry rows (get_or at 1 0 + k)) × (SmallEntry rows (get_or at 2 0 + k))
    × (SmallEntry rows (get_or at 3 0 + k)) × (SmallEntry rows (get_or at 4 0 + k)) × (SmallEntry rows (get_or at 5 0 + k))
    × (SmallEntry rows (get_or at 6 0 + k))
column_small rows at k s = (
  small 0 (omega arith),
  small 1 (omega arith),
  small 2 (omega arith),
  small 3 (omega arith),
  small 4 (omega arith),
  small 5 (omega arith),
  small 6 (omega arith),
)
  where
    small : (p : ℕ) → p < 7 → SmallEntry rows (get_or at p 0 + k)
    small p h = s.each p k h (omega arith)

-- each of them
module _ (rows at : List ℕ) (k : ℕ) (s : SmallRows (k + 1) at rows) (p : ℕ) (h : p < 7) where
  pub entry_inside : get_or at p 0 + k < 98688
  entry_inside = (s.each p k h (omega arith)).0

  pub entry_small : get_or rows (get_or at p 0 + k) 0 ≤ 4095
  entry_small = (s.each p k h (omega arith)).1

-- the pair, from the samples of a column as a list of their own
pub listed_pair : (rows at y : List ℕ) (k : ℕ) → get_or y 0 0 ≡ get_or rows (get_or at 0 0 + k) 0 → get_or y 1 0 ≡ get_or rows (get_or at 1 0 + k) 0
    → get_or y 2 0 ≡ get_or rows (get_or at 2 0 + k) 0 → get_or y 3 0 ≡ get_or rows (get_or at 3 0 + k) 0
    → get_or y 4 0 ≡ get_or rows (get_or at 4 0 + k) 0 → get_or y 5 0 ≡ get_or rows (get_or at 5 0 + k) 0
    → get_or y 6 0 ≡ get_or rows (get_or at 6 0 + k) 0 → pair_of y ≡ down_pair rows at k
unfolding pair_of column_pair
listed_pair rows at y k a b c d e f g = rw (a, b, c, d, e, f, g) (pair_is rows at k)

pub small_less : {m n : ℕ} {at rows : List ℕ} → SmallRows n at rows → m ≤ n → SmallRows m at rows
small_less s h = record { each = λ p k a b. s.each p k a (omega arith) }

pub pair_small : (rows at : List ℕ) (k : ℕ) → SmallRows (k + 1) at rows → down_pair rows at k ≤ 32760
unfolding column_pair
pair_small rows at k s =
    let c = column_small rows at k s in
    omega (
      arith,
      pair_is rows at k,
      taps_most _ _ _ _ _ _ c.0.1 c.1.1 c.2.1 c.3.1 c.4.1 c.5.1,
      taps_most _ _ _ _ _ _ c.1.1 c.2.1 c.3.1 c.4.1 c.5.1 c.6.1,
    )

-- the pair of the column beside
beside : (rows at : List ℕ) (k m : ℕ) (c : ℤ) → nat_abs (pos k +ℤ c) ≡ m
    → six_tap_pair (exchanged (seven_rows rows at k)) c (neg_ℤ (pos 2)) ≡ down_pair rows at m
unfolding down_pair six_tap_pair six_tap
beside rows at k m c e = simp same
  where
    same : (r : ℤ) → seven_rows rows at k r c ≡ seven_rows rows at m r (pos 0)
    same r = at_place rows at k (nat_abs (r +ℤ pos 4)) m r c refl e ∙ sym (place rows at m (nat_abs (r +ℤ pos 4)) r refl)

module _ (w : ℕ) (rows at v : List ℕ) (pairs : Entries 0 4112 7 (w + 9) (down_pair rows at) v) where
  -- N, from the samples two rows apart and the pairs of three columns
  north_is : (k : ℕ) → 8 ≤ k → k < w + 8 → north_sum rows v (get_or at 2 0) (get_or at 4 0) k ≡ north_at rows at k
  unfolding north_sum north_at gradients west_gradient eastbound
  north_is k low high =
      rw (
        pairs.at k (omega arith) (omega arith),
        pairs.at (k - 1) (omega arith) (omega arith),
        pairs.at (k + 1) (omega arith) (omega arith),
        place rows at k 2 (negsuc 1) refl,
        place rows at k 4 (pos 0) refl,
        beside rows at k k (pos 0) (entry_here k),
        beside rows at k (k - 1) (neg_ℤ (pos 1)) (entry_west k (omega arith)),
        beside rows at k (k + 1) (pos 1) (entry_east k),
      )

  -- a row of such sums
  pub north_formed : {gradients : List ℤ}
      → Entries (pos 0) 4112 8 (w + 8) (λ (k : ℕ). pos (north_sum rows v (get_or at 2 0) (get_or at 4 0) k)) gradients
      → Entries (pos 0) 4112 8 (w + 8) (λ (k : ℕ). pos (north_at rows at k)) gradients
  north_formed e = entries_as e (omega arith) (omega arith) (λ k a b. ap pos (north_is k a b))
