-- N of a frame's row, from the seven rows about the one two rows up. Assumes nothing.
use Rattle.std.specs.Prelude.{◌≡◌, refl, List, ℕ, ◌+◌, ◌*◌, ◌-◌, ◌<◌, ◌≤◌, ℤ, neg_ℤ, nat_abs, ◌+ℤ◌, get_or}
use Rattle.std.proofs.Common.{◌∙◌, arith}
use Rattle.std.proofs.Math.Path.{ap}
use Rattle.std.proofs.Math.IntN.{pos, sub_ℕ}
use Rattle.toolkit.specs.Orders.{to_naturals}
use Rattle.toolkit.specs.Entries.{Entries}
use Rattle.toolkit.specs.Writes.{Wrote, wrote_then, wrote_as}
use Rattle.frame.specs.Sites.{Frame, highest_sample, reflect}
use Rattle.method.specs.Gradients.{mosaic, samples_around, exchanged, gradients, gradients_at, west_gradient}
use Rattle.positions.specs.Taken.{Taken}
use Rattle.positions.specs.HalfRows.{chroma_start, half_count, half_column, in_halves}
use Rattle.positions.specs.HalfRowLaws.{first_half, second_half, half_column_lt, count_high, chroma_small}
use Rattle.records.specs.Quantities.{norths}
use Rattle.records.specs.GradientAlike.{eastbound_alike}
use Rattle.records.specs.Neighbours.{start_two_down}
use Rattle.mosaic_rows.specs.LoadedRows.{Seven}
use Rattle.mosaic_rows.specs.LoadLaws.{loaded_ranged}
use Rattle.mosaic_rows.specs.Around.{column_off, seven_around}
use Rattle.south_rows.specs.SevenRows.{seven_rows, north_at, SmallRows, SouthReads}
use Rattle.south_rows.specs.SevenRowLaws.{at_place, entry_here, entry_west, entry_east}

-- of the seven rows, the one at at[n] is n − 4 rows down from the one at at[4]
place_of : (n : ℕ) → nat_abs (neg_ℤ (pos 2) +ℤ sub_ℕ n 2 +ℤ pos 4) ≡ n
place_of n = simp to_naturals (omega arith)

row_of : (x n : ℕ) → sub_ℕ (x + n) 4 ≡ pos x +ℤ (neg_ℤ (pos 2) +ℤ sub_ℕ n 2)
row_of x n = simp to_naturals (omega arith)

pub seven_small : {f : Frame} {x : ℕ} {at rows : List ℕ} → Taken f → Seven f x at rows → SmallRows (f.width + 16) at rows
unfolding highest_sample
seven_small {f} {x} {at} {rows} t s = record {
  each = λ p k a b. (
    omega (arith, s.inside p a, t.narrow),
    omega (arith, loaded_ranged f (reflect f.height (sub_ℕ (x + p) 4)) (get_or at p 0) k rows t (s.place p a) b),
  );
}

module _ (f : Frame) (x : ℕ) (at rows : List ℕ) (s : Seven f x at rows) (j : ℕ) where
  -- entry k, where column k − 8 is column j + c
  cell : (k : ℕ) (c : ℤ) → nat_abs (pos (j + 8) +ℤ c) ≡ k → sub_ℕ k 8 ≡ pos j +ℤ c → k < f.width + 16 → (n : ℕ) → n ≤ 6
      → seven_rows rows at (j + 8) (neg_ℤ (pos 2) +ℤ sub_ℕ n 2) c ≡ samples_around (mosaic f) x j (neg_ℤ (pos 2) +ℤ sub_ℕ n 2) c
  cell k c a e h n l =
      at_place rows at (j + 8) n k (neg_ℤ (pos 2) +ℤ sub_ℕ n 2) c (place_of n) a
      ∙ seven_around f x j (neg_ℤ (pos 2) +ℤ sub_ℕ n 2) c x n k at rows s (omega arith) h (row_of x n) e

  -- N(x,j) stands at entry j + 8
  north_of : j < f.width → north_at rows at (j + 8) ≡ (gradients_at (mosaic f) x j).north
  unfolding north_at gradients_at gradients west_gradient
  north_of h = eastbound_alike (exchanged (seven_rows rows at (j + 8))) (exchanged (samples_around (mosaic f) x j)) (neg_ℤ (pos 2)) (neg_ℤ (pos 2))
      (cell (j + 7) (neg_ℤ (pos 1)) (entry_west (j + 8) (omega arith) ∙ omega arith) (column_off j 7) (omega arith))
      (cell (j + 8) (pos 0) (entry_here (j + 8)) (column_off j 8) (omega arith))
      (cell (j + 9) (pos 1) (entry_east (j + 8) ∙ omega arith) (column_off j 9) (omega arith))

module _ (f : Frame) (x c : ℕ) (at rows : List ℕ) (reads : SouthReads f x c at rows) (gradients : List ℤ)
    (formed : Entries (pos 0) 4112 8 (f.width + 8) (λ (k : ℕ). pos (north_at rows at k)) gradients) where
  -- entry k of the row in halves stands at entry m of the row
  half_entry : (k m : ℕ) → k < f.width → m ≡ half_column f.width c k + 8 → get_or gradients m (pos 0) ≡ in_halves f (norths f) x k
  unfolding in_halves norths
  half_entry k m h e =
      formed.at m (omega arith) (omega (arith, inside))
      ∙ (ap (λ (n : ℕ). pos (north_at rows at n)) e
      ∙ (ap pos (north_of f x at rows reads.seven (half_column f.width c k) inside)
      ∙ ap (λ (d : ℕ). pos (gradients_at (mosaic f) x (half_column f.width d k)).north) reads.start))
    where
      inside : half_column f.width c k < f.width
      inside = half_column_lt f.width c k (rw reads.start (chroma_small f.phase x)) reads.taken.wide h

  -- the row, from its halves as they are stored
  pub halves_stored : {to n : ℕ} {old mid new : List ℤ} → n ≡ half_count f.width c
      → Wrote (pos 0) to n (λ (k : ℕ). get_or gradients (c + 8 + 2 * k) (pos 0)) old mid
      → Wrote (pos 0) (to + n) (f.width - n) (λ (k : ℕ). get_or gradients (9 - c + 2 * k) (pos 0)) mid new
      → Wrote (pos 0) to f.width (in_halves f (norths f) x) old new
  halves_stored {to} {n} {old} {mid} {new} e a b = wrote_then (wrote_as a refl first) b refl (omega (arith, low)) second
    where
      low : half_count f.width c ≤ f.width
      low = count_high f.width c

      first : (k : ℕ) → k < n → get_or gradients (c + 8 + 2 * k) (pos 0) ≡ in_halves f (norths f) x k
      first k h = half_entry k (c + 8 + 2 * k) (omega (arith, low)) (omega (arith, first_half f.width c k (omega arith)))

      second : (k : ℕ) → k < f.width - n → get_or gradients (9 - c + 2 * k) (pos 0) ≡ in_halves f (norths f) x (n + k)
      second k h =
          half_entry (n + k) (9 - c + 2 * k) (omega (arith, low))
          (omega (arith, ap (λ (m : ℕ). half_column f.width c (m + k)) e, second_half f.width c k, chroma_small f.phase x, reads.start))

-- the rows that serve row i + 2
pub reads_two_down : (i : ℕ) {f : Frame} {c : ℕ} {at rows : List ℕ} → Taken f → c ≡ chroma_start f.phase i → Seven f (i + 2) at rows
    → SouthReads f (i + 2) c at rows
reads_two_down i {f} t e s = record { taken = t; start = e ∙ start_two_down f.phase i; seven = s }
