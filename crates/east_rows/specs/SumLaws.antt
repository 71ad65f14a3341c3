-- |x − y| and s of naturals, and how large they are. Assumes nothing.
use Rattle.std.specs.Prelude.{◌≡◌, List, ℕ, ◌+◌, ◌*◌, ◌-◌, ◌<◌, ◌≤◌, pos, nat_abs, get_or}
use Rattle.std.specs.Int.{abs_diff}
use Rattle.std.proofs.Common.{◌∙◌, ap, arith}
use Rattle.toolkit.specs.Orders.{to_naturals}
use Rattle.method.specs.Gradients.{apart, taps}
use Rattle.east_rows.specs.RowSums.{Small, pair_of, along_at}

pub apart_naturals : (x y : ℕ) → apart (pos x) (pos y) ≡ (x - y) + (y - x)
unfolding apart
apart_naturals x y = simp to_naturals (omega arith)

-- s, from the sum of what counts once and the sum of what counts twice
pub taps_naturals : (a b c d e f : ℕ)
    → apart (pos (a + c + d + f)) (pos (2 * (b + e))) ≡ nat_abs (taps (pos a) (pos b) (pos c) (pos d) (pos e) (pos f))
unfolding taps apart
taps_naturals a b c d e f = simp to_naturals (omega arith)

-- the same of std's word
pub taps_abs_diff : (a b c d e f : ℕ)
    → abs_diff (a + c + d + f) (2 * (b + e)) ≡ nat_abs (taps (pos a) (pos b) (pos c) (pos d) (pos e) (pos f))
unfolding taps
taps_abs_diff a b c d e f = simp to_naturals (omega arith)

pub taps_most : (a b c d e f : ℕ) → a ≤ 4095 → b ≤ 4095 → c ≤ 4095 → d ≤ 4095 → e ≤ 4095 → f ≤ 4095
    → nat_abs (taps (pos a) (pos b) (pos c) (pos d) (pos e) (pos f)) ≤ 16380
unfolding taps
taps_most a b c d e f = simp to_naturals (omega arith)

pub small_less : {m lo hi l h : ℕ} {row : List ℕ} → Small m lo hi row → lo ≤ l → h ≤ hi → Small m l h row
small_less s p q = record { each = λ x a b. s.each x (omega arith) (omega arith) }

-- the seven samples that a reads
pub seven_small : (z : List ℕ) (k : ℕ) → 2 ≤ k → Small 4095 (k - 2) (k + 5) z
    → (get_or z (k - 2) 0 ≤ 4095) × (get_or z (k - 1) 0 ≤ 4095) × (get_or z k 0 ≤ 4095) × (get_or z (k + 1) 0 ≤ 4095) × (get_or z (k + 2) 0 ≤ 4095)
    × (get_or z (k + 3) 0 ≤ 4095) × (get_or z (k + 4) 0 ≤ 4095)
seven_small z k h s = (
  s.each (k - 2) (omega arith) (omega arith),
  s.each (k - 1) (omega arith) (omega arith),
  s.each k (omega arith) (omega arith),
  s.each (k + 1) (omega arith) (omega arith),
  s.each (k + 2) (omega arith) (omega arith),
  s.each (k + 3) (omega arith) (omega arith),
  s.each (k + 4) (omega arith) (omega arith),
)

pub along_most : (z : List ℕ) (k : ℕ) → 2 ≤ k → Small 4095 (k - 2) (k + 5) z → along_at z k ≤ 32760
unfolding along_at
along_most z k h s =
    let n = seven_small z k h s in
    omega (
      arith,
      taps_most _ _ _ _ _ _ n.0 n.1 n.2 n.3 n.4 n.5,
      taps_most _ _ _ _ _ _ n.1 n.2 n.3 n.4 n.5 n.6,
    )

-- seven samples, from two entries before entry k on
module _ (z y : List ℕ) (k : ℕ) (cut : (p : ℕ) → p < 7 → get_or y p 0 ≡ get_or z (k - 2 + p) 0) (low : 2 ≤ k) where
  pub cut_small : Small 4095 (k - 2) (k + 5) z → Small 4095 0 7 y
  cut_small s = record { each = λ p a b. rw (cut p b) (s.each (k - 2 + p) (omega arith) (omega arith)) }

  pub cut_pair : pair_of y ≡ along_at z k
  unfolding pair_of along_at
  cut_pair =
      rw (
        at 0 (k - 2) (omega arith) (omega arith),
        at 1 (k - 1) (omega arith) (omega arith),
        at 2 k (omega arith) (omega arith),
        at 3 (k + 1) (omega arith) (omega arith),
        at 4 (k + 2) (omega arith) (omega arith),
        at 5 (k + 3) (omega arith) (omega arith),
        at 6 (k + 4) (omega arith) (omega arith),
      )
    where
      at : (p x : ℕ) → p < 7 → k - 2 + p ≡ x → get_or y p 0 ≡ get_or z x 0
      at p x h e = cut p h ∙ ap (λ (n : ℕ). get_or z n 0) e
