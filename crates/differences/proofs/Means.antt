-- Numbers formed site by site are the entries of a half row. Assumes nothing.
use native.Mathlib.Omega.{arith}
use Rattle.std.proofs.Common.{◌≡◌, subst, List, ℕ, ◌+◌, ◌-◌, ◌<◌, ℤ, pos, length, get_or}
use Rattle.toolkit.specs.Entries.{Entries}

-- site k stands at entry k + 4
pub site_of : (k : ℕ) → k + 4 - 4 ≡ k
site_of k = omega arith

pub means_of : {n : ℕ} {f : ℕ → ℤ} {m : List ℤ} → length m ≡ 2064 → ((k : ℕ) → k < n → get_or m (k + 4) (pos 0) ≡ f (k + 4))
    → Entries (pos 0) 2064 4 (n + 4) f m
means_of {n} {f} {m} size formed = record {
  size = size;
  at = λ x low high.
      let entry : x - 4 + 4 ≡ x = omega arith in
      subst (λ (y : ℕ). get_or m y (pos 0) ≡ f y) entry (formed (x - 4) (omega arith));
}
