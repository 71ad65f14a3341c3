-- E reads three rows, from two columns west to four columns east: where they are the same, E is the same. Assumes nothing.
use Rattle.std.specs.Prelude.{◌≡◌, ℕ, suc, ◌+◌, ◌≤◌, ℤ, neg_ℤ, ◌+ℤ◌}
use Rattle.std.proofs.Math.Path.{sym, ap, ap₂}
use Rattle.std.proofs.Common.{◌∙◌, arith}
use Rattle.std.proofs.Math.IntN.{pos, nat_abs, sub_ℕ}
use Rattle.toolkit.specs.Differences.{as_difference}
use Rattle.toolkit.specs.Orders.{to_naturals}
use Rattle.frame.specs.Sites.{Around}
use Rattle.method.specs.Gradients.{six_tap, six_tap_pair, eastbound}

-- row r of Y about column x is row r of Z about column y
abbrev pub Alike : Around ℤ → Around ℤ → ℤ → ℤ → ℤ → Type 0
Alike Y Z r x y = (n : ℕ) → n ≤ 6 → Y r (x +ℤ sub_ℕ n 2) ≡ Z r (y +ℤ sub_ℕ n 2)

no_step : (x : ℤ) → x +ℤ pos 0 ≡ x
no_step x = rw (as_difference x) (simp to_naturals (omega arith))

one_step : (x : ℤ) (n : ℕ) → x +ℤ pos 1 +ℤ sub_ℕ n 2 ≡ x +ℤ sub_ℕ (suc n) 2
one_step x n = rw (as_difference x) (simp to_naturals (omega arith))

module _ (Y Z : Around ℤ) where
  here_alike : (r x y : ℤ) → Alike Y Z r x y → Y r x ≡ Z r y
  here_alike r x y h = ap (Y r) (sym (no_step x)) ∙ (h 2 (omega arith) ∙ ap (Z r) (no_step y))

  tap_alike : (r x y : ℤ) → ((n : ℕ) → n ≤ 5 → Y r (x +ℤ sub_ℕ n 2) ≡ Z r (y +ℤ sub_ℕ n 2)) → six_tap Y r x ≡ six_tap Z r y
  unfolding six_tap
  tap_alike r x y h =
      rw (
        h 0 (omega arith),
        h 1 (omega arith),
        ap (Y r) (sym (no_step x)) ∙ (h 2 (omega arith) ∙ ap (Z r) (no_step y)),
        h 3 (omega arith),
        h 4 (omega arith),
        h 5 (omega arith),
      )

  pub pair_alike : (r x y : ℤ) → Alike Y Z r x y → six_tap_pair Y r x ≡ six_tap_pair Z r y
  unfolding six_tap_pair
  pair_alike r x y h =
      ap₂ (λ (a b : ℤ). nat_abs a + nat_abs b) (tap_alike r x y (λ n l. h n (omega arith)))
      (tap_alike r (x +ℤ pos 1) (y +ℤ pos 1) (λ n l. ap (Y r) (one_step x n) ∙ (h (suc n) (omega arith) ∙ sym (ap (Z r) (one_step y n)))))

  pub eastbound_alike : (x y : ℤ) → Alike Y Z (neg_ℤ (pos 1)) x y → Alike Y Z (pos 0) x y → Alike Y Z (pos 1) x y
      → eastbound Y x ≡ eastbound Z y
  unfolding eastbound
  eastbound_alike x y up here down =
      rw (
        here_alike (pos 0) x y here,
        here 4 (omega arith),
        pair_alike (pos 0) x y here,
        pair_alike (neg_ℤ (pos 1)) x y up,
        pair_alike (pos 1) x y down,
      )
