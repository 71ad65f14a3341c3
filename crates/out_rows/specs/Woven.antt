-- Two half rows woven to a row. Assumes nothing.
use Rattle.std.specs.Prelude.{◌≡◌, refl, cond, List, ℕ, zero, suc, ◌+◌, ◌*◌, ◌/◌, ◌%◌, ◌<◌, eqb, ℤ, pos, get_or, set, length}
use Rattle.std.proofs.Common.{◌∙◌, arith}
use Rattle.toolkit.specs.Writes.{Wrote, wrote_next, wrote_as}

-- column j: of one half row where j has the parity c, else of the other
unfoldable pub woven : ℕ → List ℤ → List ℤ → ℕ → ℤ
woven c x g j = cond (eqb (j % 2) c) (get_or x (j / 2 + 4) (pos 0)) (get_or g (j / 2 + 4) (pos 0))

pub woven_even : (x g : List ℤ) (j k : ℕ) → j ≡ 2 * k → get_or x (k + 4) (pos 0) ≡ woven 0 x g j
unfolding woven
woven_even x g j k e =
    let a : j % 2 ≡ 0 = omega arith in
    let b : j / 2 ≡ k = omega arith in
    rw (a, b)

woven_odd : (x g : List ℤ) (j k : ℕ) → j ≡ 2 * k + 1 → get_or g (k + 4) (pos 0) ≡ woven 0 x g j
unfolding woven
woven_odd x g j k e =
    let a : j % 2 ≡ 1 = omega arith in
    let b : j / 2 ≡ k = omega arith in
    rw (a, b)

-- one turn of the loop: an even and an odd column
pub weave_step : {a n m : ℕ} {old new : List ℤ} (x g : List ℤ) (k : ℕ) (u v : ℤ) → Wrote (pos 0) a n (woven 0 x g) old new → n ≡ 2 * k
    → a + n + 1 < length old → u ≡ get_or x (k + 4) (pos 0) → v ≡ get_or g (k + 4) (pos 0) → m ≡ 2 * (k + 1)
    → Wrote (pos 0) a m (woven 0 x g) old (set (set new (a + 2 * k) u) (a + (2 * k + 1)) v)
weave_step x g k u v w e l p q r =
    wrote_as
    (wrote_next
    (wrote_next (wrote_as w e (λ j h. refl)) (omega arith) (p ∙ woven_even x g (2 * k) k refl))
    (omega arith) (q ∙ woven_odd x g (2 * k + 1) k refl))
    (omega arith) (λ j h. refl)

-- the half row of the odd columns first
woven_turned : (x g : List ℤ) (j : ℕ) → woven 0 g x j ≡ woven 1 x g j
unfolding woven
woven_turned x g j = by_parity (j % 2) (omega arith)
  where
    by_parity : (m : ℕ) → m < 2
        → cond (eqb m 0) (get_or g (j / 2 + 4) (pos 0)) (get_or x (j / 2 + 4) (pos 0)) ≡
        cond (eqb m 1) (get_or x (j / 2 + 4) (pos 0)) (get_or g (j / 2 + 4) (pos 0))
    by_parity zero h = refl
    by_parity (suc zero) h = refl
    by_parity (suc (suc m)) h = absurd (omega arith)

pub woven_zero : (x g : List ℤ) (c j : ℕ) → c ≡ 0 → woven 0 x g j ≡ woven c x g j
woven_zero x g c j e = rw e

pub woven_one : (x g : List ℤ) (c j : ℕ) → c ≡ 1 → woven 0 g x j ≡ woven c x g j
woven_one x g c j e = rw e (woven_turned x g j)
