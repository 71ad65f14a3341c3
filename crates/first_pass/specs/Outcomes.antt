-- The first pass's outcome, as the code answers it. Assumes nothing.
use Rattle.std.specs.Prelude.{◌≡◌, refl, Bool, true, false, cond, ℕ, ◌+◌, ◌*◌, ◌≤◌, min, max, eqb, ltb, ℤ, pos, nat_abs, ◌+ℤ◌, ◌*ℤ◌, ◌≤ℤ◌}
use Rattle.std.proofs.Common.{sym, ◌∙◌, arith, SFits, to_z, of_z}
use Rattle.std.specs.Int.Signed.{lt_z, shr_z}
use Rattle.std.specs.Int.{w32, w64, int_min, int_max}
use Rattle.std.proofs.lemmas.Int.{ints, clamps}
use Rattle.toolkit.specs.Bounds.{fits, val, wrap_is}
use Rattle.toolkit.specs.BoundRules.{vals, lt_is}
use Rattle.toolkit.specs.Naturals.{natural_sum}
use Rattle.toolkit.specs.Shifts.{b_shift}
use Rattle.toolkit.specs.Tests.{by_test, eqb_eq, eqb_yes, ltb_lt, ltb_ge}
use Rattle.method.specs.Settings.{threshold}
use Rattle.method.specs.Green.{Outcome, equal, strong_across, strong_down, weak, outcome, half}
use Rattle.first_pass.specs.declared.FirstPass.{FirstPass}
use Rattle.first_pass.specs.declared.FirstPass.TheVariants.{Equal, Across, Down, Weak}

abbrev pub outcome_of : FirstPass → Outcome
outcome_of Equal = equal
outcome_of Across = strong_across
outcome_of Down = strong_down
outcome_of Weak = weak

-- of the differences a and b, across and down, and the direction's own
abbrev pub settled : FirstPass → ℤ → ℤ → ℤ → ℤ
settled Equal a b own = half (a +ℤ b)
settled Across a b own = a
settled Down a b own = b
settled Weak a b own = own

-- ---- what `decide` forms

-- a choice by a test, between two formed values
pub chosen_first : {A : Type 0} {t : Bool} {x z : A} (y : A) → t ≡ true → z ≡ x → z ≡ cond t x y
chosen_first y e h = rw e h

pub chosen_second : {A : Type 0} {t : Bool} {y z : A} (x : A) → t ≡ false → z ≡ y → z ≡ cond t x y
chosen_second x e h = rw e h

-- a test of two numbers that are naturals
pub tested : {x y : ℤ} {h v : ℕ} {t : Bool} → x ≡ pos h → y ≡ pos v → lt_z x y ≡ t → ltb h v ≡ t
tested e f q = sym (lt_is e f) ∙ q

pub lower_is : (h v : ℕ) → cond (ltb h v) (pos h) (pos v) ≡ pos (min h v)
lower_is h v = by_test (ltb h v) _
    (λ t. let l = ltb_lt h v t in let e : min h v ≡ h = omega arith in rw (t, e))
    (λ t. let l = ltb_ge h v t in let e : min h v ≡ v = omega arith in rw (t, e))

pub higher_is : (h v : ℕ) → cond (ltb h v) (pos v) (pos h) ≡ pos (max h v)
higher_is h v = by_test (ltb h v) _
    (λ t. let l = ltb_lt h v t in let e : max h v ≡ v = omega arith in rw (t, e))
    (λ t. let l = ltb_ge h v t in let e : max h v ≡ h = omega arith in rw (t, e))

-- the lesser and the greater of two numbers that are naturals
pub min_is : {x y z : ℤ} {h v : ℕ} → z ≡ int_min x y → x ≡ pos h → y ≡ pos v → z ≡ pos (min h v)
min_is e f g = omega (arith, ints, clamps)

pub max_is : {x y z : ℤ} {h v : ℕ} → z ≡ int_max x y → x ≡ pos h → y ≡ pos v → z ≡ pos (max h v)
max_is e f g = omega (arith, ints, clamps)

pub outcome_equal : (h v : ℕ) → h ≡ v → equal ≡ outcome threshold h v
unfolding outcome
outcome_equal h v e = rw (eqb_yes {m = h} {n = v} e)

pub outcome_unequal : (h v : ℕ) (x : Outcome) → ¬ (h ≡ v)
    → x ≡ cond (ltb (17 * min h v) (10 * max h v)) (cond (ltb h v) strong_across strong_down) weak → x ≡ outcome threshold h v
unfolding outcome threshold
outcome_unequal h v x o e =
    let q : eqb h v ≡ false = by_test (eqb h v) _ (λ t. absurd (o (eqb_eq h v t))) (λ t. t) in
    rw q e

-- a gradient, cast to an i32
abbrev pub as_i32 : ℤ → ℤ
as_i32 z = to_z w32 (of_z w32 (to_z w64 (of_z w64 z)))

pub cast_fits : (z : ℤ) → nat_abs z ≤ 40920 → SFits w32 (to_z w64 (of_z w64 z))
cast_fits z l = fits (search vals depth 30) tt

pub pair_fits : (x y : ℤ) → nat_abs x ≤ 40920 → nat_abs y ≤ 40920 → SFits w32 (as_i32 x +ℤ as_i32 y)
pair_fits x y l m = fits (search vals depth 30) tt

pub pair_is : (x y : ℤ) → nat_abs x ≤ 40920 → nat_abs y ≤ 40920 → pos 0 ≤ℤ x → pos 0 ≤ℤ y → as_i32 x +ℤ as_i32 y ≡ pos (nat_abs x + nat_abs y)
pair_is x y l m h k = val (search vals depth 30) tt ∙ natural_sum x y h k

-- a natural, k times as large
pub times_fits : (k m : ℕ) (z : ℤ) → z ≡ pos m → k * m ≤ 2000000 → SFits w32 (pos k *ℤ z)
times_fits k m z e l = rw e (record { sfits = omega arith })

pub times_read : (k m : ℕ) (z : ℤ) → z ≡ pos m → k * m ≤ 2000000 → to_z w32 (of_z w32 (pos k *ℤ z)) ≡ pos (k * m)
times_read k m z e l = wrap_is w32 (times_fits k m z e l) (rw e refl)

-- ---- what `settle` and `try_site` form

-- half of a sum of two i32
pub sum_fits : (x y : ℤ) → nat_abs x ≤ 8184 → nat_abs y ≤ 8184 → SFits w32 (to_z w32 (of_z w32 x) +ℤ to_z w32 (of_z w32 y))
sum_fits x y hx hy = fits (search vals depth 30) tt

pub half_read : (x y : ℤ) → nat_abs x ≤ 8184 → nat_abs y ≤ 8184
    → to_z w32 (of_z w32 (shr_z (to_z w32 (of_z w32 (to_z w32 (of_z w32 x) +ℤ to_z w32 (of_z w32 y)))) 2)) ≡ half (x +ℤ y)
unfolding half
half_read x y hx hy = val (search (b_shift, vals) depth 30) tt
