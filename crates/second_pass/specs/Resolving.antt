-- How the second pass resolves a weak site, and the entries of the map that it so leaves. Assumes nothing.
use Rattle.std.specs.Prelude.{◌≡◌, refl, Bool, true, false, cond, ◌&&◌, List, ℕ, ◌+◌, ◌*◌, ◌/◌, ◌%◌, ◌<◌, ltb, eqb, ℤ, length, get_or, set}
use Rattle.std.proofs.Common.{◌∙◌}
use native.Mathlib.Omega.{arith}
use Rattle.std.specs.Int.Signed.{lt_z}
use Rattle.toolkit.specs.Writes.{Wrote, wrote_next, wrote_as}
use Rattle.second_pass.specs.Choices.{one_of}
use Rattle.second_pass.specs.declared.Choice.{Choice}
use Rattle.second_pass.specs.declared.Choice.TheVariants.{Across, Down, ToMean}
use Rattle.second_pass.specs.Picked.{picked, map_entry}

-- what is taken by a resolution, as its code in the map, is picked by the sums
pub taken_picked : {A : Type 0} (FH FV FD : ℤ) {second : ℕ} (x y z : A) → second ≡ picked FH FV FD 4 5 6
    → cond (ltb second 6) (cond (ltb second 5) x y) z ≡ picked FH FV FD x y z
unfolding picked
taken_picked FH FV FD x y z e = rw e (by_tests (lt_z FH FV && lt_z FH FD) (lt_z FV FH && lt_z FV FD))
  where
    by_tests : (t u : Bool) → cond (ltb (cond t 4 (cond u 5 6)) 6) (cond (ltb (cond t 4 (cond u 5 6)) 5) x y) z ≡ cond t x (cond u y z)
    by_tests true u = refl
    by_tests false true = refl
    by_tests false false = refl

-- so is what a choice takes
pub choice_picked : {A : Type 0} (FH FV FD : ℤ) {choice : Choice} (x y z : A) → choice ≡ picked FH FV FD Across Down ToMean
    → one_of choice x y z ≡ picked FH FV FD x y z
unfolding picked
choice_picked FH FV FD x y z e = rw e (by_tests (lt_z FH FV && lt_z FH FD) (lt_z FV FH && lt_z FV FD))
  where
    by_tests : (t u : Bool) → one_of (cond t Across (cond u Down ToMean)) x y z ≡ cond t x (cond u y z)
    by_tests true u = refl
    by_tests false true = refl
    by_tests false false = refl

-- ---- a row of the map, as the code stores it

-- an even and an odd column
module _ (c : ℕ) (codes : List ℕ) (j k : ℕ) where
  pub map_even : j ≡ 2 * k → cond (eqb 0 c) (get_or codes k 0) 0 ≡ map_entry c codes j
  unfolding map_entry
  map_even e =
      let a : j % 2 ≡ 0 = omega arith in
      let b : j / 2 ≡ k = omega arith in
      rw (a, b)

  map_odd : j ≡ 2 * k + 1 → cond (eqb 1 c) (get_or codes k 0) 0 ≡ map_entry c codes j
  unfolding map_entry
  map_odd e =
      let a : j % 2 ≡ 1 = omega arith in
      let b : j / 2 ≡ k = omega arith in
      rw (a, b)

-- one turn of the loop
pub map_step : {a n m : ℕ} {old new : List ℕ} (c : ℕ) (codes : List ℕ) (k u v : ℕ) → Wrote 0 a n (map_entry c codes) old new → n ≡ 2 * k
    → a + n + 1 < length old → u ≡ cond (eqb 0 c) (get_or codes k 0) 0 → v ≡ cond (eqb 1 c) (get_or codes k 0) 0 → m ≡ 2 * (k + 1)
    → Wrote 0 a m (map_entry c codes) old (set (set new (a + 2 * k) u) (a + (2 * k + 1)) v)
map_step c codes k u v w e l p q r =
    wrote_as
    (wrote_next
    (wrote_next (wrote_as w e (λ j h. refl)) (omega arith) (p ∙ map_even c codes (2 * k) k refl))
    (omega arith) (q ∙ map_odd c codes (2 * k + 1) k refl))
    (omega arith) (λ j h. refl)
