-- `first_pass::decide` meets its contract. Each value that it chooses is one part of `outcome`. Assumes nothing.
use Rattle.std.proofs.Common.{◌≡◌, sym, ◌∙◌, ap, cond, ℕ, ◌+◌, ◌*◌, ◌≤◌, min, max, ltb, List, get_or, arith, ℤ, pos, nat_abs, ◌+ℤ◌, w32, to_z, of_z}
use Rattle.toolkit.specs.Bounds.{wrap_is}
use Rattle.method.specs.Sizes.{Naturals}
use Rattle.method.specs.Green.{first_pass, strong_across, strong_down, weak}
use Rattle.half_rows.specs.Reading.{as_read}
use Rattle.first_pass.specs.Outcomes.{outcome_of, as_i32, pair_fits, pair_is, chosen_first, chosen_second, tested}
use Rattle.first_pass.specs.Outcomes.{min_is, max_is, times_fits, times_read, outcome_equal, outcome_unequal}
use Rattle.first_pass.proofs.decide.Goals as goal
use Rattle.first_pass.proofs.decide.Goals.{then-h-v, else-h-v, then-min-max, else-min-max}

-- the sums h = E + W and v = S + N, as the code reads them
module _ {g : List ℤ} (n : Naturals 40920 g) where
  abbrev gradient : ℕ → ℤ
  gradient k = get_or g k (pos 0)

  abbrev h : ℕ
  h = nat_abs (gradient 0) + nat_abs (gradient 1)

  abbrev v : ℕ
  v = nat_abs (gradient 2) + nat_abs (gradient 3)

  h_is : as_i32 (gradient 0) +ℤ as_i32 (gradient 1) ≡ pos h
  h_is = pair_is (gradient 0) (gradient 1) n.most.east_most n.most.west_most n.east_from n.west_from

  v_is : as_i32 (gradient 2) +ℤ as_i32 (gradient 3) ≡ pos v
  v_is = pair_is (gradient 2) (gradient 3) n.most.south_most n.most.north_most n.south_from n.north_from

  h_read : to_z w32 (of_z w32 (as_i32 (gradient 0) +ℤ as_i32 (gradient 1))) ≡ pos h
  h_read = wrap_is w32 (pair_fits (gradient 0) (gradient 1) n.most.east_most n.most.west_most) h_is

  v_read : to_z w32 (of_z w32 (as_i32 (gradient 2) +ℤ as_i32 (gradient 3))) ≡ pos v
  v_read = wrap_is w32 (pair_fits (gradient 2) (gradient 3) n.most.south_most n.most.north_most) v_is

  lower_most : 17 * min h v ≤ 2000000
  lower_most = omega (arith, n.most.east_most, n.most.west_most)

  higher_most : 10 * max h v ≤ 2000000
  higher_most = omega (arith, n.most.east_most, n.most.west_most, n.most.south_most, n.most.north_most)

pub overflow_mul-min : goal.overflow_mul-min
overflow_mul-min c =
    let n = c.requires in
    times_fits 17 _ _ (as_read c.min.type_inv ∙ min_is c.min.ensures.value (h_read n) (v_read n)) (lower_most n)

pub overflow_mul-max : goal.overflow_mul-max
overflow_mul-max c =
    let n = c.requires in
    times_fits 10 _ _ (as_read c.max.type_inv ∙ max_is c.max.ensures.value (h_read n) (v_read n)) (higher_most n)

pub returns-then-h-v-2 : goal.returns-then-h-v-2
unfolding first_pass
returns-then-h-v-2 c =
    let n = c.requires in
    outcome_equal (h n) (v n) (ap nat_abs (sym (h_read n) ∙ ap (to_z w32) c.if-h-v-2.true ∙ v_read n))

pub returns-else-h-v-2 : goal.returns-else-h-v-2
unfolding first_pass
returns-else-h-v-2 c =
    let n = c.requires in
    let lower = times_read 17 _ _ (as_read c.min.type_inv ∙ min_is c.min.ensures.value (h_read n) (v_read n)) (lower_most n) in
    let higher = times_read 10 _ _ (as_read c.max.type_inv ∙ max_is c.max.ensures.value (h_read n) (v_read n)) (higher_most n) in
    let way : outcome_of c.if-h-v.way' ≡ cond (ltb (h n) (v n)) strong_across strong_down = elim c.if-h-v.branch [
      | then-h-v w ↦ chosen_first strong_down (tested (h_read n) (v_read n) w.if-h-v.true) (ap outcome_of w.way'-is)
      | else-h-v w ↦ chosen_second strong_across (tested (h_read n) (v_read n) w.if-h-v.false) (ap outcome_of w.way'-is)
    ] in
    outcome_unequal (h n) (v n) _ (λ e. c.if-h-v-2.false (ap (of_z w32) (h_is n ∙ ap pos e ∙ sym (v_is n))))
    (elim c.if-min-max.branch [
      | then-min-max w ↦ chosen_first weak (tested lower higher w.if-min-max.true) (ap outcome_of w.unequal-is ∙ way)
      | else-min-max w ↦ chosen_second _ (tested lower higher w.if-min-max.false) (ap outcome_of w.unequal-is)
    ])
