-- `second_pass::map_row` meets its contract. The loop has stored the columns below 2·k. Assumes nothing.
use mathlib.Core.Path.{◌≡◌, refl, ◌∙◌}
use Prim.Native.Nat.{◌*◌, ◌-◌, ◌/◌}
use Rattle.toolkit.specs.Writes.{wrote_next, wrote_as}
use Rattle.second_pass.specs.Resolving.{map_even, map_step}
use native.Mathlib.Omega.{arith}
use Rattle.second_pass.proofs.map_row.Goals as goal

pub loop-k-preserved : goal.loop-k-preserved
loop-k-preserved c =
    let a = c.args in
    map_step a.c a.codes.now c.loop-k.k _ _ c.loop-k.invariant refl (omega arith) c.column_code.ensures c.column_code-in-loop-k.ensures refl

pub returns-then-w-eq1 : goal.returns-then-w-eq1
returns-then-w-eq1 c =
    let a = c.args in
    let odd : 2 * c.loop-k.k ≡ a.w - 1 = omega arith in
    wrote_as (wrote_next (wrote_as c.loop-k.invariant odd (λ j h. refl)) (omega arith)
    (c.column_code-then-w-eq1.ensures ∙ map_even a.c a.codes.now (a.w - 1) (a.w / 2) (omega arith)))
    (omega arith) (λ j h. refl)
