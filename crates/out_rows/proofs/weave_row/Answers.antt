-- `out_rows::weave_row` meets its contract. Assumes nothing.
use mathlib.Core.Path.{◌≡◌, refl, ◌∙◌}
use Prim.Native.Nat.{◌*◌, ◌-◌, ◌/◌}
use native.Mathlib.Omega.{arith}
use Rattle.std.proofs.Common.{rules}
use Rattle.half_rows.specs.Reading.{as_read}
use Rattle.toolkit.specs.Writes.{wrote_next, wrote_as}
use Rattle.out_rows.specs.Woven.{woven_even, weave_step}
use Rattle.out_rows.proofs.weave_row.Goals as goal

pub loop-k-preserved : goal.loop-k-preserved
loop-k-preserved c =
    let a = c.args in
    weave_step a.even.now a.odd.now c.loop-k.k _ _ c.loop-k.invariant refl (omega arith) (as_read (search rules)) (as_read (search rules)) refl

pub returns-then-w-eq1 : goal.returns-then-w-eq1
returns-then-w-eq1 c =
    let a = c.args in
    let odd : 2 * c.loop-k.k ≡ a.w - 1 = omega arith in
    wrote_as (wrote_next (wrote_as c.loop-k.invariant odd (λ j h. refl)) (omega arith)
    (as_read (search rules) ∙ woven_even a.even.now a.odd.now (a.w - 1) (a.w / 2) (omega arith)))
    (omega arith) (λ j h. refl)
