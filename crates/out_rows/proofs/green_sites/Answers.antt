-- `out_rows::green_sites` meets its contract. Assumes nothing.
use mathlib.Core.Path.{◌∙◌, ap}
use lib.IntN.{ℤ, pos, ◌-ℤ◌}
use native.Mathlib.Omega.{arith}
use Rattle.toolkit.specs.Bounds.{fits, val}
use Rattle.toolkit.specs.BoundRules.{small, vals}
use Rattle.toolkit.specs.Entries.{entries_next, entries_past}
use Rattle.half_rows.specs.Reading.{as_read, size_read}
use Rattle.method.specs.Planes.{final_round}
use Rattle.out_rows.proofs.green_sites.Goals as goal

pub overflow_sub-z : goal.overflow_sub-z
overflow_sub-z c =
    let hz = c.requires.1.each c.loop-k.k c.loop-k.auto.k c.loop-k-test.true in
    let same = c.loop-k.invariant.1.at c.loop-k.k (omega arith) c.loop-k-test.true in
    let hm = size_read _ same (c.requires.2.each c.loop-k.k c.loop-k.auto.k c.loop-k-test.true) in
    fits (search vals depth 30) tt

pub output-requires : goal.output-requires
output-requires c =
    let hz = c.requires.1.each c.loop-k.k c.loop-k.auto.k c.loop-k-test.true in
    let same = c.loop-k.invariant.1.at c.loop-k.k (omega arith) c.loop-k-test.true in
    let hm = size_read _ same (c.requires.2.each c.loop-k.k c.loop-k.auto.k c.loop-k-test.true) in
    small (search vals depth 30) tt

pub loop-k-preserved : goal.loop-k-preserved
loop-k-preserved c =
    let inv = c.loop-k.invariant in
    let hz = c.requires.1.each c.loop-k.k c.loop-k.auto.k c.loop-k-test.true in
    let same = inv.1.at c.loop-k.k (omega arith) c.loop-k-test.true in
    let hm = size_read _ same (c.requires.2.each c.loop-k.k c.loop-k.auto.k c.loop-k-test.true) in (
      entries_next inv.0 (omega arith) (omega arith)
          (rw (← same) (as_read c.output.type_inv
          ∙ (c.output.ensures ∙ ap (λ (q : ℤ). final_round q -ℤ pos c.args.black.level) (val (search vals depth 30) tt)))),
      entries_past _ inv.1 (omega arith) (omega arith),
    )
