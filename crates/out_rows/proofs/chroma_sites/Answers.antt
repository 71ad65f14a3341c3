-- `out_rows::chroma_sites` meets its contract. Assumes nothing.
use mathlib.Core.Path.{◌∙◌, ap}
use lib.IntN.{ℤ, pos, ◌-ℤ◌}
use native.Mathlib.Omega.{arith}
use Rattle.toolkit.specs.Bounds.{fits, val}
use Rattle.toolkit.specs.BoundRules.{small, vals}
use Rattle.toolkit.specs.Entries.{entries_next}
use Rattle.half_rows.specs.Reading.{as_read}
use Rattle.method.specs.Planes.{final_round}
use Rattle.out_rows.proofs.chroma_sites.Goals as goal

pub output-requires : goal.output-requires
output-requires c =
    let hz = c.requires.sized.2.each c.loop-k.k c.loop-k.auto.k c.loop-k-test.true in
    let hd = c.requires.sized.0.each c.loop-k.k c.loop-k.auto.k c.loop-k-test.true in
    small (search vals depth 30) tt

pub overflow_sub-q : goal.overflow_sub-q
overflow_sub-q c =
    let hz = c.requires.sized.2.each c.loop-k.k c.loop-k.auto.k c.loop-k-test.true in
    let hd = c.requires.sized.0.each c.loop-k.k c.loop-k.auto.k c.loop-k-test.true in
    let ho = c.requires.sized.1.each c.loop-k.k c.loop-k.auto.k c.loop-k-test.true in
    fits (search vals depth 30) tt

pub output-requires-in-loop-k : goal.output-requires-in-loop-k
output-requires-in-loop-k c =
    let hz = c.requires.sized.2.each c.loop-k.k c.loop-k.auto.k c.loop-k-test.true in
    let hd = c.requires.sized.0.each c.loop-k.k c.loop-k.auto.k c.loop-k-test.true in
    let ho = c.requires.sized.1.each c.loop-k.k c.loop-k.auto.k c.loop-k-test.true in
    small (search vals depth 30) tt

pub loop-k-preserved : goal.loop-k-preserved
loop-k-preserved c =
    let hz = c.requires.sized.2.each c.loop-k.k c.loop-k.auto.k c.loop-k-test.true in
    let hd = c.requires.sized.0.each c.loop-k.k c.loop-k.auto.k c.loop-k-test.true in
    let ho = c.requires.sized.1.each c.loop-k.k c.loop-k.auto.k c.loop-k-test.true in (
      entries_next c.loop-k.invariant.0 (omega arith) (omega arith)
          (as_read c.output.type_inv ∙ (c.output.ensures ∙ ap (λ (q : ℤ). final_round q -ℤ pos c.args.black.level) (val (search vals depth 30) tt))),
      entries_next c.loop-k.invariant.1 (omega arith) (omega arith)
          (as_read c.output-in-loop-k.type_inv ∙ (c.output-in-loop-k.ensures ∙ ap (λ (q : ℤ). final_round q -ℤ pos c.args.black.level) (val (search vals depth 30) tt))),
    )
