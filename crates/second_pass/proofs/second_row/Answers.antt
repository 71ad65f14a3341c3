-- `second_pass::second_row` meets its contract. The loop has stored k entries and k codes. Assumes nothing.
use mathlib.Core.Path.{refl, ◌∙◌, ap}
use mathlib.Core.Bool.{cond}
use lib.Dec.{ltb}
use Prim.Native.Nat.{ℕ, ◌+◌}
use lib.ListN.{get_or}
use borrow.Author.Rules.{rules}
use Rattle.toolkit.specs.Bounds.{val}
use Rattle.toolkit.specs.BoundRules.{vals}
use Rattle.toolkit.specs.Entries.{entries_next}
use Rattle.toolkit.specs.Writes.{wrote_next}
use Rattle.half_rows.specs.Reading.{as_read}
use Rattle.second_pass.specs.Picked.{picked_entry, code_entry}
use Rattle.second_pass.specs.Picking.{picked_read}
use native.Mathlib.Omega.{arith}
use Rattle.second_pass.proofs.second_row.Goals as goal

pub loop-k-preserved : goal.loop-k-preserved
unfolding picked_entry code_entry
loop-k-preserved c =
    let h = c.requires.count_bound.2.across_most.each (c.loop-k.k + 4) (omega arith) (omega arith) in
    let v = c.requires.count_bound.2.down_most.each (c.loop-k.k + 4) (omega arith) (omega arith) in
    let a = c.args in
    let first = get_or a.map.now (a.at + c.loop-k.k) 0 in (
      wrote_next c.loop-k.invariant.0 (omega arith)
          (as_read (search rules) ∙ (c.pick-picked.ensures.0
          ∙ picked_read (val (search vals depth 30) tt) (val (search vals depth 30) tt)
          (as_read (search rules))
          (as_read (search rules))
          (as_read (search rules)) (as_read (search rules)))),
      entries_next c.loop-k.invariant.1 (omega arith) refl
          (c.pick-picked.ensures.1 ∙ ap (λ (n : ℕ). cond (ltb first 4) first n)
          (picked_read (val (search vals depth 30) tt) (val (search vals depth 30) tt)
          (as_read (search rules)) refl refl refl)),
    )
