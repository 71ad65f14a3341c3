-- `sums::add_columns` meets its contract. The loop has added the distances of the entries below k + 4; the others are as they were. Assumes nothing.
use mathlib.Core.Path.{refl, ◌∙◌}
use Prim.Native.Nat.{◌+◌, ◌<◌}
use mir.Syntax.{w32}
use mir.Facts.{to_z-of_z}
use Rattle.toolkit.specs.Entries.{entries_next, entries_past}
use Rattle.half_rows.specs.Reading.{as_read}
use Rattle.sums.specs.Sums.{with_columns}
use Rattle.sums.specs.Gaps.{gaps_read}
use native.Mathlib.Omega.{arith}
use borrow.Author.Rules.{rules}
use Rattle.sums.proofs.add_columns.Goals as goal

pub loop-k-preserved : goal.loop-k-preserved
unfolding with_columns
loop-k-preserved c =
    let a = c.args in
    let k = c.loop-k.k in
    let l : k < a.count = omega arith in
    let old = c.loop-k.invariant.1.at (k + 4) (omega arith) (omega arith) in (
      entries_next c.loop-k.invariant.0 (omega arith) (omega arith)
          (to_z-of_z {w = w32} (record { sfits = c.add_gaps.type_inv }) ∙ (c.add_gaps.ensures
          ∙ gaps_read _ _ _ _ _ _ _
          (as_read (search rules)) (as_read (search rules))
          (as_read (search rules))
          (as_read (search rules) ∙ old) refl refl)),
      entries_past _ c.loop-k.invariant.1 (omega arith) (omega arith),
    )
