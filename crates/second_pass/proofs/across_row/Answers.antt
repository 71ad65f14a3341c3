-- `second_pass::across_row` meets its contract. The loop has formed the entries below k + 4. Assumes nothing.
use Prim.Native.Nat.{◌+◌}
use Rattle.toolkit.specs.Bounds.{val}
use Rattle.toolkit.specs.BoundRules.{vals}
use Rattle.toolkit.specs.Entries.{entries_next}
use Rattle.second_pass.specs.Picked.{across_entry}
use native.Mathlib.Omega.{arith}
use Rattle.second_pass.proofs.across_row.Goals as goal

pub loop-k-preserved : goal.loop-k-preserved
unfolding across_entry
loop-k-preserved c =
    let h = c.requires.sized.0.each (c.loop-k.k + 4) (omega arith) (omega arith) in
    let v = c.requires.sized.1.each (c.loop-k.k + 4) (omega arith) (omega arith) in
    entries_next c.loop-k.invariant (omega arith) (omega arith) (val (search vals depth 30) tt)
