-- `differences::fuse_row` meets its contract. The loop has stored k final differences. Assumes nothing.
use native.Mathlib.Omega.{arith}
use Rattle.std.proofs.Common.{rules}
use Rattle.toolkit.specs.Writes.{wrote_next}
use Rattle.differences.proofs.fuse_row.Goals as goal

pub loop-k-preserved : goal.loop-k-preserved
loop-k-preserved c = wrote_next c.loop-k.invariant (omega arith) (search rules)
