-- What the loop of `differences::fuse_row` keeps.
use Prim.Native.Nat.{ℕ, ◌+◌}
use lib.IntN.{pos}
use lib.ListN.{get_or}
use Rattle.toolkit.specs.Writes.{Wrote}
use Rattle.method.specs.Settings.{fusion_share}
use Rattle.method.specs.Planes.{fused}
use Rattle.differences.proofs.fuse_row.Given as goal

abbrev pub invariant-loop-k : goal.invariant-loop-k
invariant-loop-k l = Wrote (pos 0) l.at l.k (λ (x : ℕ). fused fusion_share (get_or l.l (x + 4) (pos 0)) (get_or l.m (x + 4) (pos 0))) l.initial.work l.work
