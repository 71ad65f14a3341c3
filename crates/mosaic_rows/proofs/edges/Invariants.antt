-- What the loop of `mosaic_rows::edges` keeps.
use Prim.Native.Nat.{◌+◌, ◌-◌}
use Rattle.mosaic_rows.specs.EdgeLaws.{Reflected}
use Rattle.mosaic_rows.proofs.edges.Given as goal

abbrev pub invariant-loop-k : goal.invariant-loop-k
invariant-loop-k l = Reflected l.w l.to (9 - l.k) (l.w + 7 + l.k) l.initial.rows l.rows
