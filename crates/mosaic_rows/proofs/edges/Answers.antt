-- `mosaic_rows::edges` meets its contract. The loop has filled k − 1 reflected columns on each side (`reflected_turn`). Assumes nothing.
use Rattle.mosaic_rows.specs.EdgeLaws.{reflected_none, reflected_turn}
use native.Mathlib.Omega.{arith}
use Rattle.mosaic_rows.proofs.edges.Goals as goal

pub loop-k-init : goal.loop-k-init
loop-k-init c = reflected_none c.requires.le_w.0 (omega arith)

pub loop-k-preserved : goal.loop-k-preserved
loop-k-preserved c =
    reflected_turn c.args.w c.args.to c.loop-k.k _ _ c.requires.le_w.0 (omega arith) (omega arith) (omega arith)
    c.loop-k.invariant c.reflected.ensures c.reflected-in-loop-k.ensures
