-- `out_stage::store_outputs` meets its contract. Assumes nothing.
use mathlib.Core.Path.{ap}
use Rattle.frame.specs.Sites.{red, blue}
use Rattle.frame.specs.Colours.{trade}
use Rattle.out_stage.specs.RowColours.{row_red, row_blue}
use Rattle.out_stage.specs.PlaneRows.{green_row, own_row, other_row}
use Rattle.out_stage.proofs.store_outputs.Goals as goal

pub returns-then-i-shape-eq0 : goal.returns-then-i-shape-eq0
returns-then-i-shape-eq0 c =
    let a = c.args in
    let row = c.requires.row in
    let is = c.requires.start_is in
    let has_red = row_red a.p.row.shape.phase a.p.row.index c.if-i-shape-eq0.true in record {
      plane_row = own_row _ _ _ row is _ _ _ _ _ _ _ _ red has_red c.weave-then-i-shape-eq0.ensures;
      plane_row_2 = green_row _ _ _ row is _ _ _ _ _ _ _ _ c.weave.ensures;
      plane_row_3 = other_row _ _ _ row is _ _ _ _ _ _ _ _ blue (ap trade has_red) c.weave-then-i-shape-eq0-2.ensures;
    }

pub returns-else-i-shape-eq0 : goal.returns-else-i-shape-eq0
returns-else-i-shape-eq0 c =
    let a = c.args in
    let row = c.requires.row in
    let is = c.requires.start_is in
    let has_blue = row_blue a.p.row.shape.phase a.p.row.index c.if-i-shape-eq0.false in record {
      plane_row = other_row _ _ _ row is _ _ _ _ _ _ _ _ red (ap trade has_blue) c.weave-else-i-shape-eq0-2.ensures;
      plane_row_2 = green_row _ _ _ row is _ _ _ _ _ _ _ _ c.weave.ensures;
      plane_row_3 = own_row _ _ _ row is _ _ _ _ _ _ _ _ blue has_blue c.weave-else-i-shape-eq0.ensures;
    }
