-- `mosaic_rows::load` meets its contract. The columns, then the reflected ones (`row_stored`). Assumes nothing.
use Rattle.frame.specs.Sites.{frame}
use Rattle.mosaic_rows.specs.LoadLaws.{row_stored}
use Rattle.mosaic_rows.proofs.load.Goals as goal

pub returns : goal.returns
returns c =
    row_stored (frame c.args.shape c.args.mosaic.now) c.args.i c.args.to c.requires.taken.wide
    c.middle.ensures c.edges.ensures
