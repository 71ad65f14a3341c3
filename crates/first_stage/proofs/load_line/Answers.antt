-- `first_stage::load_line` meets its contract. Assumes nothing.
use Rattle.mosaic_rows.specs.LoadLaws.{loaded}
use Rattle.east_rows.specs.EastLaws.{loaded_small}
use Rattle.first_stage.proofs.load_line.Goals as goal

pub along_row-requires-clause-small : goal.along_row-requires-clause-small
along_row-requires-clause-small c = loaded_small _ _ _ _ c.requires.taken (loaded c.load.ensures)
