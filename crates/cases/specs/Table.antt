-- The case table: document 01's glaze cases, the planes and the decision maps of two frames, develop's answers at black
-- levels, stored files, and what is printed of files. Definitions alone. Assumes nothing.
use Rattle.std.specs.Prelude.{List, ◌++◌}
use Rattle.cases.specs.Row.{Case}
use Rattle.cases.specs.GlazeCases.{glaze_cases}
use Rattle.cases.specs.FrameCases.{frame_cases}
use Rattle.cases.specs.AnswerCases.{answer_cases}
use Rattle.cases.specs.FileCases.{stored_cases, printed_cases}

unfoldable pub cases : List Case
cases = glaze_cases ++ (frame_cases ++ (answer_cases ++ (stored_cases ++ printed_cases)))
