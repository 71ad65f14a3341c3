use Rattle.std.proofs.Common.{◌≡◌, ◌++◌}
use Rattle.frame_file.specs.Lists.{joined}
use Rattle.frame_text.specs.PlanesText.{planes_line}
use Rattle.frame_text.proofs.lines.Given as goal

-- the lines of the first k sites stand behind the old text
abbrev pub invariant-loop-k : goal.invariant-loop-k
invariant-loop-k l =
    l.text.bytes ≡ l.initial.text.bytes ++ joined l.k (planes_line l.planes.width l.planes.red.now l.planes.green.now l.planes.blue.now)
