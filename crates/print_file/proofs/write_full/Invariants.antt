-- What was written are the first bytes.
use Rattle.std.proofs.Common.{◌-◌, ◌≤◌, length, take}
use Rattle.std.specs.Io.KnownBytes.{Appends}
use Rattle.print_file.proofs.write_full.Given as goal

abbrev pub invariant-loop-length : goal.invariant-loop-length
invariant-loop-length g l =
    (l.length ≤ length l.bytes) × Appends (g.W.Write.contents l.initial.output) (g.W.Write.contents l.output) (take l.length l.bytes)

abbrev pub decreases-loop-length : goal.decreases-loop-length
decreases-loop-length g l = length l.bytes - l.length
