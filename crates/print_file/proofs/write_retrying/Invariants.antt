-- A failed write appends nothing.
use Rattle.std.specs.Io.KnownBytes.{Keeps}
use Rattle.print_file.proofs.write_retrying.Given as goal

abbrev pub invariant-loop : goal.invariant-loop
invariant-loop g l = Keeps (g.W.Write.contents l.initial.output) (g.W.Write.contents l.output)
