use Rattle.std.proofs.Common.{◌++◌}
use Rattle.printing.specs.Printing.{numbers_line}
use Rattle.text.specs.Lines.{Printed}
use Rattle.text.proofs.numbers_line.Given as goal

-- the numbers before number k are printed
abbrev pub invariant-loop-k : goal.invariant-loop-k
invariant-loop-k g l = Printed (l.initial.text.bytes ++ numbers_line l.numbers) l.numbers l.text.bytes l.k
