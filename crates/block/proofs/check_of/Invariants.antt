-- What the loop of `block::check_of` keeps: the sum is over the first k bytes.
use Rattle.block.proofs.Laws.{Summed}
use Rattle.block.proofs.check_of.Given as goal

abbrev pub invariant-loop-k : goal.invariant-loop-k
invariant-loop-k l = Summed l.block l.sum l.k
