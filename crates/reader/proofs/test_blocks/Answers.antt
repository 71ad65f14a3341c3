-- `reader::test_blocks` meets its contract. Assumes nothing.
use mathlib.Core.Path.{sym, ◌∙◌}
use native.Mathlib.Omega.{arith}
use Rattle.std.proofs.lemmas.Result.{err_from_is_err_and}
use Rattle.reader.proofs.Tests.{later_stop}
use Rattle.reader.proofs.test_blocks.Goals as goal

pub returns-in_err-test_later : goal.returns-in_err-test_later
returns-in_err-test_later c =
    let back = err_from_is_err_and c.from_residual.result c.from_residual.ensures.1 in
    rw (back.1, back.2)
    (sym (c.loop-n.invariant ∙ later_stop _ _ _ _ (omega arith) _ (sym c.test_later.ensures ∙ c.in_err-test_later.was)))
