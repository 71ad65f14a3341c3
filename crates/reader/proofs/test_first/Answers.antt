-- `reader::test_first` meets its contract. Assumes nothing.
use mathlib.Core.Path.{sym, ◌∙◌, ap}
use mathlib.Core.List.{List}
use Prim.Native.Nat.{ℕ}
use Rattle.block.specs.BlockTest.{block_answer}
use Rattle.reader.proofs.Tests.{block_refused}
use Rattle.std.proofs.lemmas.Result.{err_from_is_err_and}
use Rattle.reader.proofs.test_first.Goals as goal

pub returns-in_err-test_block : goal.returns-in_err-test_block
returns-in_err-test_block c =
    let back = err_from_is_err_and c.from_residual.result c.from_residual.ensures.1 in
    rw (back.1, back.2) (block_refused _ c.if-file-lt512.false c.if-file-ne0.false _
    (ap (λ (b : List ℕ). block_answer b 0) (sym c.at-first.ensures) ∙ sym c.test_block.ensures ∙ c.in_err-test_block.was))
