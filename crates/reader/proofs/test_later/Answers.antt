-- `reader::test_later` meets its contract. Assumes nothing.
use Rattle.std.proofs.lemmas.Result.{err_from_is_err_and}
use Rattle.reader.proofs.Tests.{later_refused}
use Rattle.reader.proofs.test_later.Goals as goal

pub returns-in_err-test_block : goal.returns-in_err-test_block
returns-in_err-test_block c =
    let back = err_from_is_err_and c.from_residual.result c.from_residual.ensures.1 in
    rw (back.1, back.2) (later_refused c.args.file.now c.args.samples c.args.n c.at-block.ensures c.test_block.ensures _ c.in_err-test_block.was)
