-- `develop::judge` meets its contract: what it answers where a test is passed on by `?`. Assumes nothing.
use Rattle.std.proofs.Common.{sym}
use Rattle.std.proofs.lemmas.Result.{err_from_is_err_and}
use Rattle.develop.proofs.Answers.{first_refused, samples_refused}
use Rattle.develop.proofs.judge.Goals as goal

pub returns-in_err-judge_shape : goal.returns-in_err-judge_shape
returns-in_err-judge_shape c =
    let e = err_from_is_err_and c.from_residual.result c.from_residual.ensures.1 in
    rw (e.1, e.2) (first_refused _ _ _ _ _ (sym c.in_err-judge_shape.ensures))

pub returns-in_err-test_samples : goal.returns-in_err-test_samples
returns-in_err-test_samples c =
    let r = c.from_residual-in_err-test_samples in
    let e = err_from_is_err_and r.result r.ensures.1 in
    rw (e.1, e.2)
    (samples_refused _ _ _ _ (sym c.in_ok-judge_shape.ensures) c.lengths_right.ensures c.if-not-lengths_right.false _ (sym c.in_err-test_samples.ensures))
