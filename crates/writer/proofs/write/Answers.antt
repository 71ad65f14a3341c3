-- `writer::write` meets its contract. Assumes nothing.
use Rattle.admission.specs.Allowed.{shape_passes, count_most}
use mathlib.Core.Path.{sym, ◌∙◌, ap}
use Prim.Native.Nat.{ℕ, ◌*◌}
use Rattle.writer.proofs.Answers.{shape_refused, count_refused, size_refused, samples_refused, ready, all_written}
use Rattle.std.proofs.lemmas.Result.{err_from_is_err_and}
use Rattle.writer.proofs.write.Goals as goal

pub returns-in_err-test_shape : goal.returns-in_err-test_shape
returns-in_err-test_shape c =
    let back = err_from_is_err_and c.from_residual.result c.from_residual.ensures.1 in
    rw (back.1, back.2) (shape_refused _ _ _ _ (sym c.test_shape.ensures ∙ c.in_err-test_shape.was))

pub test_count-requires : goal.test_count-requires
test_count-requires c = let a = shape_passes c.args.shape (sym c.test_shape.ensures ∙ c.in_ok-test_shape.was) in (a.width, a.height)

pub returns-in_err-test_count : goal.returns-in_err-test_count
returns-in_err-test_count c =
    let back = err_from_is_err_and c.from_residual-in_err-test_count.result c.from_residual-in_err-test_count.ensures.1 in
    rw (back.1, back.2) (count_refused _ _ _ (sym c.test_shape.ensures ∙ c.in_ok-test_shape.was) _
    (sym c.test_count.ensures ∙ c.in_err-test_count.was))

pub count_for-size-requires : goal.count_for-size-requires
count_for-size-requires c = count_most c.args.shape _ (sym c.test_shape.ensures ∙ c.in_ok-test_shape.was)
    (sym c.test_count.ensures ∙ c.in_ok-test_count.was)

pub returns-then-file-size : goal.returns-then-file-size
returns-then-file-size c =
    size_refused _ _ _ (sym c.test_shape.ensures ∙ c.in_ok-test_shape.was) (sym c.test_count.ensures ∙ c.in_ok-test_count.was)
    (λ q. c.if-file-size.true (q ∙ ap (λ (n : ℕ). 512 * n) (sym c.count_for-size.ensures.0)))

pub write_blocks-requires : goal.write_blocks-requires
write_blocks-requires c =
    ready c.args.shape c.args.mosaic.now c.args.file.now (sym c.test_shape.ensures ∙ c.in_ok-test_shape.was)
    (sym c.test_count.ensures ∙ c.in_ok-test_count.was) (c.if-file-size.false ∙ ap (λ (n : ℕ). 512 * n) c.count_for-size.ensures.0)
    (sym c.test_samples.ensures ∙ c.in_ok-test_samples.was)

pub returns-in_err-test_samples : goal.returns-in_err-test_samples
returns-in_err-test_samples c =
    let back = err_from_is_err_and c.from_residual-in_err-test_samples.result c.from_residual-in_err-test_samples.ensures.1 in
    rw (back.1, back.2) (samples_refused _ _ _ (sym c.test_shape.ensures ∙ c.in_ok-test_shape.was) (sym c.test_count.ensures ∙ c.in_ok-test_count.was)
    (c.if-file-size.false ∙ ap (λ (n : ℕ). 512 * n) c.count_for-size.ensures.0) _
    (sym c.test_samples.ensures ∙ c.in_err-test_samples.was))

pub returns : goal.returns
returns c =
    all_written _ _ _ (sym c.test_shape.ensures ∙ c.in_ok-test_shape.was) (sym c.test_count.ensures ∙ c.in_ok-test_count.was)
    (c.if-file-size.false ∙ ap (λ (n : ℕ). 512 * n) c.count_for-size.ensures.0) (sym c.test_samples.ensures ∙ c.in_ok-test_samples.was)
    _ c.write_blocks.ensures
