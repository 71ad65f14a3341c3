-- `reader::read` meets its contract. Assumes nothing.
use Rattle.answers.specs.Calls.{Answer, no_refusal}
use mathlib.Core.Path.{◌≡◌, sym, ◌∙◌, ap}
use mathlib.Core.List.{List}
use Prim.Native.Nat.{ℕ, ◌*◌}
use Rattle.frame.specs.declared.Shape.{Shape}
use Rattle.reader.specs.ReadSteps.{first_answer}
use Rattle.frame_file.specs.FrameFile.{block, header, block_count}
use Rattle.reader.proofs.Readings.{Counted, file_long, sides_small, first_refused, size_refused, room_refused, front_fits, blocks_refused, all_read}
use native.Mathlib.Omega.{arith}
use Rattle.std.proofs.lemmas.Result.{err_from_is_err_and}
use Rattle.reader.proofs.read.Goals as goal

-- samples and blocks are counted
counted : (file : List ℕ) {a : Answer} {first : List ℕ} {shape : Shape} {m blocks : ℕ} → a ≡ first_answer file → a ≡ no_refusal
    → first ≡ block file 0 → shape ≡ header first
    → m ≡ shape.height * shape.width → blocks ≡ block_count m → Counted file shape m blocks
counted file e d f s m b = record { done = sym e ∙ d; shape_is = s ∙ ap header f; samples_are = m; blocks_are = b }

pub returns-in_err-test_first : goal.returns-in_err-test_first
returns-in_err-test_first c =
    let back = err_from_is_err_and c.from_residual.result c.from_residual.ensures.1 in
    rw (back.1, back.2) (first_refused _ _ _ (sym c.test_first.ensures ∙ c.in_err-test_first.was))

pub at-requires : goal.at-requires
at-requires c = let long = file_long _ (sym c.test_first.ensures ∙ c.in_ok-test_first.was) in omega arith

pub sample_count-count-requires : goal.sample_count-count-requires
sample_count-count-requires c =
    sides_small c.args.file.now (sym c.test_first.ensures ∙ c.in_ok-test_first.was) _
    (c.header_of-shape.ensures ∙ ap header c.at.ensures)

pub returns-then-file-size : goal.returns-then-file-size
returns-then-file-size c =
    size_refused _ _ _ _ _
    (counted c.args.file.now c.test_first.ensures c.in_ok-test_first.was c.at.ensures c.header_of-shape.ensures c.sample_count-count.ensures.0 c.count_for-blocks.ensures.0)
    c.if-file-size.true

pub returns-then-samples-count : goal.returns-then-samples-count
returns-then-samples-count c =
    room_refused _ _ _ _ _
    (counted c.args.file.now c.test_first.ensures c.in_ok-test_first.was c.at.ensures c.header_of-shape.ensures c.sample_count-count.ensures.0 c.count_for-blocks.ensures.0)
    c.if-file-size.false c.if-samples-count.true

pub unpack_blocks-requires : goal.unpack_blocks-requires
unpack_blocks-requires c =
    front_fits _ _ _ _ _
    (counted c.args.file.now c.test_first.ensures c.in_ok-test_first.was c.at.ensures c.header_of-shape.ensures c.sample_count-count.ensures.0 c.count_for-blocks.ensures.0)
    c.if-file-size.false c.if-samples-count.false

pub returns-in_err-test_blocks : goal.returns-in_err-test_blocks
returns-in_err-test_blocks c =
    let back = err_from_is_err_and c.from_residual-in_err-test_blocks.result c.from_residual-in_err-test_blocks.ensures.1 in
    rw (back.1, back.2) (blocks_refused _ _ _ _ _
    (counted c.args.file.now c.test_first.ensures c.in_ok-test_first.was c.at.ensures c.header_of-shape.ensures c.sample_count-count.ensures.0 c.count_for-blocks.ensures.0)
    c.if-file-size.false c.if-samples-count.false _
    (sym c.test_blocks.ensures ∙ c.in_err-test_blocks.was))

pub returns : goal.returns
returns c =
    all_read _ _ _ _ _
    (counted c.args.file.now c.test_first.ensures c.in_ok-test_first.was c.at.ensures c.header_of-shape.ensures c.sample_count-count.ensures.0 c.count_for-blocks.ensures.0)
    c.if-file-size.false c.if-samples-count.false
    (sym c.test_blocks.ensures ∙ c.in_ok-test_blocks.was) _
    c.unpack_blocks.ensures
