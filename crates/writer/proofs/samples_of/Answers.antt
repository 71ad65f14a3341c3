-- `writer::samples_of` meets its contract. Assumes nothing.
use Rattle.std.proofs.Common.{◌≡◌, ℕ, ◌*◌, ◌-◌, List, length, drop, arith, length-drop}
use Rattle.std.specs.Prelude.{min}
use Rattle.std.proofs.lemmas.List.{take_min}
use Rattle.frame_file.specs.Lists.{part}
use Rattle.writer.proofs.samples_of.Goals as goal

pub returns : goal.returns
unfolding part
returns c =
    let start : ℕ = 400 * (c.args.n - 1) in
    let rest : List ℕ = drop start c.args.mosaic.now in
    let count : c.min.result - start ≡ min 400 (length rest) = omega (arith, length-drop start c.args.mosaic.now) in
    rw (count, take_min)
