-- `first_pass::try_site` meets its contract. Both differences and the code are of one outcome (`settled_is`). Assumes nothing.
use mathlib.Core.Path.{◌∙◌, ap}
use mir.Facts.{to_z-of_z}
use Rattle.method.specs.Four.{directions, sizes}
use Rattle.method.specs.Green.{vertical, diagonal}
use Rattle.records.specs.Quantities.{first_code}
use Rattle.half_rows.specs.Reading.{as_read}
use Rattle.first_pass.specs.Outcomes.{half_read}
use Rattle.first_pass.specs.Trials.{settled_is}
use mir.Syntax.{w32}
use Rattle.first_pass.proofs.try_site.Goals as goal

pub returns : goal.returns
returns c =
    let a = c.args.a in
    let b = c.args.b in
    let ea = to_z-of_z {w = w32} c.ranges.a in
    let eb = to_z-of_z {w = w32} c.ranges.b in
    let o = c.decide-o.result in
    let g = sizes (directions c.args.g) in
    let told = c.decide-o.ensures in (
      as_read c.settle.type_inv
          ∙ (rw (half_read a b c.requires.1 c.requires.2, ea, eb) at c.settle.ensures) ∙ settled_is diagonal o g a b told,
      as_read c.settle-2.type_inv ∙ (rw (ea, eb) at c.settle-2.ensures) ∙ settled_is vertical o g a b told,
      c.code_of.ensures ∙ ap first_code told,
    )
