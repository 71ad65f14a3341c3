-- `second_pass::pick` meets its contract. What a choice takes is picked by the sums (`choice_picked`). Assumes nothing.
use mathlib.Core.Path.{refl, ◌∙◌, ap}
use mathlib.Core.Bool.{cond}
use Prim.Native.Nat.{ℕ}
use lib.Dec.{ltb}
use mir.Facts.{to_z-of_z}
use Rattle.half_rows.specs.Reading.{as_read}
use Rattle.second_pass.specs.Picking.{picked_read}
use Rattle.second_pass.specs.Resolving.{choice_picked}
use mir.Syntax.{w32}
use Rattle.second_pass.proofs.pick.Goals as goal

pub returns : goal.returns
returns c =
    let a = c.args in
    let f = c.ranges in
    let choice = c.resolution-choice.ensures in (
      as_read c.taken.type_inv ∙ c.taken.ensures ∙ choice_picked _ _ _ _ _ _ choice
          ∙ picked_read (to_z-of_z {w = w32} f.fh) (to_z-of_z {w = w32} f.fv) (to_z-of_z {w = w32} f.fd) (to_z-of_z {w = w32} f.x) (to_z-of_z {w = w32} f.y) (to_z-of_z {w = w32} f.z),
      c.resolve.ensures ∙ ap (λ (n : ℕ). cond (ltb a.first 4) a.first n)
          (c.code.ensures ∙ choice_picked _ _ _ _ _ _ choice ∙ picked_read (to_z-of_z {w = w32} f.fh) (to_z-of_z {w = w32} f.fv) (to_z-of_z {w = w32} f.fd) refl refl refl),
    )
