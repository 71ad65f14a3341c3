-- `first_pass::settle` meets its contract. Each value that it chooses is `settled` at the outcomes that are left. Assumes nothing.
use Rattle.std.proofs.Common.{◌≡◌, ◌∙◌, refl, sym, ap, ℤ, w32}
use mir.Facts.{to_z-of_z}
use Rattle.first_pass.specs.declared.FirstPass.{FirstPass}
use Rattle.first_pass.specs.declared.FirstPass.TheVariants.{Equal, Across, Down, Weak}
use Rattle.first_pass.specs.Outcomes.{settled, half_read}
use Rattle.first_pass.proofs.settle.Goals as goal
use Rattle.first_pass.proofs.settle.Goals.{in-Across, in_default, in-Equal, in_default-o}

-- neither Across, nor Equal, nor Weak
down_left : (a b own : ℤ) (o : FirstPass) → ¬ (o ≡ Across) → ¬ (o ≡ Equal) → ¬ (o ≡ Weak) → b ≡ settled o a b own
down_left a b own Equal x y z = absurd (y refl)
down_left a b own Across x y z = absurd (x refl)
down_left a b own Down x y z = refl
down_left a b own Weak x y z = absurd (z refl)

pub returns-in_default-o-2 : goal.returns-in_default-o-2
returns-in_default-o-2 c =
    let a = c.args in
    let answer = λ (o : FirstPass). settled o a.a a.b a.own in
    elim c.match-o-2.branch [
      | in-Equal w ↦ w.found-is ∙ half_read a.a a.b c.requires.0 c.requires.1 ∙ sym (ap answer w.in-Equal.is)
      | in_default-o w ↦ w.found-is ∙ elim c.match-o.branch [
        | in-Across v ↦ v.straight-is ∙ to_z-of_z {w = w32} c.ranges.a ∙ sym (ap answer v.in-Across.is)
        | in_default v ↦ v.straight-is ∙ to_z-of_z {w = w32} c.ranges.b
            ∙ down_left a.a a.b a.own a.o v.in_default.not-Across w.in_default-o.not-Equal c.in_default-o-2.not-Weak
      ]
    ]
