-- `out_rows::direct_mean` meets its contract. Assumes nothing.
use mathlib.Core.Path.{◌≡◌, ◌∙◌}
use mathlib.Core.List.{[], ◌∷◌}
use mir.Facts.{to_z-of_z}
use Rattle.method.specs.Four.{same_four}
use Rattle.means.specs.Lifts.{lifted_mean_fits}
use Rattle.out_rows.proofs.direct_mean.Goals as goal

values_are : (c : goal.After-values) → let a = c.args in c.values.result ≡ (a.east ∷ a.west ∷ a.south ∷ a.north ∷ [])
values_are c =
    let f = c.ranges in
    c.values.ensures ∙ same_four (to_z-of_z f.east) (to_z-of_z f.west) (to_z-of_z f.south) (to_z-of_z f.north)

pub lifted_mean-requires : goal.lifted_mean-requires
lifted_mean-requires c = let p = c.requires in rw (values_are c) (lifted_mean_fits 4096 40920 p.at_most p.naturals tt)
