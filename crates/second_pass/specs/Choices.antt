-- What a choice takes of three. Assumes nothing.
use Rattle.second_pass.specs.declared.Choice.{Choice}
use Rattle.second_pass.specs.declared.Choice.TheVariants.{Across, Down, ToMean}

-- x across, y down, z to the mean
abbrev pub one_of : {A : Type 0} → Choice → A → A → A → A
one_of Across x y z = x
one_of Down x y z = y
one_of ToMean x y z = z
