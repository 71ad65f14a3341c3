-- r_H = 2·r_D − r_V at every site: where the site has its first-pass green all three are equal, and gD is the mean of gH and gV.
-- Assumes nothing.
use Rattle.std.specs.Prelude.{◌≡◌, ℕ, ℤ, pos, ◌+ℤ◌, ◌-ℤ◌, ◌*ℤ◌}
use Rattle.std.proofs.Common.{arith}
use Rattle.toolkit.specs.Differences.{as_difference}
use Rattle.toolkit.specs.Orders.{to_naturals}
use Rattle.frame.specs.Sites.{Frame, Around}
use Rattle.method.specs.Gradients.{mosaic, samples_around}
use Rattle.method.specs.Green.{Outcome, equal, strong_across, strong_down, weak, first_pass_or, horizontal, vertical, diagonal}
use Rattle.method.specs.Green.{estimate, less_eight, outcome_at, green_or, trial_difference}
use Rattle.method.proofs.GreenLaws.{diagonal_is_whole}
use Rattle.records.specs.Quantities.{trials}

all_equal : (x : ℤ) → pos 2 *ℤ x -ℤ x ≡ x
all_equal x = rw (as_difference x) (simp to_naturals (omega arith))

from_mean : (h v d X : ℤ) → pos 2 *ℤ d ≡ h +ℤ v → pos 2 *ℤ less_eight d X -ℤ less_eight v X ≡ less_eight h X
unfolding less_eight
from_mean h v d X = rw (as_difference h, as_difference v, as_difference d, as_difference X) (simp to_naturals (omega arith))

by_outcome : (o : Outcome) (Z : Around ℤ) (X : ℤ)
    → pos 2 *ℤ less_eight (estimate (first_pass_or o diagonal) Z) X -ℤ less_eight (estimate (first_pass_or o vertical) Z) X
    ≡ less_eight (estimate (first_pass_or o horizontal) Z) X
by_outcome equal Z X = all_equal _
by_outcome strong_across Z X = all_equal _
by_outcome strong_down Z X = all_equal _
by_outcome weak Z X = from_mean (estimate horizontal Z) (estimate vertical Z) (estimate diagonal Z) X (diagonal_is_whole Z)

pub across_is : (f : Frame) (i j : ℕ) → pos 2 *ℤ trials f diagonal i j -ℤ trials f vertical i j ≡ trials f horizontal i j
unfolding trials trial_difference green_or
across_is f i j = by_outcome (outcome_at (mosaic f) i j) (samples_around (mosaic f) i j) ((mosaic f).sample_at i j)
