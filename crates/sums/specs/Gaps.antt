-- |x − y|, by which of both is the lesser, and its size; sums of two. Assumes nothing.
use Rattle.std.specs.Prelude.{◌≡◌, true, false, ◌≤◌, ℤ, pos, nat_abs, ◌+ℤ◌, ◌-ℤ◌}
use Rattle.std.proofs.Common.{arith}
use Rattle.std.specs.Int.Signed.{lt_z}
use Rattle.toolkit.specs.Differences.{as_difference}
use Rattle.toolkit.specs.Orders.{to_naturals}
use Rattle.method.specs.Gradients.{apart}

pub gap_below : (x y : ℤ) → lt_z x y ≡ true → y -ℤ x ≡ pos (apart x y)
unfolding apart
gap_below x y = rw (as_difference x, as_difference y) (simp to_naturals (omega arith))

pub gap_above : (x y : ℤ) → lt_z x y ≡ false → x -ℤ y ≡ pos (apart x y)
unfolding apart
gap_above x y = rw (as_difference x, as_difference y) (simp to_naturals (omega arith))

pub apart_most : (x y : ℤ) → nat_abs x ≤ 32760 → nat_abs y ≤ 32760 → apart x y ≤ 65520
unfolding apart
apart_most x y = rw (as_difference x, as_difference y) (simp to_naturals (omega arith))

-- two distances added to a sum, of numbers as they were read
pub gaps_read : (s r a b x y z : ℤ) {x' y' z' : ℤ} → x' ≡ x → y' ≡ y → z' ≡ z → r ≡ s → a ≡ pos (apart x' y') → b ≡ pos (apart x' z')
    → r +ℤ a +ℤ b ≡ s +ℤ pos (apart x y) +ℤ pos (apart x z)
gaps_read s r a b x y z ex ey ez er ea eb = rw (er, ea, eb, ex, ey, ez)
