-- Laws of sides and phases that are allowed. Assumes nothing.
use Rattle.std.specs.Prelude.{T, leb, ℕ, ◌≤◌}
use Rattle.toolkit.specs.Tests.{and_true, is_true, leb_le}
use Rattle.frame.specs.Sites.{side_allowed, phase_allowed}

-- an allowed side is from 2 to 4,096
pub side_low : {n : ℕ} → T (side_allowed n) → 2 ≤ n
unfolding side_allowed
side_low {n} t = leb_le _ _ (and_true (leb 2 n) (leb n 4096) (is_true _ t)).0

pub side_high : {n : ℕ} → T (side_allowed n) → n ≤ 4096
unfolding side_allowed
side_high {n} t = leb_le _ _ (and_true (leb 2 n) (leb n 4096) (is_true _ t)).1

-- an allowed phase is at most 3
pub phase_high : {p : ℕ} → T (phase_allowed p) → p ≤ 3
unfolding phase_allowed
phase_high {p} t = leb_le p 3 (is_true _ t)
