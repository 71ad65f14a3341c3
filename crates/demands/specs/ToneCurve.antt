-- Document 02, A4: the rule of the curve's entries, of whole numbers. Definitions alone. Assumes nothing.
use Rattle.std.specs.Prelude.{◌≡◌, ℤ, pos, ◌+ℤ◌, ◌-ℤ◌, ◌*ℤ◌, ◌≤ℤ◌, ◌<ℤ◌}

abbrev pub square : ℤ → ℤ
square z = z *ℤ z

-- "entry 0 is 0, and for v from 1 to 1,023 the entry t satisfies (2t − 1)² < 4,092·v < (2t + 1)².": t follows it at v
pub record FollowsRule (v t : ℤ) : Type 0 where
  pub zero_at_zero : v ≡ pos 0 → t ≡ pos 0
  pub low : pos 1 ≤ℤ v → square (pos 2 *ℤ t -ℤ pos 1) <ℤ (pos 4092 *ℤ v)
  pub high : pos 1 ≤ℤ v → (pos 4092 *ℤ v) <ℤ square (pos 2 *ℤ t +ℤ pos 1)
