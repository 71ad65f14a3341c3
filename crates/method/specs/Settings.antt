-- The numbers that the method is given beside the samples: which they are, what they may be, and what every frame gives them. Definitions
-- alone. Assumes nothing.
use Rattle.std.specs.Prelude.{ℕ, ◌≤◌}

-- the threshold of the first pass, in tenths; the reach of t in the second pass; the share of D in the final difference, in hundredths
pub record Settings : Type 0 where
  pub threshold : ℕ
  pub reach : ℕ
  pub share : ℕ

-- the ranges in which they lie
pub record SettingsAllowed (s : Settings) : Type 0 where
  pub threshold_low : 10 ≤ s.threshold
  pub threshold_high : s.threshold ≤ 50
  pub reach_low : 1 ≤ s.reach
  pub reach_high : s.reach ≤ 4
  pub share_high : s.share ≤ 50

-- ---- those of every frame

unfoldable pub threshold : ℕ
threshold = 17

unfoldable pub reach : ℕ
reach = 3

unfoldable pub fusion_share : ℕ
fusion_share = 33

abbrev pub usual_settings : Settings
usual_settings = record { threshold = threshold; reach = reach; share = fusion_share }
