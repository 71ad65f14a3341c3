-- Document 02, A3: how far from a site each step of the method reads. Definitions alone. Assumes nothing.
use Rattle.std.specs.Prelude.{◌≡◌, ℕ, ◌+◌, ◌*◌, ◌≤◌, ℤ, nat_abs}
use Rattle.frame.specs.Sites.{Around}

-- two surroundings are alike to d rows and d columns off
abbrev pub AlikeTo : {X : Type 0} → ℕ → Around X → Around X → Type 0
AlikeTo d N N' = (r c : ℤ) → nat_abs r ≤ d → nat_abs c ≤ d → N r c ≡ N' r c

-- a step, which is told what stands around a site, reads at most d rows and d columns off: it answers alike wherever those are alike
abbrev pub Reads : {X Y : Type 0} → ℕ → (Around X → Y) → Type 0
Reads {X} d step = (N N' : Around X) → AlikeTo d N N' → step N ≡ step N'

-- ---- how far each step reads

-- gradients, and the estimates of green with them
unfoldable pub gradient_distance : ℕ
gradient_distance = 4

-- t goes to the reach
unfoldable pub second_pass_distance : ℕ → ℕ
second_pass_distance reach = 2 * reach

unfoldable pub enhancement_distance : ℕ
enhancement_distance = 2

unfoldable pub corner_distance : ℕ
corner_distance = 1

unfoldable pub neighbour_distance : ℕ
neighbour_distance = 1

-- ---- how far from a site what each step leaves is read for its three numbers, from the last step back

-- green minus red and green minus blue at red and blue sites
unfoldable pub differences_off : ℕ
differences_off = neighbour_distance

-- the final differences
unfoldable pub finals_off : ℕ
finals_off = differences_off + corner_distance

-- D
unfoldable pub greens_off : ℕ
greens_off = finals_off + enhancement_distance

-- the trial differences r_k
unfoldable pub trials_off : ℕ → ℕ
trials_off reach = greens_off + second_pass_distance reach

-- the samples: the distance that is read for a site in all
unfoldable pub reading_distance : ℕ → ℕ
reading_distance reach = trials_off reach + gradient_distance
