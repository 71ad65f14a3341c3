-- What the loop of `differences::means_row` keeps.
use Rattle.std.proofs.Common.{◌≡◌, ℕ, ◌+◌, ◌<◌, pos, length, get_or}
use Rattle.differences.proofs.means_row.Given as goal

abbrev pub invariant-loop-k : goal.invariant-loop-k
invariant-loop-k g l = record {
  size : length l.m ≡ 2064;
  formed : (j : ℕ) → j < l.k → goal.F-post g l.mean j (get_or l.m (j + 4) (pos 0));
}
