-- `sums::add_gaps` meets its contract. Assumes nothing.
use Rattle.std.proofs.Common.{◌∙◌, ◌≤◌, ap, refl, to_z-of_z, pos}
use Rattle.std.specs.Int.{w32}
use Rattle.toolkit.specs.Bounds.{fits, val}
use Rattle.toolkit.specs.BoundRules.{vals, small}
use Rattle.method.specs.Gradients.{apart}
use Rattle.sums.specs.Gaps.{gaps_read}
use Rattle.sums.proofs.add_gaps.Goals as goal
use Rattle.sums.proofs.add_gaps.Goals.{After-abs_diff-2}

-- the sizes of the distances
module _ (c : After-abs_diff-2) where
  first_small : c.abs_diff.result ≤ 65520
  first_small = rw c.abs_diff.ensures (small (search vals depth 30) tt)

  second_small : c.abs_diff-2.result ≤ 65520
  second_small = rw c.abs_diff-2.ensures (small (search vals depth 30) tt)

pub overflow_add-result-2 : goal.overflow_add-result-2
overflow_add-result-2 c = let h = first_small c in let v = second_small c in fits (search vals depth 30) tt

pub returns : goal.returns
unfolding apart
returns c =
    let h = first_small c in
    let v = second_small c in
    let a = c.args in
    let f = c.ranges in
    val (search vals depth 30) tt
    ∙ gaps_read a.sum a.sum (pos c.abs_diff.result) (pos c.abs_diff-2.result) a.x a.y a.z (to_z-of_z {w = w32} f.x) (to_z-of_z {w = w32} f.y) (to_z-of_z {w = w32} f.z)
    refl (ap pos c.abs_diff.ensures) (ap pos c.abs_diff-2.ensures)
