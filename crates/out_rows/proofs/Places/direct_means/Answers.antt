-- `out_rows::Places::direct_means` meets its contract. Assumes nothing.
use mathlib.Core.Path.{◌≡◌, ◌∙◌, ap}
use native.Mathlib.Omega.{arith}
use Prim.Native.Nat.{◌+◌, ◌-◌, ◌<◌}
use Rattle.std.proofs.Common.{rules}
use Rattle.toolkit.specs.Entries.{entries_next}
use Rattle.half_rows.specs.Reading.{as_read}
use Rattle.half_rows.specs.SiteGradients.{weighed_naturals}
use Rattle.out_rows.specs.DirectMeans.{own_mean, other_mean}
use Rattle.out_rows.specs.MeanLaws.{read_mean_under}
use Rattle.out_rows.proofs.Places.direct_means.Goals as goal

pub direct_mean-requires-clause-at_most : goal.direct_mean-requires-clause-at_most
direct_mean-requires-clause-at_most c = search (rules, c.requires.direct_reads.own_small)

pub direct_mean-requires-clause-naturals : goal.direct_mean-requires-clause-naturals
direct_mean-requires-clause-naturals c = rw c.weights-g.ensures (weighed_naturals c.requires.direct_reads.gradients c.loop-k.k c.loop-k-test.true)

pub direct_mean-requires-in-loop-k-clause-at_most : goal.direct_mean-requires-in-loop-k-clause-at_most
direct_mean-requires-in-loop-k-clause-at_most c = search (rules, c.requires.direct_reads.other_small)

pub direct_mean-requires-in-loop-k-clause-naturals : goal.direct_mean-requires-in-loop-k-clause-naturals
direct_mean-requires-in-loop-k-clause-naturals c = rw c.weights-g.ensures (weighed_naturals c.requires.direct_reads.gradients c.loop-k.k c.loop-k-test.true)

pub loop-k-preserved : goal.loop-k-preserved
loop-k-preserved c =
    let a = c.args in
    let back : c.loop-k.k ≡ c.loop-k.k + 4 - 4 = omega arith in
    let room : c.loop-k.k + 4 < 2064 = omega (arith, c.requires.direct_reads.gradients.few) in (
      entries_next c.loop-k.invariant.0 room (omega arith)
          (as_read c.direct_mean.type_inv
          ∙ (read_mean_under (as_read (search rules)) (as_read (search rules)) (as_read (search rules)) (as_read (search rules))
          _ c.weights-g.ensures c.direct_mean.ensures
          ∙ ap (own_mean a.self a.work.now a.n.now a.own.now) back)),
      entries_next c.loop-k.invariant.1 room (omega arith)
          (as_read c.direct_mean-in-loop-k.type_inv
          ∙ (read_mean_under (as_read (search rules)) (as_read (search rules)) (as_read (search rules)) (as_read (search rules))
          _ c.weights-g.ensures c.direct_mean-in-loop-k.ensures
          ∙ ap (other_mean a.self a.work.now a.n.now a.other.now) back)),
    )
