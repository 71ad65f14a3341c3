-- What the loop of `out_rows::Places::direct_means` keeps.
use Prim.Native.Nat.{ℕ, ◌+◌, ◌-◌}
use lib.IntN.{pos}
use Rattle.toolkit.specs.Entries.{Entries}
use Rattle.out_rows.specs.DirectMeans.{own_mean, other_mean}
use Rattle.out_rows.proofs.Places.direct_means.Given as goal

abbrev pub invariant-loop-k : goal.invariant-loop-k
invariant-loop-k l =
    Entries (pos 0) 2064 4 (l.k + 4) (λ (j : ℕ). own_mean l.fn.self l.work l.n l.own (j - 4)) l.x
    × Entries (pos 0) 2064 4 (l.k + 4) (λ (j : ℕ). other_mean l.fn.self l.work l.n l.other (j - 4)) l.y
