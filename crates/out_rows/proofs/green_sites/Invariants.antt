-- What the loop of `out_rows::green_sites` keeps.
use Prim.Native.Nat.{ℕ, ◌+◌}
use lib.IntN.{pos, ◌-ℤ◌, ◌*ℤ◌}
use lib.ListN.{get_or}
use Rattle.toolkit.specs.Entries.{Entries}
use Rattle.method.specs.Planes.{final_round}
use Rattle.out_rows.proofs.green_sites.Given as goal

abbrev pub invariant-loop-k : goal.invariant-loop-k
invariant-loop-k l =
    Entries (pos 0) 2064 4 l.k (λ (x : ℕ). final_round (pos 4 *ℤ get_or l.z x (pos 0) -ℤ get_or l.initial.m x (pos 0)) -ℤ pos l.black.level) l.m
    × Entries (pos 0) 2064 l.k (l.count + 4) (λ (x : ℕ). get_or l.initial.m x (pos 0)) l.m
