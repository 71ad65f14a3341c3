-- What the loop of `out_rows::chroma_sites` keeps.
use Prim.Native.Nat.{ℕ}
use lib.IntN.{pos, ◌+ℤ◌, ◌-ℤ◌, ◌*ℤ◌}
use lib.ListN.{get_or}
use Rattle.toolkit.specs.Entries.{Entries}
use Rattle.method.specs.Planes.{final_round}
use Rattle.out_rows.proofs.chroma_sites.Given as goal

abbrev pub invariant-loop-k : goal.invariant-loop-k
invariant-loop-k l =
    Entries (pos 0) 2064 4 l.k (λ (x : ℕ). final_round (get_or l.own x (pos 0) +ℤ pos 4 *ℤ get_or l.z x (pos 0)) -ℤ pos l.black.level) l.g
    × Entries (pos 0) 2064 4 l.k (λ (x : ℕ). final_round (get_or l.own x (pos 0) +ℤ pos 4 *ℤ get_or l.z x (pos 0) -ℤ get_or l.other x (pos 0)) -ℤ pos l.black.level) l.y
