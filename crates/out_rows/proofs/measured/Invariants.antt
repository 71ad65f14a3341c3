-- What the loop of `out_rows::measured` keeps.
use Prim.Native.Nat.{ℕ, ◌+◌}
use lib.IntN.{pos, ◌-ℤ◌}
use lib.ListN.{get_or}
use Rattle.toolkit.specs.Entries.{Entries}
use Rattle.out_rows.proofs.measured.Given as goal

abbrev pub invariant-loop-x : goal.invariant-loop-x
invariant-loop-x l =
    Entries (pos 0) l.count 0 l.x-index (λ (k : ℕ). get_or l.fn.z (4 + k) (pos 0) -ℤ pos l.black.level) l.x-items
    × Entries (pos 0) l.count l.x-index l.count (λ (k : ℕ). get_or l.fn.z (4 + k) (pos 0)) l.x-items
