-- What the loop of `half_rows::mirror` keeps.
use Prim.Native.Nat.{ℕ, ◌+◌, ◌-◌}
use lib.IntN.{pos}
use lib.ListN.{get_or}
use Rattle.toolkit.specs.Entries.{Entries}
use Rattle.half_rows.specs.Sources.{source_entry}
use Rattle.half_rows.proofs.mirror.Given as goal

abbrev pub invariant-loop-k : goal.invariant-loop-k
invariant-loop-k l =
    Entries (pos 0) 2064 (5 - l.k) (l.count + 3 + l.k) (λ (x : ℕ). get_or l.initial.row (source_entry l.w l.c x) (pos 0)) l.row
