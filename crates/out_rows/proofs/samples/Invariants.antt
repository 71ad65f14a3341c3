-- What the loop of `out_rows::samples` keeps.
use Prim.Native.Nat.{ℕ, ◌+◌, ◌*◌, ◌-◌}
use lib.IntN.{pos}
use lib.ListN.{get_or}
use Rattle.toolkit.specs.Entries.{Entries}
use Rattle.out_rows.proofs.samples.Given as goal

abbrev pub invariant-loop-k : goal.invariant-loop-k
invariant-loop-k l = Entries (pos 0) 2064 4 (l.k + 4) (λ (x : ℕ). pos (get_or l.rows (l.at + (l.c + 2 * (x - 4) + 8)) 0)) l.dst
