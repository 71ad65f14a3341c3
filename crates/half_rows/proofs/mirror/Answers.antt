-- `half_rows::mirror` meets its contract. Each turn of the loop fills one entry more on each side (`mirror_step`). Assumes nothing.
use mathlib.Core.Path.{refl, sym, ap}
use Prim.Native.Nat.{ℕ, ◌+◌}
use lib.IntN.{pos}
use lib.ListN.{get_or}
use Rattle.toolkit.specs.Entries.{Entries, entries_as}
use Rattle.half_rows.specs.Mirror.{source_middle, mirror_step}
use borrow.Author.Rules.{rules}
use native.Mathlib.Omega.{arith}
use Rattle.half_rows.proofs.mirror.Goals as goal

pub loop-k-init : goal.loop-k-init
loop-k-init c =
    let p = c.requires in
    let a = c.args in
    let start : Entries (pos 0) 2064 4 (c.half_count-count.result + 4) (λ (x : ℕ). get_or a.row.now x (pos 0)) a.row.now =
    record { size = search rules; at = λ k l h. refl } in
    entries_as start (omega arith) (omega arith)
    (λ x l h. ap (λ (n : ℕ). get_or a.row.now n (pos 0))
    (sym (source_middle a.w a.c p.0 p.2 x l (omega (arith, c.half_count-count.ensures.0)))))

pub loop-k-preserved : goal.loop-k-preserved
loop-k-preserved c =
    let p = c.requires in
    let n = c.half_count-count.ensures in
    mirror_step c.args.w c.args.c p.0 p.2 c.args.row.now c.loop-k.row c.loop-k.k
    c.half_count-count.result _ _ _ _ n.0 n.1 n.2
    (omega arith) (omega arith) c.loop-k.invariant c.column_place-west.ensures (search rules)
    c.column_place-east.ensures (search rules)
