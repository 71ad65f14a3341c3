-- `half_rows::north` meets its contract. One copy of two, by the row. Assumes nothing.
use mathlib.Core.Path.{◌≡◌, sym, ◌∙◌, ap}
use Prim.Native.Nat.{ℕ, ◌+◌, ◌*◌, ◌-◌}
use lib.IntN.{pos}
use lib.ListN.{get_or}
use native.Mathlib.Omega.{arith}
use Rattle.toolkit.specs.Entries.{entries_as}
use Rattle.positions.specs.Rings.{place_in_ring}
use Rattle.records.specs.Layout.{record_size, south_part}
use Rattle.half_rows.specs.Norths.{north_of_tops, north_of_work, south_inside}
use Rattle.half_rows.proofs.north.Goals as goal

pub copy-requires-else-i-lt2 : goal.copy-requires-else-i-lt2
copy-requires-else-i-lt2 c =
    let room = c.requires in
    let place = rw (c.at.ensures.shape, c.at.ensures.index) at c.south_at.ensures in
    (omega (arith, place, south_inside _ _ _ _ _ _ _ room c.if-i-lt2.false), room.few)

pub overflow_add-south_at : goal.overflow_add-south_at
overflow_add-south_at c =
    let place = rw (c.at.ensures.shape, c.at.ensures.index) at c.south_at.ensures in
    omega (arith, place, south_inside _ _ _ _ _ _ _ c.requires c.if-i-lt2.false)

pub returns-then-i-lt2 : goal.returns-then-i-lt2
returns-then-i-lt2 c =
    let a = c.args in
    entries_as c.copy.ensures (omega arith) (omega arith) (λ x l h.
    let e : a.row.index * 4112 + a.at + (x - 4) ≡ a.row.index * 4112 + (a.at + (x - 4)) = omega arith in
    ap (λ (k : ℕ). get_or a.tops.now k (pos 0)) e
    ∙ sym (north_of_tops a.tops.now a.work.now a.row.shape.width a.row.index (a.at + (x - 4)) c.if-i-lt2.true))

pub returns-else-i-lt2 : goal.returns-else-i-lt2
returns-else-i-lt2 c =
    let a = c.args in
    let place = rw (c.at.ensures.shape, c.at.ensures.index) at c.south_at.ensures in
    entries_as c.copy-else-i-lt2.ensures (omega arith) (omega arith) (λ x l h.
    let e : c.south_at.result + a.at + (x - 4) ≡ place_in_ring (a.row.index - 2) * record_size a.row.shape.width + south_part a.row.shape.width + (a.at + (x - 4)) =
    omega (arith, place) in
    ap (λ (k : ℕ). get_or a.work.now k (pos 0)) e
    ∙ sym (north_of_work a.tops.now a.work.now a.row.shape.width a.row.index (a.at + (x - 4)) c.if-i-lt2.false))
