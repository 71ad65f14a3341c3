-- `first_pass::trial_row` meets its contract. The loop has stored k entries in both planes and in the map. Assumes nothing.
use Rattle.std.proofs.Common.{◌≡◌, ◌∙◌, ◌+◌, pos, get_or, w32, to_z, of_z, arith, rules}
use Rattle.toolkit.specs.Writes.{wrote_next}
use Rattle.half_rows.specs.Reading.{as_read}
use Rattle.first_pass.proofs.trial_row.Goals as goal

pub loop-k-preserved : goal.loop-k-preserved
loop-k-preserved c =
    let a = c.args in
    let k = c.loop-k.k in
    let x = get_or a.a.now (k + 4) (pos 0) in
    let y = get_or a.b.now (k + 4) (pos 0) in
    let x_read : to_z w32 (of_z w32 x) ≡ x = as_read (search rules) in
    let y_read : to_z w32 (of_z w32 y) ≡ y = as_read (search rules) in
    let told = rw (c.at-g.ensures, x_read, y_read) at c.try_site-trial.ensures in
    let r = c.try_site-trial.result in
    let diagonal_read : to_z w32 (of_z w32 r.diagonal) ≡ r.diagonal = as_read (search rules) in
    let vertical_read : to_z w32 (of_z w32 r.vertical) ≡ r.vertical = as_read (search rules) in
    let before = c.loop-k.invariant in (
      wrote_next before.0 (omega arith) (diagonal_read ∙ told.0),
      wrote_next before.1 (omega arith) (vertical_read ∙ told.1),
      wrote_next before.2 (omega arith) told.2,
    )
