-- `curve::curve_all` meets its contract. Assumes nothing.
use Rattle.std.proofs.Common.{◌≡◌, ℤ, pos, get_or, w32, to_z, of_z, arith, rules, to_z-of_z}
use Rattle.toolkit.specs.Filling.{filled_next, filled_all}
use Rattle.answers.proofs.Clamped.{thirteen_in_figures}
use Rattle.tone_curve.specs.ToneCurve.{curved_number, curved}
use Rattle.curve.proofs.curve_all.Goals as goal

pub curved_number-requires : goal.curved_number-requires
curved_number-requires c =
    let v : ℤ = get_or c.args.plane.now c.loop-k.k (pos 0) in
    let read : to_z w32 (of_z w32 v) ≡ v = to_z-of_z {w = w32} (search rules) in
    rw read ((thirteen_in_figures c.args.plane.now).0 c.requires.clamped c.loop-k.k (omega arith))

pub loop-k-preserved : goal.loop-k-preserved
loop-k-preserved c =
    filled_next curved_number (pos 0) (pos 0) c.args.plane.now c.args.curved.now _ _ _ (omega arith) c.requires.equal c.loop-k.invariant (search rules)

pub returns : goal.returns
unfolding curved
returns c = filled_all curved_number c.args.plane.now c.args.curved.now _ c.loop-k.k (omega arith) c.requires.equal c.loop-k.invariant
