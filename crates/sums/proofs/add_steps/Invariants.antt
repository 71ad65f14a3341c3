-- What the loop of `sums::add_steps` keeps.
use Prim.Native.Nat.{◌*◌, ◌-◌}
use Rattle.sums.specs.Sums.{Widens, SumsRoom}
use Rattle.sums.proofs.add_steps.Given as goal

abbrev pub invariant-loop-t : goal.invariant-loop-t
invariant-loop-t l =
    SumsRoom ((l.t - 1) * 131040) l.planes.count l.sums.across l.sums.vertical l.sums.diagonal
    × Widens l.planes.shape l.planes.index 0 (l.t - 1) l.planes.diagonals.now l.planes.verticals.now l.trials.across l.trials.vertical l.trials.diagonal l.initial.sums.across
    l.initial.sums.vertical l.initial.sums.diagonal l.sums.across l.sums.vertical l.sums.diagonal
