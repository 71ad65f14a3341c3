-- What the loop of `first_pass::trial_row` keeps.
use lib.IntN.{pos}
use Rattle.toolkit.specs.Writes.{Wrote}
use Rattle.method.specs.Green.{vertical, diagonal}
use Rattle.first_pass.specs.Trials.{site_trial, site_code}
use Rattle.first_pass.proofs.trial_row.Given as goal

abbrev pub invariant-loop-k : goal.invariant-loop-k
invariant-loop-k l =
    Wrote (pos 0) l.at l.k (site_trial diagonal l.gradients.work.now l.gradients.east l.gradients.south l.gradients.north.now l.a l.b) l.initial.diagonals l.diagonals
    × Wrote (pos 0) l.at l.k (site_trial vertical l.gradients.work.now l.gradients.east l.gradients.south l.gradients.north.now l.a l.b) l.initial.verticals l.verticals
    × Wrote 0 l.at l.k (site_code l.gradients.work.now l.gradients.east l.gradients.south l.gradients.north.now) l.initial.map l.map
