-- What the loop of `payload::pack_payload` keeps: the first g groups are stored.
use Rattle.std.proofs.Common.{◌≡◌}
use Rattle.payload.proofs.Groups.{stored}
use Rattle.payload.proofs.pack_payload.Given as goal

abbrev pub invariant-loop-g : goal.invariant-loop-g
invariant-loop-g l = l.payload ≡ stored l.samples l.initial.payload l.g
