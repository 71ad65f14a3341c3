-- What the loop of `payload::unpack_payload` keeps: the first 4·g samples are stored.
use Rattle.std.proofs.Common.{◌≡◌, ◌*◌, take}
use Rattle.frame_file.specs.FrameFile.{unpacked_payload}
use Rattle.payload.proofs.unpack_payload.Given as goal

abbrev pub invariant-loop-g : goal.invariant-loop-g
invariant-loop-g l = take (4 * l.g) l.samples ≡ take (4 * l.g) (unpacked_payload l.payload)
