use Rattle.std.proofs.Common.{arith}
use Rattle.text.specs.Put.{put_then}
use Rattle.text.proofs.lent.number_then.Goals as goal

pub returns : goal.returns
returns c = put_then (omega (arith, c.requires)) c.number-next.ensures c.byte.ensures
