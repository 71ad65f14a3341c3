-- `block::number` meets its contract. Assumes nothing.
use native.Mathlib.Omega.{arith}
use Rattle.block.proofs.Numbers.{number_read}
use Rattle.block.proofs.number.Goals as goal

pub returns : goal.returns
returns g c =
    number_read _ _ _ _ _ c.copy_from_slice.ensures.after (omega arith) (omega arith) (λ i. omega (arith, c.type_inv.bytes i))
    c.from_le_bytes.ensures
