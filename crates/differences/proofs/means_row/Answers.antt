-- `differences::means_row` meets its contract. The loop has formed the means of k sites. Assumes nothing.
use Rattle.std.proofs.Common.{◌+◌, ◌<◌, pos, ◌∙◌, length, length-set, get_or-set_same, get_or-set_other}
use native.Mathlib.Omega.{arith}
use Rattle.toolkit.specs.Tests.{by_test, eqb_eq, eqb_ne}
use lib.Dec.{eqb}
use Rattle.half_rows.specs.Reading.{as_read}
use Rattle.differences.proofs.means_row.Goals as goal

pub loop-k-preserved : goal.loop-k-preserved
loop-k-preserved g c =
    let row = c.loop-k.m in
    let at = c.loop-k.k + 4 in
    let inside : at < length row = omega (arith, c.requires.few, c.loop-k.invariant.size) in record {
      size = length-set _ _ _ ∙ c.loop-k.invariant.size;
      formed = λ j low. by_test (eqb j c.loop-k.k) _
          (λ t. rw (eqb_eq j c.loop-k.k t, get_or-set_same row at _ (pos 0) inside, as_read c.mean.type_inv) c.mean.ensures)
          (λ t. rw (get_or-set_other row at (j + 4) _ (pos 0) (λ e. eqb_ne t (omega (arith, e))))
          (c.loop-k.invariant.formed j (omega (arith, low, eqb_ne t))));
    }
