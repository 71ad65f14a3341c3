-- `reader::zero` meets its contract. Assumes nothing.
use Rattle.std.proofs.Common.{◌∙◌, eqb, rules, tests}
use Rattle.std.proofs.lemmas.Iterator.{YieldsList-from_slice}
use Rattle.std.proofs.lemmas.Iterator.Search.{all_from_yields_List}
use Rattle.reader.proofs.Tests.{each_zero}
use Rattle.reader.proofs.zero.Goals as goal

pub returns : goal.returns
returns c =
    all_from_yields_List (λ z. eqb z 0) _ _ _ c.all.ensures.ran (YieldsList-from_slice c.args.bytes.now (cc)) (λ x b q k. search (rules, tests))
    ∙ each_zero c.args.bytes.now
