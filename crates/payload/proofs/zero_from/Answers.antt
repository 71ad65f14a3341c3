-- `payload::zero_from` meets its contract. Assumes nothing.
use mathlib.Core.Path.{refl, ◌∙◌}
use lib.Dec.{eqb}
use lib.ListN.{get_or}
use borrow.Author.Rules.{rules}
use Rattle.std.proofs.Common.{tests}
use Rattle.std.proofs.lemmas.Iterator.{YieldsList-from_range}
use Rattle.std.proofs.lemmas.Iterator.Search.{all_from_yields_List}
use Rattle.frame_file.specs.FrameFile.{unpacked_payload}
use Rattle.frame_file.proofs.Raw10.{length_unpacked_payload}
use Rattle.payload.proofs.Groups.{zero_entries}
use native.Mathlib.Omega.{arith}
use Rattle.payload.proofs.zero_from.Goals as goal

pub returns : goal.returns
returns c =
    let samples = unpacked_payload c.args.payload.now in
    all_from_yields_List (λ k. eqb (get_or samples k 0) 0) _ _ _ c.all.ensures.ran (YieldsList-from_range c.args.from _ _ refl refl)
    (λ x b q k. search (rules, tests))
    ∙ zero_entries samples _ c.args.from (omega (arith, length_unpacked_payload c.args.payload.now))
