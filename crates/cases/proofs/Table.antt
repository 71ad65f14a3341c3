-- The case table as one fact: each of its 38 rows holds. Assumes nothing.
use Rattle.std.specs.Prelude.{◌≡◌, refl, List, [], ◌++◌, ℕ, length, get_or}
use Rattle.std.proofs.Common.{sym, ◌∙◌, ap, ap₂}
use Rattle.std.proofs.lemmas.List.{map-append}
use Rattle.std.proofs.Math.ListN.{get_or-map}
use Rattle.cases.specs.Row.{Value, Case, all_given, all_told}
use Rattle.cases.specs.GlazeCases.{glaze_cases}
use Rattle.cases.proofs.GlazeCases.{glaze_cases_hold}
use Rattle.cases.specs.FrameCases.{frame_cases}
use Rattle.cases.proofs.FrameCases.{frame_cases_hold}
use Rattle.cases.specs.AnswerCases.{answer_cases}
use Rattle.cases.proofs.AnswerCases.{answer_cases_hold}
use Rattle.cases.specs.FileCases.{stored_cases, printed_cases}
use Rattle.cases.proofs.FileCases.{stored_cases_hold, printed_cases_hold}
use Rattle.cases.specs.Table.{cases}

-- two parts of a table
both : (rows more : List Case) → all_given rows ≡ all_told rows → all_given more ≡ all_told more
    → all_given (rows ++ more) ≡ all_told (rows ++ more)
both rows more e e' =
    map-append (λ (c : Case). c.given) rows more
    ∙ (ap₂ (λ (a b : List (List Value)). a ++ b) e e' ∙ sym (map-append (λ (c : Case). c.told) rows more))

pub all_cases : all_given cases ≡ all_told cases
unfolding cases
all_cases =
    both glaze_cases _ glaze_cases_hold
    (both frame_cases _ frame_cases_hold
    (both answer_cases _ answer_cases_hold (both stored_cases printed_cases stored_cases_hold printed_cases_hold)))

-- no row is missing
pub cases_counted : length cases ≡ 38
unfolding cases glaze_cases frame_cases answer_cases stored_cases printed_cases
cases_counted = refl

-- each row, counted from 0
pub one_case : (k : ℕ) → (get_or cases k (record { given = []; told = [] })).given ≡ (get_or cases k (record { given = []; told = [] })).told
one_case k =
    sym (get_or-map (λ (c : Case). c.given) cases k (record { given = []; told = [] }))
    ∙ (ap (λ (l : List (List Value)). get_or l k []) all_cases
    ∙ get_or-map (λ (c : Case). c.told) cases k (record { given = []; told = [] }))
