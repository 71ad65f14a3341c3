-- The answers at black levels are as told, by one computation. Assumes nothing.
use Rattle.std.specs.Prelude.{◌≡◌, refl}
use Rattle.frame.specs.Sites.{side_allowed, phase_allowed, highest_sample}
use Rattle.answers.specs.Calls.{first_failing, in_order, sides_answer, phase_answer, mosaic_answer, samples_answer, highest_black, black_answer, most_under, under_answer, lengths_fit, lengths_allowed, develop_answer}
use Rattle.cases.specs.Row.{all_given, all_told}
use Rattle.cases.specs.AnswerCases.{answer_cases}

pub answer_cases_hold : all_given answer_cases ≡ all_told answer_cases
unfolding answer_cases develop_answer in_order sides_answer phase_answer mosaic_answer side_allowed phase_allowed black_answer highest_black lengths_allowed lengths_fit samples_answer highest_sample under_answer most_under first_failing
answer_cases_hold = refl
