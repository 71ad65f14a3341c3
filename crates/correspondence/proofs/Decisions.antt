-- The decision at one site: what a change of the frame does to it and to its code, which codes there are, and that 0 is the code of the
-- green sites alone. Assumes nothing.
use Rattle.std.specs.Prelude.{◌≡◌, refl, ℕ, eqb}
use Rattle.toolkit.specs.Tests.{by_test, eqb_eq}
use Rattle.method.specs.Green.{Direction, horizontal, vertical, diagonal, Outcome, equal, strong_across, strong_down, weak, Decision, measured, weak_across, weak_down, weak_to_mean, decision_code, decided}
use Rattle.correspondence.specs.Comparison.{Change, left_right, top_bottom, transposing, trading, exchanged_code}
use Rattle.correspondence.proofs.SiteChanges.{act_direction, act_outcome}

-- ---- how a change acts

abbrev swap_decision : Decision → Decision
swap_decision measured = measured
swap_decision Decision.equal = Decision.equal
swap_decision Decision.strong_across = Decision.strong_down
swap_decision Decision.strong_down = Decision.strong_across
swap_decision weak_across = weak_down
swap_decision weak_down = weak_across
swap_decision weak_to_mean = weak_to_mean

-- on a decision
abbrev pub act_decision : Change → Decision → Decision
act_decision left_right d = d
act_decision top_bottom d = d
act_decision transposing d = swap_decision d
act_decision trading d = d

-- on its code
abbrev pub act_code : Change → ℕ → ℕ
act_code left_right n = n
act_code top_bottom n = n
act_code transposing n = exchanged_code n
act_code trading n = n

pub decided_changed : (g : Change) (o : Outcome) (k : Direction)
    → decided (act_outcome g o) (act_direction g k) ≡ act_decision g (decided o k)
decided_changed left_right o k = refl
decided_changed top_bottom o k = refl
decided_changed transposing equal k = refl
decided_changed transposing strong_across k = refl
decided_changed transposing strong_down k = refl
decided_changed transposing weak horizontal = refl
decided_changed transposing weak vertical = refl
decided_changed transposing weak diagonal = refl
decided_changed trading o k = refl

pub code_changed : (g : Change) (d : Decision) → decision_code (act_decision g d) ≡ act_code g (decision_code d)
unfolding exchanged_code
code_changed left_right d = refl
code_changed top_bottom d = refl
code_changed transposing measured = refl
code_changed transposing Decision.equal = refl
code_changed transposing Decision.strong_across = refl
code_changed transposing Decision.strong_down = refl
code_changed transposing weak_across = refl
code_changed transposing weak_down = refl
code_changed transposing weak_to_mean = refl
code_changed trading d = refl

-- exchanging twice is no exchange
pub exchanged_twice : (n : ℕ) → exchanged_code (exchanged_code n) ≡ n
unfolding exchanged_code
exchanged_twice n = by_test (eqb n 2) _ (λ a. rw (eqb_eq n 2 a))
    (λ a. by_test (eqb n 3) _ (λ b. rw (eqb_eq n 3 b))
    (λ b. by_test (eqb n 4) _ (λ c. rw (eqb_eq n 4 c))
    (λ c. by_test (eqb n 5) _ (λ d. rw (eqb_eq n 5 d)) (λ d. simp (a, b, c, d)))))
