-- The codes of decisions: which there are, and that 0 is the code of the green sites alone. Assumes nothing.
use Rattle.std.specs.Prelude.{◌≡◌, refl, ◌↔◌, ℕ, ◌<◌, ◌≤◌}
use Rattle.std.proofs.Common.{arith}
use Rattle.frame.specs.Sites.{Colour, red, green, blue}
use Rattle.method.specs.Green.{Direction, horizontal, vertical, diagonal, Outcome, equal, strong_across, strong_down, weak, Decision, measured, weak_across, weak_down, weak_to_mean, decision_code, decided, decision_of}

pub code_most : (d : Decision) → decision_code d ≤ 6
code_most measured = omega arith
code_most Decision.equal = omega arith
code_most Decision.strong_across = omega arith
code_most Decision.strong_down = omega arith
code_most weak_across = omega arith
code_most weak_down = omega arith
code_most weak_to_mean = omega arith

decided_above : (o : Outcome) (k : Direction) → 0 < decision_code (decided o k)
decided_above equal k = omega arith
decided_above strong_across k = omega arith
decided_above strong_down k = omega arith
decided_above weak horizontal = omega arith
decided_above weak vertical = omega arith
decided_above weak diagonal = omega arith

pub zero_at_green : (c : Colour) (o : Outcome) (k : Direction) → (decision_code (decision_of c (decided o k)) ≡ 0) ↔ (c ≡ green)
zero_at_green red o k = (λ e. absurd (omega (arith, decided_above o k)), λ e. absurd (let z : ◌≡◌ {A = ℕ} 0 1 = cc in omega arith))
zero_at_green green o k = (λ e. refl, λ e. refl)
zero_at_green blue o k = (λ e. absurd (omega (arith, decided_above o k)), λ e. absurd (let z : ◌≡◌ {A = ℕ} 0 1 = cc in omega arith))

-- the codes above 3 are those of weak sites
pub weak_above : (o : Outcome) (k : Direction) → (3 < decision_code (decided o k)) ↔ (o ≡ weak)
weak_above equal k = (λ h. absurd (omega (arith, h)), λ e. absurd (let z : ◌≡◌ {A = ℕ} 0 1 = cc in omega arith))
weak_above strong_across k = (λ h. absurd (omega (arith, h)), λ e. absurd (let z : ◌≡◌ {A = ℕ} 0 1 = cc in omega arith))
weak_above strong_down k = (λ h. absurd (omega (arith, h)), λ e. absurd (let z : ◌≡◌ {A = ℕ} 0 1 = cc in omega arith))
weak_above weak horizontal = (λ h. refl, λ e. omega arith)
weak_above weak vertical = (λ h. refl, λ e. omega arith)
weak_above weak diagonal = (λ h. refl, λ e. omega arith)
