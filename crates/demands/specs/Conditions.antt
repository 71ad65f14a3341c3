-- What a test of the definitions says of a condition in words. Assumes nothing.
use Rattle.std.specs.Prelude.{◌≡◌, Bool, true, false, not, cond, ◌&&◌, ℕ, ◌≤◌, leb, eqb, ℤ, ◌≤ℤ◌}
use Rattle.std.proofs.Common.{sym, ◌∙◌, true≢false}
use Rattle.std.specs.Int.Signed.{lt_z, lt_z_yes, lt_z_no, clash_ℤ}
use Rattle.toolkit.specs.Tests.{by_test, leb_le, leb_yes, eqb_eq, eqb_yes}
use Rattle.frame.specs.Sites.{side_allowed}

-- the test holds exactly when P does
pub data Decides (P : Type 0) : Bool → Type 0 where
  holds : P → Decides P true
  fails : ¬ P → Decides P false

pub both_ways : {P : Type 0} (test : Bool) → (test ≡ true → P) → (P → test ≡ true) → Decides P test
both_ways test there back = by_test test _
    (λ t. rw t (holds (there t)))
    (λ t. rw t (fails (λ p. true≢false (sym (back p) ∙ t))))

pub same_decides : {P Q : Type 0} {test : Bool} → (P → Q) → (Q → P) → Decides P test → Decides Q test
same_decides there back (holds p) = holds (there p)
same_decides there back (fails refuted) = fails (λ q. refuted (back q))

pub both_decide : {P Q : Type 0} {a b : Bool} → Decides P a → Decides Q b → Decides (P × Q) (a && b)
both_decide (holds p) (holds q) = holds (p, q)
both_decide (holds p) (fails refuted) = fails (λ both. refuted both.1)
both_decide (fails refuted) other = fails (λ both. refuted both.0)

pub equal_decides : (m n : ℕ) → Decides (m ≡ n) (eqb m n)
equal_decides m n = both_ways (eqb m n) (eqb_eq m n) eqb_yes

pub at_most_decides : (m n : ℕ) → Decides (m ≤ n) (leb m n)
at_most_decides m n = both_ways (leb m n) (leb_le m n) leb_yes

-- of whole numbers: v is not below w
pub not_below_decides : (v w : ℤ) → Decides (w ≤ℤ v) (not (lt_z v w))
not_below_decides v w = both_ways (not (lt_z v w)) (λ e. lt_z_no (rw e tt))
    (λ h. by_test (lt_z v w) _ (λ t. absurd (clash_ℤ (lt_z_yes (rw t tt)) h)) (λ t. rw t))

-- "each from 2 to 4,096"
pub side_decides : (n : ℕ) → Decides ((2 ≤ n) × (n ≤ 4096)) (side_allowed n)
unfolding side_allowed
side_decides n = both_decide (at_most_decides 2 n) (at_most_decides n 4096)

-- what follows of a choice by the test
pub by_condition : {A P : Type 0} (Q : A → Type 0) {test : Bool} (one other : A) → Decides P test → (P → Q one) → (¬ P → Q other)
    → Q (cond test one other)
by_condition Q one other (holds p) right wrong = right p
by_condition Q one other (fails refuted) right wrong = wrong refuted
