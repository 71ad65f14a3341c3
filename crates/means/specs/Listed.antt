-- An array of four that `map` makes, from its entries, and the cast of a natural to an unsigned number. Assumes nothing.
use Rattle.std.specs.Prelude.{◌≡◌, refl, List, [], ◌∷◌, get_or, length, ℤ, pos, negsuc, nat_abs, ◌≤ℤ◌}
use Rattle.std.specs.Int.{w64, cast_unsigned}
use Rattle.std.proofs.Common.{arith}

pub four_listed : {A : Type 0} {xs : List A} {a b c d : A} → length xs ≡ 4 → get_or xs 0 a ≡ a → get_or xs 1 b ≡ b → get_or xs 2 c ≡ c
    → get_or xs 3 d ≡ d → xs ≡ a ∷ b ∷ c ∷ d ∷ []
four_listed {xs = []} l p q r s = absurd (omega (arith, l))
four_listed {xs = a ∷ []} l p q r s = absurd (omega (arith, l))
four_listed {xs = a ∷ b ∷ []} l p q r s = absurd (omega (arith, l))
four_listed {xs = a ∷ b ∷ c ∷ []} l p q r s = absurd (omega (arith, l))
four_listed {xs = a ∷ b ∷ c ∷ d ∷ []} l p q r s = rw (p, q, r, s) refl
four_listed {xs = a ∷ b ∷ c ∷ d ∷ e ∷ xs} l p q r s = absurd (omega (arith, l))

pub unsigned_is : (z : ℤ) → pos 0 ≤ℤ z → cast_unsigned w64 z ≡ nat_abs z
unsigned_is (pos k) h = refl
unsigned_is (negsuc k) h = absurd h.le
