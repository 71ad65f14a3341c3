-- Laws of a number's decimal digits: the last one behind those of a tenth, how many there are at most, and that they are those that std and
-- itoa print. Assumes nothing.
use Rattle.std.specs.Prelude.{◌≡◌, [], ◌∷◌, ◌++◌, ℕ, zero, suc, ◌+◌, ◌*◌, ◌/◌, ◌%◌, ◌^◌, ◌<◌, ◌≤◌, ltb, length}
use Rattle.std.specs.Fmt as Std
use Rattle.std.proofs.Common.{arith, length-append}
use Rattle.std.proofs.lemmas.Fmt.{AppendsLastDigit, decimal_from_appends, length-decimal-le_succ}
use Rattle.toolkit.specs.Tests.{by_test, ltb_lt, ltb_ge, ltb_yes, ltb_no}
use Rattle.printing.specs.Printing.{digits, decimal}

-- more digits than a number has are not asked for
digits_enough : (m k n : ℕ) → n < m → n < k → digits m n ≡ digits k n
unfolding digits
digits_enough zero k n h i = absurd (omega arith)
digits_enough (suc m) zero n h i = absurd (omega arith)
digits_enough (suc m) (suc k) n h i = by_test (ltb n 10) _
    (λ t. rw t)
    (λ t. let low : 10 ≤ n = ltb_ge _ _ t in rw (t, digits_enough m k (n / 10) (omega arith) (omega arith)))

pub decimal_digit : (n : ℕ) → n < 10 → decimal n ≡ (48 + n) ∷ []
unfolding decimal digits
decimal_digit n h = let e : n % 10 ≡ n = omega arith in rw (ltb_yes {m = n} {n = 10} h, e)

pub decimal_tenth : (n : ℕ) → 10 ≤ n → decimal n ≡ decimal (n / 10) ++ ((48 + n % 10) ∷ [])
unfolding decimal digits
decimal_tenth n h = rw (ltb_no {m = n} {n = 10} h) (rw (digits_enough n (suc (n / 10)) (n / 10) (omega arith) (omega arith)))

pub length_digit : (n : ℕ) → n < 10 → length (decimal n) ≡ 1
length_digit n h = rw (decimal_digit n h)

pub length_tenth : (n : ℕ) → 10 ≤ n → length (decimal n) ≡ length (decimal (n / 10)) + 1
length_tenth n h = rw (decimal_tenth n h) (length-append (decimal (n / 10)) ((48 + n % 10) ∷ []))

-- 10 to the power k
unfoldable pub tens : ℕ → ℕ
tens zero = 1
tens (suc k) = 10 * tens k

pub length_decimal : (k n : ℕ) → n < tens (suc k) → length (decimal n) ≤ suc k
unfolding tens
length_decimal zero n h = rw (decimal_digit n (omega arith)) (omega arith)
length_decimal (suc k) n h = by_test (ltb n 10) _
    (λ t. rw (decimal_digit n (ltb_lt _ _ t)) (omega arith))
    (λ t.
    let low : 10 ≤ n = ltb_ge _ _ t in
    rw (decimal_tenth n low) (omega (arith, length-append (decimal (n / 10)) ((48 + n % 10) ∷ []), length_decimal k (n / 10) (omega arith))))

last_digit_behind : AppendsLastDigit digits
unfolding digits
last_digit_behind = record {
  one = λ k n h. let e : n % 10 ≡ n = omega arith in rw (ltb_yes {m = n} {n = 10} h, e);
  more = λ k n h. rw (ltb_no {m = n} {n = 10} h);
}

pub decimal_printed : (n : ℕ) → n < 2 ^ 64 → decimal n ≡ Std.decimal n
unfolding decimal
decimal_printed n h = decimal_from_appends digits last_digit_behind (suc n) n h (omega (arith, length-decimal-le_succ n h))
