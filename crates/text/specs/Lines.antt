-- A line of numbers, as it is printed number by number, and the lines of a site and of a refusal. Assumes nothing.
use Rattle.std.specs.Prelude.{◌≡◌, refl, List, [], ◌∷◌, ◌++◌, ℕ, zero, suc, ◌+◌, ◌<◌, ◌≤◌, length, get_or, drop}
use Rattle.std.proofs.Common.{ap, arith, add-one, append_assoc, length-append}
use Rattle.std.proofs.Math.Seq.{drop-cons, drop-length}
use Rattle.printing.specs.Printing.{decimal, numbers_line}
use Rattle.text.specs.Digits.{tens, length_decimal}

-- what stands behind a number: the other numbers with a space before each, and the end of the line
abbrev pub behind : List ℕ → List ℕ
behind [] = 10 ∷ []
behind (m ∷ rest) = 32 ∷ numbers_line (m ∷ rest)

-- what is left of the line behind its first k numbers
abbrev pub left_of_line : List ℕ → ℕ → List ℕ
left_of_line numbers zero = numbers_line numbers
left_of_line numbers (suc k) = behind (drop (suc k) numbers)

number_first : (n : ℕ) (rest : List ℕ) → numbers_line (n ∷ rest) ≡ decimal n ++ behind rest
unfolding numbers_line
number_first n [] = refl
number_first n (m ∷ rest) = refl

first_number : (numbers : List ℕ) → 0 < length numbers → left_of_line numbers 0 ≡ decimal (get_or numbers 0 0) ++ left_of_line numbers 1
first_number [] h = absurd (omega arith)
first_number (n ∷ rest) h = number_first n rest

later_number : (numbers : List ℕ) (k : ℕ) → 0 < k → k < length numbers
    → left_of_line numbers k ≡ 32 ∷ (decimal (get_or numbers k 0) ++ left_of_line numbers (k + 1))
later_number numbers zero low h = absurd (omega arith)
later_number numbers (suc k) low h = rw (add-one, drop-cons numbers (suc k) 0) (ap (λ (l : List ℕ). 32 ∷ l) (number_first _ _))

no_number : (numbers : List ℕ) → left_of_line numbers (length numbers) ≡ 10 ∷ []
unfolding numbers_line
no_number [] = refl
no_number (n ∷ rest) = rw (drop-length rest)

-- the text so far and what is left of the line make up all of it
pub record Printed (all numbers text : List ℕ) (k : ℕ) : Type 0 where
  pub whole : text ++ left_of_line numbers k ≡ all

-- the same before number k, behind the space where there is one
pub record BeforeNumber (all numbers text : List ℕ) (k : ℕ) : Type 0 where
  pub whole : text ++ (decimal (get_or numbers k 0) ++ left_of_line numbers (k + 1)) ≡ all

module _ {all numbers text : List ℕ} {k : ℕ} (p : Printed all numbers text k) where
  pub at_first : {same : List ℕ} → k ≡ 0 → k < length numbers → same ≡ text → BeforeNumber all numbers same k
  at_first z h e = record { whole = rw (e, z) (rw (z, first_number numbers (omega arith)) at p.whole) }

  pub behind_space : {spaced : List ℕ} → 0 < k → k < length numbers → spaced ≡ text ++ (32 ∷ []) → BeforeNumber all numbers spaced k
  behind_space low h e = record { whole = rw (e, append_assoc) (rw (later_number numbers k low h) at p.whole) }

  pub room_for_byte : 0 < k → k < length numbers → length text + 1 ≤ length all
  room_for_byte low h =
      omega (arith, ap length p.whole, length-append text (left_of_line numbers k), ap length (later_number numbers k low h))

  pub at_end : k ≡ length numbers → text ++ (10 ∷ []) ≡ all
  at_end e = rw (← no_number numbers, ← e) p.whole

module _ {all numbers text : List ℕ} {k : ℕ} (b : BeforeNumber all numbers text k) where
  pub room_for_number : length text + length (decimal (get_or numbers k 0)) ≤ length all
  room_for_number =
      omega (
        arith,
        ap length b.whole,
        length-append text (decimal (get_or numbers k 0) ++ left_of_line numbers (k + 1)),
        length-append (decimal (get_or numbers k 0)) (left_of_line numbers (k + 1)),
      )

  pub behind_number : {more : List ℕ} → more ≡ text ++ decimal (get_or numbers k 0) → Printed all numbers more (k + 1)
  behind_number e = record { whole = rw (e, append_assoc) b.whole }

-- a line of five numbers below 10,000 has at most 25 bytes
pub site_line_short : (i j r g b : ℕ) → i < 10000 → j < 10000 → r < 10000 → g < 10000 → b < 10000
    → length (numbers_line (i ∷ j ∷ r ∷ g ∷ b ∷ [])) ≤ 25
unfolding numbers_line tens
site_line_short i j r g b hi hj hr hg hb =
    let digits = λ (n : ℕ) (h : n < 10000). length_decimal 3 n h in
    simp length-append (omega (arith, digits i hi, digits j hj, digits r hr, digits g hg, digits b hb))

-- a number of 64 bits has at most 20 digits
pub digits_64 : (n : ℕ) → n < 18446744073709551616 → length (decimal n) ≤ 20
unfolding tens
digits_64 n h = length_decimal 19 n (omega arith)

-- the line of a refusal's number and place has at most 42
pub refusal_line_short : (n p : ℕ) → n < 18446744073709551616 → p < 18446744073709551616 → length (numbers_line (n ∷ p ∷ [])) ≤ 42
unfolding numbers_line
refusal_line_short n p hn hp =
    simp length-append (omega (arith, digits_64 n hn, digits_64 p hp))
