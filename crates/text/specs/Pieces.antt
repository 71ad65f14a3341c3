-- The lines of a site and of a refusal as pieces, each number with the byte behind it. Assumes nothing.
use Rattle.std.specs.Prelude.{◌≡◌, List, [], ◌∷◌, ◌++◌, ℕ, ◌+◌, ◌≤◌, length}
use Rattle.std.proofs.Common.{sym, ◌∙◌, ap, append_assoc, arith, length-append}
use Rattle.answers.specs.declared.Refusal.{Refusal}
use Rattle.answers.specs.Calls.{number_and_place}
use Rattle.printing.specs.Printing.{decimal, numbers_line, refused_word, refusal_text}
use Rattle.text.specs.Put.{Put, put_then, put_as}

-- a number and the byte behind it
abbrev pub ended : ℕ → ℕ → List ℕ
ended n end = decimal n ++ (end ∷ [])

abbrev pub spaced : ℕ → List ℕ
spaced n = ended n 32

abbrev pub last : ℕ → List ℕ
last n = ended n 10

pub length_ended : (n end : ℕ) → length (ended n end) ≡ length (decimal n) + 1
length_ended n end = length-append (decimal n) (end ∷ [])

pub five_numbers : (i j r g b : ℕ)
    → (((spaced i ++ spaced j) ++ spaced r) ++ spaced g) ++ last b ≡ numbers_line (i ∷ j ∷ r ∷ g ∷ b ∷ [])
unfolding numbers_line
five_numbers i j r g b = simp append_assoc

-- with the byte behind each
pub length_five : (i j r g b : ℕ)
    → length (numbers_line (i ∷ j ∷ r ∷ g ∷ b ∷ []))
    ≡ (length (decimal i) + 1) + ((length (decimal j) + 1) + ((length (decimal r) + 1) + ((length (decimal g) + 1) + (length (decimal b) + 1))))
length_five i j r g b =
    sym (ap length (five_numbers i j r g b))
    ∙ omega (
      arith,
      length-append (((spaced i ++ spaced j) ++ spaced r) ++ spaced g) (last b),
      length-append ((spaced i ++ spaced j) ++ spaced r) (spaced g),
      length-append (spaced i ++ spaced j) (spaced r),
      length-append (spaced i) (spaced j),
      length_ended i 32,
      length_ended j 32,
      length_ended r 32,
      length_ended g 32,
      length_ended b 10,
    )

module _ {t0 t1 t2 t3 t4 t5 : List ℕ} {a0 a1 a2 a3 a4 a5 : ℕ} (i j r g b : ℕ)
    (room : a0 + length (numbers_line (i ∷ j ∷ r ∷ g ∷ b ∷ [])) ≤ length t0) where
  pub five_put : Put t0 a0 (spaced i) t1 a1 → Put t1 a1 (spaced j) t2 a2 → Put t2 a2 (spaced r) t3 a3 → Put t3 a3 (spaced g) t4 a4
      → Put t4 a4 (last b) t5 a5 → Put t0 a0 (numbers_line (i ∷ j ∷ r ∷ g ∷ b ∷ [])) t5 a5
  five_put p q s t u =
      let li = length_ended i 32 in
      let lj = length_ended j 32 in
      let lr = length_ended r 32 in
      let lg = length_ended g 32 in
      let two = length-append (spaced i) (spaced j) in
      let three = length-append (spaced i ++ spaced j) (spaced r) in
      let four = length-append ((spaced i ++ spaced j) ++ spaced r) (spaced g) in
      let all = length_five i j r g b in
      put_as (five_numbers i j r g b)
      (put_then (omega arith) (put_then (omega arith) (put_then (omega arith) (put_then (omega arith) p q) s) t) u)

-- "refused "
abbrev pub word : List ℕ
word = 114 ∷ 101 ∷ 102 ∷ 117 ∷ 115 ∷ 101 ∷ 100 ∷ 32 ∷ []

pub refusal_pieces : (why : Refusal) (n p : ℕ) → n ≡ (number_and_place why).number → p ≡ (number_and_place why).place
    → (word ++ spaced n) ++ last p ≡ refusal_text why
unfolding refusal_text refused_word numbers_line
refusal_pieces why n p e f = rw (← e, ← f) (simp append_assoc)

pub refusal_put : {t0 t1 t2 t3 : List ℕ} {a1 a2 a3 : ℕ} (why : Refusal) (n p : ℕ) → n ≡ (number_and_place why).number
    → p ≡ (number_and_place why).place → 8 + (length (decimal n) + 1) ≤ length t0
    → Put t0 0 word t1 a1 → Put t1 a1 (spaced n) t2 a2 → Put t2 a2 (last p) t3 a3 → Put t0 0 (refusal_text why) t3 a3
refusal_put why n p e f room x y z =
    let size = length_ended n 32 in
    let two = length-append word (spaced n) in
    put_as (refusal_pieces why n p e f) (put_then (omega arith) (put_then (omega arith) x y) z)
