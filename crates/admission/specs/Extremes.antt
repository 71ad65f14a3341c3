-- The highest and the lowest of some samples, and the first that lies outside of two limits: what they say of numbers 5 and 12. Assumes
-- nothing.
use Rattle.std.specs.Prelude.{◌≡◌, List, [], ◌∷◌, ℕ, zero, suc, ◌+◌, ◌-◌, ◌<◌, ◌≤◌, max, min, leb, ltb, length, get_or, drop, Option, Some, None, MatchOption, Err}
use Rattle.std.proofs.Common.{arith, drop_of_length-le, drop-cons, add-one}
use Rattle.toolkit.specs.Tests.{by_test, leb_le, leb_yes, ltb_lt, ltb_ge}
use Rattle.answers.specs.declared.Refusal.TheVariants.{Sample, UnderBlack}
use Rattle.frame.specs.Sites.{highest_sample}
use Rattle.answers.specs.Calls.{samples_answer, most_under, under_answer, no_refusal}
use Rattle.answers.proofs.Admission.{samples_done, done_samples, done_under, first_fails}

unfoldable pub highest_of : List ℕ → ℕ
highest_of [] = 0
highest_of (z ∷ rest) = max z (highest_of rest)

unfoldable pub lowest_of : List ℕ → ℕ
lowest_of [] = 65535
lowest_of (z ∷ rest) = min z (lowest_of rest)

-- the first k samples are from low to high
abbrev pub AllInside : ℕ → ℕ → List ℕ → ℕ → Type 0
AllInside low high l k = (n : ℕ) → n < k → (low ≤ get_or l n 0) × (get_or l n 0 ≤ high)

-- the position of the first sample below low or above high, or how many samples there are
pub record FirstOutside (low high : ℕ) (l : List ℕ) (k : ℕ) : Type 0 where
  pub inside : AllInside low high l k
  pub outside : k < length l → ¬ ((low ≤ get_or l k 0) × (get_or l k 0 ≤ high))
  pub most : k ≤ length l

-- that position, None where every sample is from low to high
abbrev pub FoundOutside : ℕ → ℕ → List ℕ → Option ℕ → Type 0
FoundOutside low high l found = MatchOption found (AllInside low high l (length l)) (λ k. FirstOutside low high l k × (k < length l))

-- ---- the sample at position k, and those behind it

pub highest_drop : (l : List ℕ) (k : ℕ) → k < length l → highest_of (drop k l) ≡ max (get_or l k 0) (highest_of (drop (k + 1) l))
unfolding highest_of
highest_drop l k h = rw (add-one, drop-cons l k 0 h)

pub highest_end : (l : List ℕ) (k : ℕ) → length l ≤ k → highest_of (drop k l) ≡ 0
unfolding highest_of
highest_end l k h = rw (drop_of_length-le l h)

pub lowest_drop : (l : List ℕ) (k : ℕ) → k < length l → lowest_of (drop k l) ≡ min (get_or l k 0) (lowest_of (drop (k + 1) l))
unfolding lowest_of
lowest_drop l k h = rw (add-one, drop-cons l k 0 h)

pub lowest_end : (l : List ℕ) (k : ℕ) → length l ≤ k → lowest_of (drop k l) ≡ 65535
unfolding lowest_of
lowest_end l k h = rw (drop_of_length-le l h)

pub lowest_bounded : (l : List ℕ) → lowest_of l ≤ 65535
unfolding lowest_of
lowest_bounded [] = omega arith
lowest_bounded (z ∷ l) = omega (arith, lowest_bounded l)

pub inside_next : {low high k : ℕ} (l : List ℕ) → AllInside low high l k → low ≤ get_or l k 0 → get_or l k 0 ≤ high
    → AllInside low high l (k + 1)
inside_next {low} {high} {k} l before from to n h = by_test (ltb n k) _ (λ t. before n (ltb_lt _ _ t))
    (λ t. let e : n ≡ k = omega (arith, ltb_ge n k t) in rw e (from, to))

-- ---- the limits of all samples

pub highest_most : (l : List ℕ) (h : ℕ) → ((n : ℕ) → n < length l → get_or l n 0 ≤ h) → highest_of l ≤ h
unfolding highest_of
highest_most [] h each = omega arith
highest_most (z ∷ l) h each = omega (arith, each zero (omega arith), highest_most l h (λ n lt. each (suc n) (omega arith)))

pub most_highest : (l : List ℕ) (n : ℕ) → n < length l → get_or l n 0 ≤ highest_of l
unfolding highest_of
most_highest [] n h = absurd (omega arith)
most_highest (z ∷ l) zero h = omega arith
most_highest (z ∷ l) (suc n) h = omega (arith, most_highest l n (omega arith))

pub lowest_least : (l : List ℕ) (h : ℕ) → h ≤ 65535 → ((n : ℕ) → n < length l → h ≤ get_or l n 0) → h ≤ lowest_of l
unfolding lowest_of
lowest_least [] h small each = omega arith
lowest_least (z ∷ l) h small each = omega (arith, each zero (omega arith), lowest_least l h small (λ n lt. each (suc n) (omega arith)))

pub least_lowest : (l : List ℕ) (n : ℕ) → n < length l → lowest_of l ≤ get_or l n 0
unfolding lowest_of
least_lowest [] n h = absurd (omega arith)
least_lowest (z ∷ l) zero h = omega arith
least_lowest (z ∷ l) (suc n) h = omega (arith, least_lowest l n (omega arith))

-- every sample is at most z, and one is z
pub highest_found : (l : List ℕ) (o : Option ℕ)
    → MatchOption o (length l ≡ 0) (λ z. ((n : ℕ) → n < length l → get_or l n 0 ≤ z) × ((n : ℕ) × (n < length l) × (get_or l n 0 ≡ z)))
    → MatchOption o (length l ≡ 0) (λ z. z ≡ highest_of l)
highest_found l None h = h
highest_found l (Some z) h =
    let at = h.1 in omega (arith, highest_most l z h.0, most_highest l at.0 at.1, at.2)

-- every sample is at least z, and one is z
pub lowest_found : (l : List ℕ) (o : Option ℕ)
    → MatchOption o (length l ≡ 0)
    (λ z. (z ≤ 65535) × ((n : ℕ) → n < length l → z ≤ get_or l n 0) × ((n : ℕ) × (n < length l) × (get_or l n 0 ≡ z)))
    → MatchOption o (length l ≡ 0) (λ z. z ≡ lowest_of l)
lowest_found l None h = h
lowest_found l (Some z) h =
    let at = h.2 in omega (arith, lowest_least l z h.0 h.1, least_lowest l at.0 at.1, at.2)

-- ---- number 5

pub none_above : (l : List ℕ) → highest_of l ≤ 1023 → samples_answer l ≡ no_refusal
unfolding highest_sample
none_above l h = done_samples l (λ n lt. omega (arith, most_highest l n lt))

pub found_above : (l : List ℕ) (k : ℕ) → FirstOutside 0 1023 l k → k < length l → samples_answer l ≡ Err (Sample k)
unfolding samples_answer highest_sample
found_above l k o within =
    first_fails 0 (λ position z. leb z 1023) Sample l k within (λ n h. leb_yes (o.inside n h).1)
    (by_test (leb (get_or l k 0) 1023) _ (λ u. absurd (o.outside within (omega arith, leb_le _ _ u))) (λ u. u))

pub first_above : (l : List ℕ) (k : ℕ) → 1023 < highest_of l → FirstOutside 0 1023 l k → samples_answer l ≡ Err (Sample k)
first_above l k above o = by_test (ltb k (length l)) _ (λ t. found_above l k o (ltb_lt _ _ t))
    (λ t.
    let last : length l ≤ k = ltb_ge _ _ t in
    absurd (omega (arith, highest_most l 1023 (λ n h. (o.inside n (omega arith)).1))))

pub all_inside : (l : List ℕ) → AllInside 0 1023 l (length l) → samples_answer l ≡ no_refusal
unfolding highest_sample
all_inside l each = done_samples l (λ n h. (each n h).1)

-- ---- number 12

pub none_under_black : (b : ℕ) (l : List ℕ) → b ≤ lowest_of l + 64 → under_answer b l ≡ no_refusal
unfolding most_under
none_under_black b l h = done_under b l (λ n lt. omega (arith, least_lowest l n lt))

-- samples of at most 1,023
pub found_under : (b : ℕ) (l : List ℕ) (k : ℕ) → samples_answer l ≡ no_refusal → FirstOutside (b - 64) 1023 l k → k < length l
    → under_answer b l ≡ Err (UnderBlack k)
unfolding under_answer most_under highest_sample
found_under b l k high o within =
    first_fails 0 (λ position z. leb b (z + 64)) UnderBlack l k within (λ n h. leb_yes {m = b} {n = get_or l n 0 + 64} (omega (arith, (o.inside n h).0)))
    (by_test (leb b (get_or l k 0 + 64)) _
    (λ u.
    let from : b ≤ get_or l k 0 + 64 = leb_le _ _ u in
    absurd (o.outside within (omega arith, samples_done l high k within)))
    (λ u. u))

-- some of them more than 64 under b
pub first_under : (b low : ℕ) (l : List ℕ) (k : ℕ) → b ≡ low + 64 → low ≤ 65535 → samples_answer l ≡ no_refusal → lowest_of l < low
    → FirstOutside low 1023 l k → under_answer b l ≡ Err (UnderBlack k)
first_under b low l k is small high under o = by_test (ltb k (length l)) _
    (λ t.
    let same : b - 64 ≡ low = omega arith in
    found_under b l k high (rw same o) (ltb_lt _ _ t))
    (λ t.
    let last : length l ≤ k = ltb_ge _ _ t in
    absurd (omega (arith, lowest_least l low small (λ n h. (o.inside n (omega arith)).0))))

pub inside_of_black : (b : ℕ) (l : List ℕ) → AllInside (b - 64) 1023 l (length l) → under_answer b l ≡ no_refusal
unfolding most_under
inside_of_black b l each = done_under b l (λ n h. omega (arith, (each n h).0))
