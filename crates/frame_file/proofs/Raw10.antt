-- Laws of RAW10: samples come back from their bytes, and bytes from their samples, a group at a time and a payload at a time.
-- Assumes nothing.
use Rattle.std.specs.Prelude.{◌≡◌, refl, List, [], ◌∷◌, ℕ, zero, suc, ◌+◌, ◌*◌, ◌/◌, ◌%◌, ◌<◌, length, get_or}
use Rattle.std.proofs.Common.{sym, ◌∙◌, ap, arith, shr-shr, take_all}
use Rattle.frame_file.specs.Lists.{part, length_part, joined_cong, joined_parts, length_joined, part_joined, Below, below_part, below_joined}
use Rattle.frame_file.specs.FrameFile.{packed, unpacked, packed_payload, unpacked_payload}

-- ---- the byte of low bits: four digits to base 4

low_bits : ℕ → ℕ → ℕ → ℕ → ℕ
low_bits w x y z = w + 4 * x + 16 * y + 64 * z

digit_0 : (w x y z : ℕ) → w < 4 → low_bits w x y z % 4 ≡ w
unfolding low_bits
digit_0 w x y z h = omega arith

digit_1 : (w x y z : ℕ) → w < 4 → x < 4 → low_bits w x y z / 4 % 4 ≡ x
unfolding low_bits
digit_1 w x y z h i = omega arith

digit_2 : (w x y z : ℕ) → w < 4 → x < 4 → y < 4 → low_bits w x y z / 16 % 4 ≡ y
unfolding low_bits
digit_2 w x y z h i j = omega arith

digit_3 : (w x y z : ℕ) → w < 4 → x < 4 → y < 4 → z < 4 → low_bits w x y z / 64 % 4 ≡ z
unfolding low_bits
digit_3 w x y z h i j k = omega arith

from_quotients : (l a b c r s t u : ℕ) → l ≡ 4 * a + r → a ≡ 4 * b + s → b ≡ 4 * c + t → u ≡ c → low_bits r s t u ≡ l
unfolding low_bits
from_quotients l a b c r s t u e f g h = omega arith

-- a byte is its four digits
from_digits : (l : ℕ) → l < 256 → low_bits (l % 4) (l / 4 % 4) (l / 16 % 4) (l / 64 % 4) ≡ l
from_digits l h =
    from_quotients l (l / 4) (l / 16) (l / 64) (l % 4) (l / 4 % 4) (l / 16 % 4) (l / 64 % 4)
    (omega arith) (omega (arith, shr-shr l 2 2)) (omega (arith, shr-shr l 4 2)) (omega arith)

digit_below : (x : ℕ) → x % 4 < 4
digit_below x = omega arith

whole : (a l : ℕ) → l ≡ a % 4 → 4 * (a / 4) + l ≡ a
whole a l e = omega arith

high_part : (h l : ℕ) → l < 4 → (4 * h + l) / 4 ≡ h
high_part h l b = omega arith

low_part : (h l : ℕ) → l < 4 → (4 * h + l) % 4 ≡ l
low_part h l b = omega arith

-- ---- a group of four samples in five bytes

pub length_packed : (s : List ℕ) → length (packed s) ≡ 5
unfolding packed
length_packed s = refl

pub length_unpacked : (b : List ℕ) → length (unpacked b) ≡ 4
unfolding unpacked
length_unpacked b = refl

four_samples : (a b c d : ℕ) → unpacked (packed (a ∷ b ∷ c ∷ d ∷ [])) ≡ a ∷ b ∷ c ∷ d ∷ []
unfolding packed unpacked low_bits
four_samples a b c d =
    cc (
      whole a _ (digit_0 (a % 4) (b % 4) (c % 4) (d % 4) (digit_below a)),
      whole b _ (digit_1 (a % 4) (b % 4) (c % 4) (d % 4) (digit_below a) (digit_below b)),
      whole c _ (digit_2 (a % 4) (b % 4) (c % 4) (d % 4) (digit_below a) (digit_below b) (digit_below c)),
      whole d _ (digit_3 (a % 4) (b % 4) (c % 4) (d % 4) (digit_below a) (digit_below b) (digit_below c) (digit_below d)),
    )

five_bytes : (p q r s l : ℕ) → l < 256 → packed (unpacked (p ∷ q ∷ r ∷ s ∷ l ∷ [])) ≡ p ∷ q ∷ r ∷ s ∷ l ∷ []
unfolding packed unpacked low_bits
five_bytes p q r s l h =
    cc (
      high_part p (l % 4) (digit_below l),
      high_part q (l / 4 % 4) (digit_below (l / 4)),
      high_part r (l / 16 % 4) (digit_below (l / 16)),
      high_part s (l / 64 % 4) (digit_below (l / 64)),
      low_part p (l % 4) (digit_below l),
      low_part q (l / 4 % 4) (digit_below (l / 4)),
      low_part r (l / 16 % 4) (digit_below (l / 16)),
      low_part s (l / 64 % 4) (digit_below (l / 64)),
      from_digits l h,
    )

-- the samples come back from their bytes
pub unpacked_packed : (s : List ℕ) → length s ≡ 4 → unpacked (packed s) ≡ s
unpacked_packed [] e = absurd (omega arith)
unpacked_packed (a ∷ []) e = absurd (omega arith)
unpacked_packed (a ∷ b ∷ []) e = absurd (omega arith)
unpacked_packed (a ∷ b ∷ c ∷ []) e = absurd (omega arith)
unpacked_packed (a ∷ b ∷ c ∷ d ∷ []) e = four_samples a b c d
unpacked_packed (a ∷ b ∷ c ∷ d ∷ x ∷ s) e = absurd (omega arith)

-- the bytes come back from their samples
pub packed_unpacked : (b : List ℕ) → length b ≡ 5 → Below 256 b → packed (unpacked b) ≡ b
packed_unpacked [] e h = absurd (omega arith)
packed_unpacked (p ∷ []) e h = absurd (omega arith)
packed_unpacked (p ∷ q ∷ []) e h = absurd (omega arith)
packed_unpacked (p ∷ q ∷ r ∷ []) e h = absurd (omega arith)
packed_unpacked (p ∷ q ∷ r ∷ s ∷ []) e h = absurd (omega arith)
packed_unpacked (p ∷ q ∷ r ∷ s ∷ l ∷ []) e h = five_bytes p q r s l (h 4)
packed_unpacked (p ∷ q ∷ r ∷ s ∷ l ∷ x ∷ b) e h = absurd (omega arith)

low_bits_below : (a b c d : ℕ) → low_bits (a % 4) (b % 4) (c % 4) (d % 4) < 256
unfolding low_bits
low_bits_below a b c d = omega arith

-- samples below 1,024 pack to bytes, and bytes unpack to samples below 1,024
pub below_packed : (s : List ℕ) → Below 1024 s → Below 256 (packed s)
unfolding packed low_bits
below_packed s h zero = omega (arith, h 0)
below_packed s h (suc zero) = omega (arith, h 1)
below_packed s h (suc (suc zero)) = omega (arith, h 2)
below_packed s h (suc (suc (suc zero))) = omega (arith, h 3)
below_packed s h (suc (suc (suc (suc zero)))) = low_bits_below (get_or s 0 0) (get_or s 1 0) (get_or s 2 0) (get_or s 3 0)
below_packed s h (suc (suc (suc (suc (suc k))))) = omega arith

pub below_unpacked : (b : List ℕ) → Below 256 b → Below 1024 (unpacked b)
unfolding unpacked
below_unpacked b h zero = omega (arith, h 0)
below_unpacked b h (suc zero) = omega (arith, h 1)
below_unpacked b h (suc (suc zero)) = omega (arith, h 2)
below_unpacked b h (suc (suc (suc zero))) = omega (arith, h 3)
below_unpacked b h (suc (suc (suc (suc k)))) = omega arith

-- ---- a payload of 400 samples in 500 bytes

pub length_packed_payload : (s : List ℕ) → length (packed_payload s) ≡ 500
unfolding packed_payload
length_packed_payload s = length_joined (λ g. packed (part s (4 * g) 4)) 5 (λ g. length_packed (part s (4 * g) 4)) 100

pub length_unpacked_payload : (b : List ℕ) → length (unpacked_payload b) ≡ 400
unfolding unpacked_payload
length_unpacked_payload b = length_joined (λ g. unpacked (part b (5 * g) 5)) 4 (λ g. length_unpacked (part b (5 * g) 5)) 100

pub below_packed_payload : (s : List ℕ) → Below 1024 s → Below 256 (packed_payload s)
unfolding packed_payload
below_packed_payload s h =
    below_joined 256 100 (λ g. packed (part s (4 * g) 4)) (omega arith)
    (λ g. below_packed (part s (4 * g) 4) (below_part 1024 s (4 * g) 4 h))

pub below_unpacked_payload : (b : List ℕ) → Below 256 b → Below 1024 (unpacked_payload b)
unfolding unpacked_payload
below_unpacked_payload b h =
    below_joined 1024 100 (λ g. unpacked (part b (5 * g) 5)) (omega arith)
    (λ g. below_unpacked (part b (5 * g) 5) (below_part 256 b (5 * g) 5 h))

-- the samples of a payload come back from its bytes
pub unpacked_packed_payload : (s : List ℕ) → length s ≡ 400 → unpacked_payload (packed_payload s) ≡ s
unfolding packed_payload unpacked_payload
unpacked_packed_payload s e =
    joined_cong 100 _ (λ g. part s (4 * g) 4)
    (λ g h. ap unpacked (part_joined (λ i. packed (part s (4 * i) 4)) 5 (λ i. length_packed (part s (4 * i) 4)) 100 g h)
    ∙ unpacked_packed (part s (4 * g) 4) (length_part s (4 * g) 4 (omega arith)))
    ∙ sym (joined_parts s 4 100)
    ∙ take_all 400 s (omega arith)

-- the bytes of a payload come back from its samples
pub packed_unpacked_payload : (b : List ℕ) → length b ≡ 500 → Below 256 b → packed_payload (unpacked_payload b) ≡ b
unfolding packed_payload unpacked_payload
packed_unpacked_payload b e h =
    joined_cong 100 _ (λ g. part b (5 * g) 5)
    (λ g l. ap packed (part_joined (λ i. unpacked (part b (5 * i) 5)) 4 (λ i. length_unpacked (part b (5 * i) 5)) 100 g l)
    ∙ packed_unpacked (part b (5 * g) 5) (length_part b (5 * g) 5 (omega arith)) (below_part 256 b (5 * g) 5 h))
    ∙ sym (joined_parts b 5 100)
    ∙ take_all 500 b (omega arith)
