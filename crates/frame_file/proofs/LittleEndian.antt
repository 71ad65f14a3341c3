-- Laws of little-endian numbers, of any count of bytes. Assumes nothing.
use Rattle.std.specs.Prelude.{◌≡◌, refl, List, [], ◌∷◌, ℕ, zero, suc, ◌+◌, ◌*◌, ◌/◌, ◌%◌, ◌^◌, ◌≤◌, ◌<◌, length, get_or}
use Rattle.std.proofs.Common.{sym, ◌∙◌, ap, pow-suc, arith}
use Rattle.frame_file.specs.Lists.{part, part_cons, length_part, Below, below_part}
use Rattle.frame_file.specs.FrameFile.{little_endian, little_endian_bytes}

pub length_little_endian_bytes : (n v : ℕ) → length (little_endian_bytes n v) ≡ n
unfolding little_endian_bytes
length_little_endian_bytes zero v = refl
length_little_endian_bytes (suc n) v = ap suc (length_little_endian_bytes n (v / 256))

pub below_little_endian_bytes : (n v : ℕ) → Below 256 (little_endian_bytes n v)
unfolding little_endian_bytes
below_little_endian_bytes zero v k = omega arith
below_little_endian_bytes (suc n) v zero = omega arith
below_little_endian_bytes (suc n) v (suc k) = below_little_endian_bytes n (v / 256) k

-- the number comes back from its bytes
pub number_of_bytes : (n v : ℕ) → v < 256 ^ n → little_endian (little_endian_bytes n v) ≡ v
unfolding little_endian little_endian_bytes
number_of_bytes zero v h = omega arith
number_of_bytes (suc n) v h =
    let q : v < 256 ^ n * 256 = rw pow-suc at h in
    let e : little_endian (little_endian_bytes n (v / 256)) ≡ v / 256 = number_of_bytes n (v / 256) (omega arith) in
    rw e (omega arith)

-- the bytes come back from their number
pub bytes_of_number : (l : List ℕ) → Below 256 l → little_endian_bytes (length l) (little_endian l) ≡ l
unfolding little_endian little_endian_bytes
bytes_of_number [] h = refl
bytes_of_number (b ∷ l) h =
    let first : (b + 256 * little_endian l) % 256 ≡ b = omega (arith, h 0) in
    let rest : (b + 256 * little_endian l) / 256 ≡ little_endian l = omega (arith, h 0) in
    rw (first, rest) (ap (λ (m : List ℕ). b ∷ m) (bytes_of_number l (λ k. h (suc k))))

-- a part of n bytes is its number as n bytes
pub part_of_number : (l : List ℕ) (a n : ℕ) → a + n ≤ length l → Below 256 l
    → part l a n ≡ little_endian_bytes n (little_endian (part l a n))
part_of_number l a n h b =
    sym (bytes_of_number (part l a n) (below_part 256 l a n b))
    ∙ ap (λ (m : ℕ). little_endian_bytes m (little_endian (part l a n))) (length_part l a n h)

-- two and four bytes by their entries
pub number_of_two : (l : List ℕ) (a : ℕ) → a + 2 ≤ length l → little_endian (part l a 2) ≡ get_or l a 0 + 256 * get_or l (a + 1) 0
unfolding little_endian part
number_of_two l a h = rw (part_cons l a 1 (omega arith), part_cons l (a + 1) 0 (omega arith)) (omega arith)

pub number_of_four : (l : List ℕ) (a : ℕ) → a + 4 ≤ length l
    → little_endian (part l a 4) ≡ little_endian (part l a 2) + 65536 * little_endian (part l (a + 2) 2)
unfolding little_endian
number_of_four l a h =
    let next : a + 1 + 1 ≡ a + 2 = omega arith in
    rw (part_cons l a 3 (omega arith), part_cons l (a + 1) 2 (omega arith), next, number_of_two l a (omega arith)) (omega arith)
