-- Laws of a number read from up to eight bytes. Assumes nothing.
use mathlib.Core.Path.{◌≡◌, ◌∙◌, ap}
use mathlib.Core.List.{List, [], ◌∷◌, ◌++◌}
use Prim.Native.Nat.{ℕ, zero, suc, ◌+◌, ◌-◌, ◌*◌, ◌^◌, ◌≤◌, ◌<◌}
use native.Mathlib.Omega.{arith}
use lib.ListN.{length, get_or, take, drop, length-drop, length-append}
use Rattle.std.proofs.Common.{pow-suc, take_all}
use Rattle.std.specs.Int.{w64, from_le_bytes}
use Rattle.frame_file.specs.Lists.{part, slice_part, Below, length_part, below_part}
use Rattle.frame_file.specs.FrameFile.{little_endian}

-- one byte more
little_endian_take : (k : ℕ) (l : List ℕ) → little_endian (take (suc k) l) ≡ little_endian (take k l) + get_or l k 0 * 256 ^ k
unfolding little_endian
little_endian_take zero [] = omega arith
little_endian_take zero (x ∷ l) = omega arith
little_endian_take (suc k) [] = omega arith
little_endian_take (suc k) (x ∷ l) = rw (little_endian_take k l, pow-suc) (omega arith)

-- the library's number of eight bytes
eight_bytes : (l : List ℕ) → length l ≡ 8 → from_le_bytes w64 l ≡ little_endian l
unfolding little_endian
eight_bytes l h =
    let whole : little_endian (take 8 l) ≡ little_endian l = ap little_endian (take_all 8 l (omega arith)) in
    omega (
      arith,
      little_endian_take 0 l,
      little_endian_take 1 l,
      little_endian_take 2 l,
      little_endian_take 3 l,
      little_endian_take 4 l,
      little_endian_take 5 l,
      little_endian_take 6 l,
      little_endian_take 7 l,
    )

-- zeros behind add nothing
zeros_behind : (l m : List ℕ) → little_endian m ≡ 0 → little_endian (l ++ m) ≡ little_endian l
unfolding little_endian
zeros_behind [] m e = e
zeros_behind (x ∷ l) m e = rw (zeros_behind l m e)

little_endian_drop : (n : ℕ) (l : List ℕ) → little_endian (drop n l) ≤ little_endian l
unfolding little_endian
little_endian_drop zero l = omega arith
little_endian_drop (suc n) [] = omega arith
little_endian_drop (suc n) (x ∷ l) = omega (arith, little_endian_drop n l)

-- a number of n bytes is below 256 to the n
little_endian_below : (n : ℕ) (l : List ℕ) → length l ≡ n → Below 256 l → little_endian l < 256 ^ n
unfolding little_endian
little_endian_below zero [] e h = omega arith
little_endian_below zero (x ∷ l) e h = omega arith
little_endian_below (suc n) [] e h = omega arith
little_endian_below (suc n) (x ∷ l) e h = rw pow-suc (omega (arith, h 0, little_endian_below n l (omega arith) (λ k. h (suc k))))

zeros_left : (n : ℕ) → little_endian (drop n (0 ∷ 0 ∷ 0 ∷ 0 ∷ 0 ∷ 0 ∷ 0 ∷ 0 ∷ [])) ≡ 0
unfolding little_endian
zeros_left n = omega (arith, little_endian_drop n (0 ∷ 0 ∷ 0 ∷ 0 ∷ 0 ∷ 0 ∷ 0 ∷ 0 ∷ []))

-- a number read from n bytes that are copied over zeros
pub number_read : (l copied : List ℕ) (a n result : ℕ) → copied ≡ take (a + n - a) (drop a l) → n ≤ 8 → a + n ≤ length l
    → ((i : ℕ) → get_or l i 0 < 256)
    → result ≡ from_le_bytes w64 (copied ++ drop n (0 ∷ 0 ∷ 0 ∷ 0 ∷ 0 ∷ 0 ∷ 0 ∷ 0 ∷ []))
    → (result ≡ little_endian (part l a n)) × (result < 256 ^ n)
number_read l copied a n result c most inside bytes r =
    let e : copied ≡ part l a n = c ∙ slice_part l a n in
    let zeros = 0 ∷ 0 ∷ 0 ∷ 0 ∷ 0 ∷ 0 ∷ 0 ∷ 0 ∷ [] in
    let size : length copied ≡ n = ap length e ∙ length_part l a n inside in
    let eight : length (copied ++ drop n zeros) ≡ 8 = simp (length-append, length-drop) (omega arith) in
    let is : result ≡ little_endian (part l a n) =
    r ∙ eight_bytes (copied ++ drop n zeros) eight ∙ zeros_behind copied (drop n zeros) (zeros_left n) ∙ ap little_endian e in
    (is, rw is (little_endian_below n (part l a n) (length_part l a n inside) (below_part 256 l a n bytes)))
