-- Laws of the check's sum, of the tag and of the payload. Assumes nothing.
use mathlib.Core.Path.{◌≡◌, refl, sym, ◌∙◌, ap, ap₂}
use mathlib.Core.List.{List, [], ◌∷◌}
use Prim.Native.Nat.{ℕ, ◌+◌, ◌*◌, ◌≤◌, ◌<◌}
use native.Mathlib.Omega.{arith}
use lib.Dec.{eqb}
use lib.ListN.{length, get_or, take, drop, length-take}
use lib.Seq.{get_or-take}
use Rattle.std.specs.Cmp.Lexicographic.{pointwise}
use Rattle.frame_file.specs.Lists.{part, part_part, same_list}
use Rattle.frame_file.specs.FrameFile.{block, position_weighted_sum, check, tag, has_tag, payload}
use Rattle.frame_file.proofs.Check.{weighted_sum_step, term_bound}

-- ---- the check

-- the sum over the first k bytes
pub record Summed (b : List ℕ) (sum k : ℕ) : Type 0 where
  pub inside : k ≤ 508
  pub is : sum ≡ position_weighted_sum (λ i. get_or b i 0) k
  pub bound : sum ≤ 129540 * k

pub summed_none : (b : List ℕ) → Summed b 0 0
unfolding position_weighted_sum
summed_none b = record { inside = omega arith; is = refl; bound = omega arith }

-- byte k of the first n
pub front_byte : (n : ℕ) (b : List ℕ) (k : ℕ) → k < length (take n b) → get_or (take n b) k 0 ≡ get_or b k 0
front_byte n b k h = get_or-take n b k 0 (omega (arith, length-take n b))

pub summed_next : (b : List ℕ) (sum k x : ℕ) → Summed b sum k → k < 508 → x ≡ get_or b k 0 → x < 256 → Summed b (sum + (k + 1) * x) (k + 1)
summed_next b sum k x s h e small = record {
  inside = omega arith;
  is = ap₂ (λ (t y : ℕ). t + (k + 1) * y) s.is e ∙ sym (weighted_sum_step (λ i. get_or b i 0) k);
  bound = omega (arith, s.bound, term_bound k x h small);
}

pub summed_all : (b : List ℕ) (sum k : ℕ) → k ≡ 508 → Summed b sum k → sum ≡ check b
unfolding check
summed_all b sum k all s = s.is ∙ ap (position_weighted_sum (λ i. get_or b i 0)) all

-- ---- the tag

same_bytes : (l m : List ℕ) → pointwise eqb l m ≡ same_list l m
unfolding same_list
same_bytes [] [] = refl
same_bytes [] (y ∷ m) = refl
same_bytes (x ∷ l) [] = refl
same_bytes (x ∷ l) (y ∷ m) = rw (same_bytes l m)

pub tag_compared : (b : List ℕ) → pointwise eqb (take 4 (drop 4 b)) (66 ∷ 65 ∷ 89 ∷ 82 ∷ []) ≡ has_tag b
unfolding has_tag tag part
tag_compared b = same_bytes (take 4 (drop 4 b)) (66 ∷ 65 ∷ 89 ∷ 82 ∷ [])

-- ---- the payload

pub payload_of_block : (file : List ℕ) (n : ℕ) → take 500 (drop 4 (block file n)) ≡ payload file n
unfolding block payload part
payload_of_block file n = part_part file (512 * n) 512 4 500 (omega arith)
