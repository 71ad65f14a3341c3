-- Laws of the check of a block. Assumes nothing.
use Rattle.std.specs.Prelude.{◌≡◌, refl, true, List, [], ◌++◌, ℕ, zero, suc, ◌+◌, ◌*◌, ◌^◌, ◌≤◌, ◌<◌, length, get_or}
use Rattle.std.proofs.Common.{sym, ◌∙◌, ap, ap₂, append-nil, le_refl, mul-le-mul, add-one, arith, length-append}
use Rattle.std.proofs.Math.ListN.{get_or-append}
use Rattle.toolkit.specs.Tests.{eqb_eq, eqb_yes}
use Rattle.frame_file.specs.Lists.{part, get_d_front, part_split, part_whole, part_middle, Below, below_append}
use Rattle.frame_file.specs.FrameFile.{little_endian, little_endian_bytes, position_weighted_sum, check, stored_check, check_holds, with_check}
use Rattle.frame_file.proofs.LittleEndian.{length_little_endian_bytes, below_little_endian_bytes, number_of_bytes, part_of_number}

pub weighted_sum_cong : (n : ℕ) (f g : ℕ → ℕ) → ((k : ℕ) → k < n → f k ≡ g k) → position_weighted_sum f n ≡ position_weighted_sum g n
unfolding position_weighted_sum
weighted_sum_cong zero f g e = refl
weighted_sum_cong (suc n) f g e =
    ap₂ (λ (a b : ℕ). a + (n + 1) * b) (weighted_sum_cong n f g (λ k h. e k (omega arith))) (e n (le_refl (suc n)))

pub weighted_sum_step : (f : ℕ → ℕ) (k : ℕ) → position_weighted_sum f (k + 1) ≡ position_weighted_sum f k + (k + 1) * f k
unfolding position_weighted_sum
weighted_sum_step f k = ap (position_weighted_sum f) (add-one k)

-- a term is at most 508 · 255
pub term_bound : (k x : ℕ) → k < 508 → x < 256 → (k + 1) * x ≤ 129540
term_bound k x h l = mul-le-mul {n₁ = k + 1} {m₁ = x} {n₂ = 508} {m₂ = 255} (omega arith) (omega arith)

pub weighted_sum_bound : (n : ℕ) (f : ℕ → ℕ) → ((k : ℕ) → f k < 256) → n ≤ 508 → position_weighted_sum f n ≤ 129540 * n
unfolding position_weighted_sum
weighted_sum_bound zero f h l = omega arith
weighted_sum_bound (suc n) f h l = omega (arith, weighted_sum_bound n f h (omega arith), term_bound n (f n) (omega arith) (h n))

-- the check is over the first 508 bytes alone
pub check_cong : (l m : List ℕ) → ((k : ℕ) → k < 508 → get_or l k 0 ≡ get_or m k 0) → check l ≡ check m
unfolding check
check_cong l m e = weighted_sum_cong 508 (λ k. get_or l k 0) (λ k. get_or m k 0) e

pub check_fits : (l : List ℕ) → Below 256 l → check l < 256 ^ 4
unfolding check
check_fits l h = omega (arith, weighted_sum_bound 508 (λ k. get_or l k 0) h (le_refl 508))

-- ---- 508 bytes with their check

pub length_with_check : (l : List ℕ) → length l ≡ 508 → length (with_check l) ≡ 512
unfolding with_check
length_with_check l e = omega (arith, length-append l (little_endian_bytes 4 (check l)), length_little_endian_bytes 4 (check l))

pub below_with_check : (l : List ℕ) → Below 256 l → Below 256 (with_check l)
unfolding with_check
below_with_check l h = below_append 256 l (little_endian_bytes 4 (check l)) h (below_little_endian_bytes 4 (check l))

check_with_check : (l : List ℕ) → length l ≡ 508 → check (with_check l) ≡ check l
unfolding with_check
check_with_check l e =
    check_cong (l ++ little_endian_bytes 4 (check l)) l
    (λ k h. get_or-append l (little_endian_bytes 4 (check l)) 0 k (omega arith))

stored_check_with_check : (l : List ℕ) → length l ≡ 508 → Below 256 l → stored_check (with_check l) ≡ check l
unfolding with_check stored_check
stored_check_with_check l e h =
    let c : List ℕ = little_endian_bytes 4 (check l) in
    ap (λ (t : List ℕ). little_endian (part (l ++ t) 508 4)) (sym (append-nil c))
    ∙ ap little_endian (part_middle l c [] 508 4 e (length_little_endian_bytes 4 (check l)))
    ∙ number_of_bytes 4 (check l) (check_fits l h)

pub with_check_holds : (l : List ℕ) → length l ≡ 508 → Below 256 l → check_holds (with_check l) ≡ true
unfolding check_holds
with_check_holds l e h = eqb_yes (stored_check_with_check l e h ∙ sym (check_with_check l e))

-- a block whose check holds is its first 508 bytes with their check
pub check_holds_with_check : (b : List ℕ) → length b ≡ 512 → Below 256 b → check_holds b ≡ true → b ≡ with_check (part b 0 508)
unfolding check_holds stored_check with_check
check_holds_with_check b e h t =
    let stored : little_endian (part b 508 4) ≡ check (part b 0 508) =
    eqb_eq _ _ t ∙ check_cong b (part b 0 508) (λ k l. sym (get_d_front b 508 k l)) in
    sym (part_whole b 512 e)
    ∙ part_split b 0 508 4
    ∙ ap (λ (c : List ℕ). part b 0 508 ++ c) (part_of_number b 508 4 (omega arith) h ∙ ap (little_endian_bytes 4) stored)
