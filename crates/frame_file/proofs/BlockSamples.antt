-- The samples of a frame, 400 to a block, the last block filled up with zeros. Assumes nothing.
use Rattle.std.specs.Prelude.{◌≡◌, refl, true, List, ◌++◌, length, get_or, take, drop}
use Rattle.std.proofs.Common.{sym, ◌∙◌, length-append, length-take, length-drop, take-append-drop, ext_get_or, take-take, take_at}
use Rattle.std.proofs.Math.Path.{ap}
use Prim.Native.Nat.{ℕ, suc, ◌+◌, ◌*◌, ◌-◌, ◌≤◌, ◌<◌}
use native.Mathlib.Omega.{arith}
use Rattle.std.proofs.Math.Seq.{drop-append-add}
use Rattle.frame_file.specs.Lists.{part, length_part, length_part_min, get_d_part, part_take, joined, joined_cong, joined_parts, length_joined, part_joined, zeros, length_zeros, drop_zeros, getD_append_zeros, all_zero, zeros_all_zero, all_zero_zeros, Below, below_append, below_part, below_zeros}
use Rattle.frame_file.specs.FrameFile.{filled_up, block_samples, block_count, payload, unpacked_payload, stored_samples}
use Rattle.frame_file.proofs.BlockCount.{blocks_hold}
use Rattle.frame_file.proofs.Raw10.{length_unpacked_payload}

pub length_filled_up : (s : List ℕ) → length s ≤ 400 → length (filled_up s) ≡ 400
unfolding filled_up
length_filled_up s h = omega (arith, length-append s (zeros (400 - length s)), length_zeros (400 - length s))

pub length_block_samples : (s : List ℕ) (n : ℕ) → length (block_samples s n) ≡ 400
unfolding block_samples
length_block_samples s n = length_filled_up (part s (400 * (n - 1)) 400) (omega (arith, length_part_min s (400 * (n - 1)) 400))

pub below_block_samples : (b : ℕ) (s : List ℕ) (n : ℕ) → 0 < b → Below b s → Below b (block_samples s n)
unfolding block_samples filled_up
below_block_samples b s n p h = below_append b (part s (400 * (n - 1)) 400) _ (below_part b s (400 * (n - 1)) 400 h) (below_zeros b _ p)

-- 400 samples that are zero from the u-th on are the first u of them, filled up
pub filled_up_front : (s : List ℕ) (u : ℕ) → length s ≡ 400 → all_zero (drop u s) ≡ true → filled_up (take u s) ≡ s
unfolding filled_up
filled_up_front s u e z =
    let count : 400 - length (take u s) ≡ length (drop u s) = omega (arith, length-take u s, length-drop u s) in
    ap (λ (n : ℕ). take u s ++ zeros n) count ∙ ap (λ (t : List ℕ). take u s ++ t) (sym (all_zero_zeros (drop u s) z))
    ∙ take-append-drop u s

-- past the samples, what fills up is zero
pub filled_up_zero : (s : List ℕ) (u : ℕ) → length s ≤ u → all_zero (drop u (filled_up s)) ≡ true
unfolding filled_up
filled_up_zero s u h =
    let e : u ≡ length s + (u - length s) = omega arith in
    ap (λ (n : ℕ). all_zero (drop n (s ++ zeros (400 - length s)))) e
    ∙ ap all_zero (drop-append-add s (zeros (400 - length s)) (u - length s) ∙ drop_zeros (u - length s) (400 - length s))
    ∙ zeros_all_zero _

pub block_samples_zero : (s : List ℕ) (n : ℕ) → all_zero (drop (length s - 400 * (n - 1)) (block_samples s n)) ≡ true
unfolding block_samples
block_samples_zero s n =
    filled_up_zero (part s (400 * (n - 1)) 400) (length s - 400 * (n - 1)) (omega (arith, length_part_min s (400 * (n - 1)) 400))

-- ---- a frame's samples from those of its blocks

getD_block_samples : (s : List ℕ) (n k : ℕ) → k < 400 → get_or (block_samples s n) k 0 ≡ get_or s (400 * (n - 1) + k) 0
unfolding block_samples filled_up
getD_block_samples s n k h = getD_append_zeros (part s (400 * (n - 1)) 400) _ k ∙ get_d_part s (400 * (n - 1)) 400 k h

part_filled_up : (s : List ℕ) (c i : ℕ) → i < c → part (s ++ zeros (400 * c)) (400 * i) 400 ≡ block_samples s (suc i)
part_filled_up s c i h =
    let size : length (part (s ++ zeros (400 * c)) (400 * i) 400) ≡ 400 =
    length_part (s ++ zeros (400 * c)) (400 * i) 400 (omega (arith, length-append s (zeros (400 * c)), length_zeros (400 * c))) in
    ext_get_or 0 (part (s ++ zeros (400 * c)) (400 * i) 400) (block_samples s (suc i)) (size ∙ sym (length_block_samples s (suc i)))
    (λ k l. let q : k < 400 = omega arith in let one : suc i - 1 ≡ i = omega arith in
    get_d_part (s ++ zeros (400 * c)) (400 * i) 400 k q
    ∙ getD_append_zeros s (400 * c) (400 * i + k)
    ∙ ap (λ (n : ℕ). get_or s (400 * n + k) 0) (sym one)
    ∙ sym (getD_block_samples s (suc i) k q))

-- the blocks' samples, one block after the other, begin with the frame's
pub joined_block_samples : (s : List ℕ) (c : ℕ) → length s ≤ 400 * c → take (length s) (joined c (λ i. block_samples s (suc i))) ≡ s
joined_block_samples s c h =
    ap (take (length s))
    (sym (joined_cong c (λ i. part (s ++ zeros (400 * c)) (400 * i) 400) (λ i. block_samples s (suc i)) (part_filled_up s c)))
    ∙ ap (take (length s)) (sym (joined_parts (s ++ zeros (400 * c)) 400 c))
    ∙ take-take (length s) (400 * c) (s ++ zeros (400 * c)) h
    ∙ take_at s (zeros (400 * c)) (length s) refl

-- the other way round: samples of blocks, zero past the m-th, are the samples of the blocks of their first m
module _ (m c : ℕ) (samples : ℕ → List ℕ) (each : (i : ℕ) → length (samples i) ≡ 400) where
  pub block_samples_joined : (i : ℕ) → i < c → all_zero (drop (m - 400 * i) (samples i)) ≡ true
      → block_samples (take m (joined c samples)) (suc i) ≡ samples i
  unfolding block_samples
  block_samples_joined i h z =
      let one : suc i - 1 ≡ i = omega arith in
      ap (λ (n : ℕ). filled_up (part (take m (joined c samples)) (400 * n) 400)) one
      ∙ ap filled_up (part_take (joined c samples) m (400 * i) 400 ∙ ap (take (m - 400 * i)) (part_joined samples 400 each c i h))
      ∙ filled_up_front (samples i) (m - 400 * i) (each i) z

-- a file's payloads hold as many samples as are asked of them
pub length_stored_samples : (file : List ℕ) (m : ℕ) → length (stored_samples file m) ≡ m
unfolding stored_samples
length_stored_samples file m =
    let stored : ℕ → List ℕ = λ i. unpacked_payload (payload file (suc i)) in
    let size = length_joined stored 400 (λ i. length_unpacked_payload (payload file (suc i))) (block_count m - 1) in
    length-take m (joined (block_count m - 1) stored) ∙ omega (arith, size, blocks_hold m)
