-- The samples of a file's payloads, stored block by block. Assumes nothing.
use mathlib.Core.Path.{◌≡◌, sym, ◌∙◌, ap, ap₂}
use mathlib.Core.List.{List, ◌++◌, append_assoc, append-nil}
use Prim.Native.Nat.{ℕ, suc, ◌+◌, ◌*◌, ◌-◌, ◌≤◌, ◌<◌, min}
use native.Mathlib.Omega.{arith}
use native.Mathlib.Numerals.{add-one}
use lib.ListN.{length, take, drop, length-take, drop_of_length-le}
use lib.Seq.{take-add, take_at, take-take, take_all, drop_at, drop-drop}
use borrow.Rule.Slice.PartMut.{put_mid, mid_of, mid_len}
use Rattle.frame_file.specs.Lists.{part, part_take, joined, part_joined}
use Rattle.frame_file.specs.FrameFile.{payload, unpacked_payload, block_count, stored_samples}
use Rattle.frame_file.proofs.Raw10.{length_unpacked_payload}
use Rattle.frame_file.proofs.BlockCount.{block_after_header}
use Rattle.frame_file.proofs.BlockSamples.{length_stored_samples}

module _ (file : List ℕ) (m : ℕ) where
  block_samples : ℕ → List ℕ
  block_samples i = unpacked_payload (payload file (suc i))

  -- the first k samples of block i + 1
  samples_of_block : (i k : ℕ) → 400 * i < m → k ≤ 400 → 400 * i + k ≤ m
      → take k (drop (400 * i) (stored_samples file m)) ≡ take k (unpacked_payload (payload file (suc i)))
  unfolding stored_samples block_samples part
  samples_of_block i k h small fits =
      let all : List ℕ = joined (block_count m - 1) block_samples in
      sym (take-take k 400 (drop (400 * i) (take m all)) small)
      ∙ ap (take k) (part_take all m (400 * i) 400)
      ∙ ap (λ (t : List ℕ). take k (take (m - 400 * i) t))
      (part_joined block_samples 400 (λ j. length_unpacked_payload (payload file (suc j))) (block_count m - 1) i
      (block_after_header m i h))
      ∙ take-take k (m - 400 * i) (unpacked_payload (payload file (suc i))) (omega arith)

-- the samples before position `start` are stored
abbrev pub Unpacked : List ℕ → List ℕ → List ℕ → ℕ → Type 0
Unpacked file before l start = l ≡ take start (stored_samples file (length before)) ++ drop start before

-- ---- one block more

module _ (file before l : List ℕ) (i : ℕ) {end : ℕ} (h : 400 * i < length before) (e : end ≡ min (length l) (400 * i + 400))
    (size : length l ≡ length before) (u : Unpacked file before l (min (400 * i) (length before))) where
  x : List ℕ
  x = stored_samples file (length before)

  start : ℕ
  start = 400 * i

  front : l ≡ take start x ++ drop start before
  unfolding x start
  front = let first : min (400 * i) (length before) ≡ 400 * i = omega arith in rw first at u

  front_size : length (take start x) ≡ start
  unfolding x start
  front_size = length-take (400 * i) x ∙ omega (arith, length_stored_samples file (length before))

  same_front : take start l ≡ take start x
  same_front = ap (take start) front ∙ take_at (take start x) (drop start before) start front_size

  same_rest : drop (end - start) (drop start l) ≡ drop end before
  unfolding start
  same_rest =
      let all : 400 * i + (end - 400 * i) ≡ end = omega (arith, e) in
      ap (drop (end - start)) (ap (drop start) front ∙ drop_at (take start x) (drop start before) start front_size)
      ∙ drop-drop (end - start) start before
      ∙ ap (λ (k : ℕ). drop k before) all

  next_block : take (end - start) (drop start x) ≡ take (end - start) (unpacked_payload (payload file (i + 1)))
  unfolding x start
  next_block =
      samples_of_block file (length before) i (end - 400 * i) h (omega (arith, e)) (omega (arith, e))
      ∙ ap (λ (k : ℕ). take (end - 400 * i) (unpacked_payload (payload file k))) (sym (add-one i))

  more_front : (last : List ℕ) → last ≡ take (end - start) (unpacked_payload (payload file (i + 1))) → take start x ++ last ≡ take end x
  unfolding start
  more_front last el =
      let all : 400 * i + (end - 400 * i) ≡ end = omega (arith, e) in
      ap (λ (t : List ℕ). take start x ++ t) (el ∙ sym next_block) ∙ sym (take-add start (end - start) x) ∙ ap (λ (k : ℕ). take k x) all

  pub unpacked_next : (p last : List ℕ) → p ≡ payload file (i + 1)
      → last ≡ take (length (mid_of (400 * i) (end - 400 * i) l)) (unpacked_payload p)
      → Unpacked file before (put_mid (400 * i) (end - 400 * i) l last) (min (400 * (i + 1)) (length before))
  unfolding x start
  unpacked_next p last ep el =
      let count : length (mid_of (400 * i) (end - 400 * i) l) ≡ end - 400 * i = mid_len (400 * i) end l (omega (arith, e)) in
      let stored : last ≡ take (end - 400 * i) (unpacked_payload (payload file (i + 1))) = el
      ∙ ap₂ (λ (k : ℕ) (q : List ℕ). take k (unpacked_payload q)) count ep in
      let next : min (400 * (i + 1)) (length before) ≡ end = omega (arith, e) in
      rw next
      (ap₂ (λ (s t : List ℕ). s ++ (last ++ t)) same_front same_rest
      ∙ sym (append_assoc (take start x) last (drop end before))
      ∙ ap (λ (s : List ℕ). s ++ drop end before) (more_front last stored))

pub unpacked_all : (file before l : List ℕ) {start : ℕ} → length before ≤ start → Unpacked file before l start
    → l ≡ stored_samples file (length before)
unpacked_all file before l {start} none u =
    let x : List ℕ = stored_samples file (length before) in
    u
    ∙ ap₂ (λ (s t : List ℕ). s ++ t) (take_all start x (omega (arith, length_stored_samples file (length before))))
    (drop_of_length-le before none)
    ∙ append-nil x
