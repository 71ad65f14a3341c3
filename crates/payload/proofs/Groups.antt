-- Laws of groups in a payload and in a slice of samples. Assumes nothing.
use mathlib.Core.Path.{◌≡◌, refl, sym, ◌∙◌, ap, ap₂}
use mathlib.Core.List.{List, ◌++◌, append-nil}
use Prim.Native.Nat.{ℕ, zero, suc, ◌+◌, ◌-◌, ◌*◌, ◌/◌, ◌%◌, ◌≤◌, ◌<◌}
use native.Mathlib.Nat.{add-zero}
use native.Mathlib.Omega.{arith}
use lib.Dec.{eqb}
use lib.ListN.{length, get_or, take, drop, length-drop, drop_of_length-le}
use lib.Seq.{take-add}
use borrow.Rule.Slice.PartMut.{put_mid}
use Rattle.std.specs.List.{list_all, range_with_len}
use Rattle.std.proofs.lemmas.List.{take-take, take_all}
use Rattle.std.proofs.lemmas.Slice.{take-put_mid}
use Rattle.frame_file.specs.Lists.{part, get_d_part, joined, part_joined, getD_append_zeros, put_at, put_at_joined, all_zero, all_zero_drop, all_zero_past}
use Rattle.frame_file.specs.FrameFile.{filled_up, packed, unpacked, packed_payload, unpacked_payload}
use Rattle.frame_file.proofs.Raw10.{length_packed, length_unpacked}

-- ---- groups of samples

-- entry t of group g of samples that are filled up
getD_group : (s : List ℕ) (g t : ℕ) → t < 4 → get_or (part (filled_up s) (4 * g) 4) t 0 ≡ get_or s (4 * g + t) 0
unfolding filled_up
getD_group s g t h = get_d_part (filled_up s) (4 * g) 4 t h ∙ getD_append_zeros s _ (4 * g + t)

-- four samples, or 0 past the last, are group g of the samples that are filled up
pub packed_group : (s group : List ℕ) (g : ℕ) → get_or group 0 0 ≡ get_or s (4 * g) 0 → get_or group 1 0 ≡ get_or s (4 * g + 1) 0
    → get_or group 2 0 ≡ get_or s (4 * g + 2) 0 → get_or group 3 0 ≡ get_or s (4 * g + 3) 0
    → packed group ≡ packed (part (filled_up s) (4 * g) 4)
unfolding packed
packed_group s group g ea eb ec ed =
    let first : get_or (part (filled_up s) (4 * g) 4) 0 0 ≡ get_or s (4 * g) 0 =
    getD_group s g 0 (omega arith) ∙ ap (λ (k : ℕ). get_or s k 0) (add-zero (4 * g)) in
    rw (first, getD_group s g 1 (omega arith), getD_group s g 2 (omega arith), getD_group s g 3 (omega arith), ea, eb, ec, ed)

-- the group that is stored next in a payload
abbrev pub group_of : List ℕ → ℕ → List ℕ
group_of s g = packed (part (filled_up s) (4 * g) 4)

-- the first g groups are stored
abbrev pub stored : List ℕ → List ℕ → ℕ → List ℕ
stored s before g = joined g (group_of s) ++ drop (5 * g) before

pub stored_none : (s before : List ℕ) → before ≡ stored s before 0
unfolding joined
stored_none s before = refl

pub stored_next : (s before : List ℕ) (g : ℕ) → put_at (stored s before g) (5 * g) (group_of s g) ≡ stored s before (g + 1)
stored_next s before g = put_at_joined (group_of s) 5 (λ i. length_packed (part (filled_up s) (4 * i) 4)) before g

pub stored_all : (s before : List ℕ) (g : ℕ) → g ≡ 100 → length before ≤ 500 → stored s before g ≡ packed_payload (filled_up s)
unfolding packed_payload
stored_all s before g all size = rw (all, drop_of_length-le before size) (append-nil (joined 100 (group_of s)))

-- ---- groups of bytes

-- group g of the samples of a payload
group_part : (p : List ℕ) (g : ℕ) → g < 100 → part (unpacked_payload p) (4 * g) 4 ≡ unpacked (part p (5 * g) 5)
unfolding unpacked_payload
group_part p g h = part_joined (λ i. unpacked (part p (5 * i) 5)) 4 (λ i. length_unpacked (part p (5 * i) 5)) 100 g h

-- sample k of a payload is entry k % 4 of its group k / 4
pub sample_of_group : (p : List ℕ) (k : ℕ) → k < 400 → get_or (unpacked (part p (5 * (k / 4)) 5)) (k % 4) 0 ≡ get_or (unpacked_payload p) k 0
sample_of_group p k h =
    let e : 4 * (k / 4) + k % 4 ≡ k = omega arith in
    ap (λ (l : List ℕ). get_or l (k % 4) 0) (sym (group_part p (k / 4) (omega arith)))
    ∙ get_d_part (unpacked_payload p) (4 * (k / 4)) 4 (k % 4) (omega arith)
    ∙ ap (λ (i : ℕ). get_or (unpacked_payload p) i 0) e

-- the samples before group g, and then the first n of group g
module _ (p l : List ℕ) (g : ℕ) (h : g < 100) (before : take (4 * g) l ≡ take (4 * g) (unpacked_payload p)) where
  group_added : (n : ℕ) → n ≤ 4 → take (4 * g) l ++ take n (unpacked (part p (5 * g) 5)) ≡ take (4 * g + n) (unpacked_payload p)
  unfolding part
  group_added n most =
      ap₂ (λ (s t : List ℕ). s ++ t) before
      (ap (take n) (sym (group_part p g h)) ∙ take-take n 4 (drop (4 * g) (unpacked_payload p)) most)
      ∙ sym (take-add (4 * g) n (unpacked_payload p))

  -- they are copied into the part of l from position 4·g on
  pub group_stored : (copied : List ℕ) (width end : ℕ) → end ≡ 4 * g + 4 → 4 * g ≤ length l → copied ≡ unpacked (part p (5 * g) 5)
      → take end (put_mid (4 * g) width l copied) ≡ take end (unpacked_payload p)
  group_stored copied width end e inside c =
      let size : length copied ≡ 4 = ap length c ∙ length_unpacked (part p (5 * g) 5) in
      let all : copied ≡ take 4 (unpacked (part p (5 * g) 5)) = c ∙ sym (take_all 4 _ (omega (arith, length_unpacked (part p (5 * g) 5)))) in
      take-put_mid (4 * g) width l copied end (omega arith) inside
      ∙ ap (λ (t : List ℕ). take (4 * g) l ++ t) all
      ∙ group_added 4 (omega arith)
      ∙ ap (λ (n : ℕ). take n (unpacked_payload p)) (sym e)

  pub rest_stored : (copied : List ℕ) (n width end : ℕ) → n ≤ 4 → end ≡ 4 * g + n → length l ≤ 4 * g + width
      → copied ≡ take n (unpacked (part p (5 * g) 5))
      → put_mid (4 * g) width l copied ≡ take end (unpacked_payload p)
  rest_stored copied n width end most e whole c =
      let none : length (drop (4 * g) l) ≤ width = omega (arith, length-drop (4 * g) l) in
      rw (drop_of_length-le (drop (4 * g) l) none, append-nil copied, c, e) (group_added n most)

-- ---- samples that are zero

-- the entries of a list from position k on, of which there are n
pub zero_entries : (l : List ℕ) (n k : ℕ) → length l - k ≡ n → list_all (λ i. eqb (get_or l i 0) 0) (range_with_len k n) ≡ all_zero (drop k l)
zero_entries l zero k e = sym (all_zero_past l k (omega arith))
zero_entries l (suc n) k e = rw (all_zero_drop l k (omega arith), zero_entries l n (k + 1) (omega arith))
