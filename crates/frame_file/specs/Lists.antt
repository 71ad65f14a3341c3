-- Parts of lists, lists joined from pieces, lists of zeros, and lists of small numbers. Assumes nothing.
use Rattle.std.specs.Prelude.{◌≡◌, refl, Bool, true, false, ◌&&◌, List, [], ◌∷◌, ◌++◌, leb, eqb, length, get_or, take, drop, set, replicate}
use Rattle.std.proofs.Math.Path.{sym, ap₂}
use Rattle.std.proofs.Common.{◌∙◌, ap, append-nil, append_assoc, eq-or-lt_of_le, mul-suc, mul-le-mul_left, le_refl, add-one, length-take, length-drop, drop_of_length-le, drop-cons, length-take-le, take-add, take_all, take-take, take_at, drop_at, drop-drop, get_or-take, get_or-drop, drop-set-lt}
use Rattle.std.proofs.Math.Logic.{⊎_elim}
use Prim.Native.Nat.{ℕ, zero, suc, ◌+◌, ◌-◌, ◌*◌, ◌≤◌, ◌<◌, min}
use Rattle.std.proofs.Math.Nat.{add-sub_cancel_left, sub-zero, zero-sub, suc-sub-suc}
use native.Mathlib.Omega.{arith}
use Rattle.std.proofs.Math.ListN.{length-append, get_or-eq_default}
use Rattle.std.proofs.lemmas.List.{length-replicate, replicate-append-replicate, take-append-le, drop-append-le, take-set-le, drop-set-add}
use Rattle.std.proofs.Math.Seq.{drop-append-add, take-nil, take-set-lt}
use Rattle.toolkit.specs.Tests.{by_test, leb_le, leb_gt, eqb_eq, eqb_yes, and_true}

-- ---- a part of a list: the n entries from position a on
unfoldable pub part : List ℕ → ℕ → ℕ → List ℕ
part l a n = take n (drop a l)

-- the slice of the entries from a on, up to and not including a + n
pub slice_part : (l : List ℕ) (a n : ℕ) → take (a + n - a) (drop a l) ≡ part l a n
unfolding part
slice_part l a n = ap (λ (k : ℕ). take k (drop a l)) (add-sub_cancel_left a n)

pub length_part : (l : List ℕ) (a n : ℕ) → a + n ≤ length l → length (part l a n) ≡ n
unfolding part
length_part l a n h = simp (length-take, length-drop) (omega arith)

pub length_part_min : (l : List ℕ) (a n : ℕ) → length (part l a n) ≡ min n (length l - a)
unfolding part
length_part_min l a n = simp (length-take, length-drop)

pub get_d_part : (l : List ℕ) (a n k : ℕ) → k < n → get_or (part l a n) k 0 ≡ get_or l (a + k) 0
unfolding part
get_d_part l a n k h = get_or-take n (drop a l) k 0 h ∙ get_or-drop a l k 0

pub get_d_front : (l : List ℕ) (n k : ℕ) → k < n → get_or (part l 0 n) k 0 ≡ get_or l k 0
unfolding part
get_d_front l n k h = get_or-take n l k 0 h

pub part_split : (l : List ℕ) (a n m : ℕ) → part l a (n + m) ≡ part l a n ++ part l (a + n) m
unfolding part
part_split l a n m = take-add n m (drop a l) ∙ ap (λ (t : List ℕ). take n (drop a l) ++ take m t) (drop-drop n a l)

pub part_cons : (l : List ℕ) (a n : ℕ) → a < length l → part l a (suc n) ≡ get_or l a 0 ∷ part l (a + 1) n
unfolding part
part_cons l a n h = rw (drop-cons l a 0 h, add-one)

pub part_whole : (l : List ℕ) (n : ℕ) → length l ≡ n → part l 0 n ≡ l
unfolding part
part_whole l n e = take_all n l (omega arith)

-- the middle of three lists
pub part_middle : (x y z : List ℕ) (a n : ℕ) → length x ≡ a → length y ≡ n → part (x ++ (y ++ z)) a n ≡ y
unfolding part
part_middle x y z a n e f = ap (take n) (drop_at x (y ++ z) a e) ∙ take_at y z n f

pub part_append : (x y : List ℕ) (a n : ℕ) → a + n ≤ length x → part (x ++ y) a n ≡ part x a n
unfolding part
part_append x y a n h = ap (take n) (drop-append-le a x y (omega arith)) ∙ take-append-le n (drop a x) y (simp length-drop (omega arith))

drop_take : (a m : ℕ) (l : List ℕ) → drop a (take m l) ≡ take (m - a) (drop a l)
drop_take zero m l = rw sub-zero
drop_take (suc a) zero l = rw zero-sub
drop_take (suc a) (suc m) [] = sym (take-nil (suc m - suc a))
drop_take (suc a) (suc m) (x ∷ l) = rw suc-sub-suc (drop_take a m l)

take_comm : (m n : ℕ) (l : List ℕ) → take m (take n l) ≡ take n (take m l)
take_comm zero n l = sym (take-nil n)
take_comm (suc m) zero l = refl
take_comm (suc m) (suc n) [] = refl
take_comm (suc m) (suc n) (x ∷ l) = ap (λ (t : List ℕ). x ∷ t) (take_comm m n l)

-- a part of a part
pub part_part : (l : List ℕ) (a m b n : ℕ) → b + n ≤ m → part (part l a m) b n ≡ part l (a + b) n
unfolding part
part_part l a m b n h =
    ap (take n) (drop_take b m (drop a l)) ∙ take-take n (m - b) (drop b (drop a l)) (omega arith) ∙ ap (take n) (drop-drop b a l)

-- a part of the first m entries
pub part_take : (l : List ℕ) (m a n : ℕ) → part (take m l) a n ≡ take (m - a) (part l a n)
unfolding part
part_take l m a n = ap (take n) (drop_take a m l) ∙ take_comm n (m - a) (drop a l)

-- a part after one entry is changed: one that ends before it, one that begins past it, one that has it
pub part_set_past : (l : List ℕ) (k v a n : ℕ) → a + n ≤ k → part (set l k v) a n ≡ part l a n
unfolding part
part_set_past l k v a n h =
    let e : k ≡ a + (k - a) = omega arith in
    ap (λ (j : ℕ). take n (drop a (set l j v))) e ∙ ap (take n) (drop-set-add a l (k - a) v)
    ∙ take-set-le n (drop a l) (k - a) v (omega arith)

pub part_set_before : (l : List ℕ) (k v a n : ℕ) → k < a → part (set l k v) a n ≡ part l a n
unfolding part
part_set_before l k v a n h = ap (take n) (drop-set-lt a l k v h)

pub part_set_inside : (l : List ℕ) (i v a n : ℕ) → i < n → part (set l (a + i) v) a n ≡ set (part l a n) i v
unfolding part
part_set_inside l i v a n h = ap (take n) (drop-set-add a l i v) ∙ take-set-lt n (drop a l) i v h

-- ---- lists joined from n pieces: piece 0, piece 1, ..
unfoldable pub joined : ℕ → (ℕ → List ℕ) → List ℕ
joined zero piece = []
joined (suc n) piece = joined n piece ++ piece n

pub joined_cong : (n : ℕ) (p q : ℕ → List ℕ) → ((i : ℕ) → i < n → p i ≡ q i) → joined n p ≡ joined n q
unfolding joined
joined_cong zero p q e = refl
joined_cong (suc n) p q e = ap₂ (λ (s t : List ℕ). s ++ t) (joined_cong n p q (λ i h. e i (omega arith))) (e n (le_refl (suc n)))

-- a list is joined from its parts
pub joined_parts : (l : List ℕ) (m n : ℕ) → take (m * n) l ≡ joined n (λ i. part l (m * i) m)
unfolding joined part
joined_parts l m zero = let e : m * 0 ≡ 0 = omega arith in rw e
joined_parts l m (suc n) =
    ap (λ (k : ℕ). take k l) (mul-suc m n)
    ∙ take-add (m * n) m l
    ∙ ap (λ (t : List ℕ). t ++ take m (drop (m * n) l)) (joined_parts l m n)

-- pieces of equal length
module _ (piece : ℕ → List ℕ) (m : ℕ) (each : (i : ℕ) → length (piece i) ≡ m) where
  pub length_joined : (n : ℕ) → length (joined n piece) ≡ m * n
  unfolding joined
  length_joined zero = omega arith
  length_joined (suc n) = length-append (joined n piece) (piece n) ∙ ap₂ (λ (s t : ℕ). s + t) (length_joined n) (each n) ∙ sym (mul-suc m n)

  pub part_joined : (n i : ℕ) → i < n → part (joined n piece) (m * i) m ≡ piece i
  unfolding joined
  part_joined zero i h = absurd (omega arith)
  part_joined (suc n) i h =
      ⊎_elim (λ (e : i ≡ n). rw e (last n)) (λ (k : i < n). before n i k ∙ part_joined n i k) (eq-or-lt_of_le (below n i h))
    where
      below : (n i : ℕ) → i < suc n → i ≤ n
      below n i h = omega arith

      last : (n : ℕ) → part (joined n piece ++ piece n) (m * n) m ≡ piece n
      last n =
          ap (λ (t : List ℕ). part (joined n piece ++ t) (m * n) m) (sym (append-nil (piece n)))
          ∙ part_middle (joined n piece) (piece n) [] (m * n) m (length_joined n) (each n)

      before : (n i : ℕ) → i < n → part (joined n piece ++ piece n) (m * i) m ≡ part (joined n piece) (m * i) m
      before n i k = part_append (joined n piece) (piece n) (m * i) m (omega (arith, length_joined n, mul-suc m i, mul-le-mul_left m k))

  pub getD_joined : (n i k : ℕ) → i < n → k < m → get_or (joined n piece) (m * i + k) 0 ≡ get_or (piece i) k 0
  getD_joined n i k h l = sym (get_d_part (joined n piece) (m * i) m k l) ∙ ap (λ (t : List ℕ). get_or t k 0) (part_joined n i h)

-- ---- a list with other entries put at position a
unfoldable pub put_at : List ℕ → ℕ → List ℕ → List ℕ
put_at l a m = take a l ++ (m ++ drop (a + length m) l)

pub length_put_at : (l : List ℕ) (a : ℕ) (m : List ℕ) → a + length m ≤ length l → length (put_at l a m) ≡ length l
unfolding put_at
length_put_at l a m h =
    omega (
      arith,
      length-append (take a l) (m ++ drop (a + length m) l),
      length-append m (drop (a + length m) l),
      length-drop (a + length m) l,
      length-take-le a l (omega arith),
    )

-- a list that is filled up to position k, filled further
pub put_at_next : (front rest m : List ℕ) (k : ℕ) → length front ≡ k
    → put_at (front ++ drop k rest) k m ≡ (front ++ m) ++ drop (k + length m) rest
unfolding put_at
put_at_next front rest m k e =
    ap₂ (λ (s t : List ℕ). s ++ (m ++ t)) (take_at front (drop k rest) k e)
    (ap (λ (n : ℕ). drop (n + length m) (front ++ drop k rest)) (sym e) ∙ drop-append-add front (drop k rest) (length m)
    ∙ drop-drop (length m) k rest)
    ∙ sym (append_assoc front m (drop (k + length m) rest))

-- pieces put one after the other
pub put_at_joined : (piece : ℕ → List ℕ) (m : ℕ) → ((i : ℕ) → length (piece i) ≡ m) → (rest : List ℕ) (n : ℕ)
    → put_at (joined n piece ++ drop (m * n) rest) (m * n) (piece n) ≡ joined (n + 1) piece ++ drop (m * (n + 1)) rest
unfolding joined
put_at_joined piece m each rest n =
    let next : m * n + length (piece n) ≡ m * (n + 1) = omega (arith, each n, mul-suc m n, add-one n) in
    put_at_next (joined n piece) rest (piece n) (m * n) (length_joined piece m each n)
    ∙ ap₂ (λ (s : List ℕ) (k : ℕ). s ++ drop k rest) (ap (λ (k : ℕ). joined k piece) (sym (add-one n))) next

-- ---- zeros
unfoldable pub zeros : ℕ → List ℕ
zeros n = replicate n 0

pub length_zeros : (n : ℕ) → length (zeros n) ≡ n
unfolding zeros
length_zeros n = length-replicate n 0

pub zeros_append : (m n : ℕ) → zeros m ++ zeros n ≡ zeros (m + n)
unfolding zeros
zeros_append m n = replicate-append-replicate m n 0

pub drop_zeros : (k n : ℕ) → drop k (zeros n) ≡ zeros (n - k)
unfolding zeros
drop_zeros zero n = rw sub-zero
drop_zeros (suc k) zero = rw zero-sub
drop_zeros (suc k) (suc n) = rw suc-sub-suc (drop_zeros k n)

pub getD_append_zeros : (l : List ℕ) (n k : ℕ) → get_or (l ++ zeros n) k 0 ≡ get_or l k 0
unfolding zeros
getD_append_zeros [] zero k = refl
getD_append_zeros [] (suc n) zero = refl
getD_append_zeros [] (suc n) (suc k) = getD_append_zeros [] n k
getD_append_zeros (x ∷ l) n zero = refl
getD_append_zeros (x ∷ l) n (suc k) = getD_append_zeros l n k

unfoldable pub all_zero : List ℕ → Bool
all_zero [] = true
all_zero (x ∷ l) = eqb x 0 && all_zero l

pub zeros_all_zero : (n : ℕ) → all_zero (zeros n) ≡ true
unfolding zeros all_zero
zeros_all_zero zero = refl
zeros_all_zero (suc n) = zeros_all_zero n

pub all_zero_zeros : (l : List ℕ) → all_zero l ≡ true → l ≡ zeros (length l)
unfolding zeros all_zero
all_zero_zeros [] e = refl
all_zero_zeros (x ∷ l) e =
    let t = and_true (eqb x 0) (all_zero l) e in ap₂ (λ (y : ℕ) (m : List ℕ). y ∷ m) (eqb_eq x 0 t.0) (all_zero_zeros l t.1)

pub all_zero_drop : (l : List ℕ) (k : ℕ) → k < length l → all_zero (drop k l) ≡ (eqb (get_or l k 0) 0 && all_zero (drop (k + 1) l))
unfolding all_zero
all_zero_drop l k h = rw (add-one, drop-cons l k 0 h)

pub all_zero_past : (l : List ℕ) (k : ℕ) → length l ≤ k → all_zero (drop k l) ≡ true
unfolding all_zero
all_zero_past l k h = rw (drop_of_length-le l h)

-- ---- two lists are the same
unfoldable pub same_list : List ℕ → List ℕ → Bool
same_list [] [] = true
same_list [] (y ∷ m) = false
same_list (x ∷ l) [] = false
same_list (x ∷ l) (y ∷ m) = eqb x y && same_list l m

pub same_list_self : (l : List ℕ) → same_list l l ≡ true
unfolding same_list
same_list_self [] = refl
same_list_self (x ∷ l) = rw (eqb_yes {m = x} {n = x} refl) (same_list_self l)

pub same_list_equal : (l m : List ℕ) → same_list l m ≡ true → l ≡ m
unfolding same_list
same_list_equal [] [] e = refl
same_list_equal [] (y ∷ m) e = absurd (let z : ◌≡◌ {A = ℕ} 0 1 = cc in omega arith)
same_list_equal (x ∷ l) [] e = absurd (let z : ◌≡◌ {A = ℕ} 0 1 = cc in omega arith)
same_list_equal (x ∷ l) (y ∷ m) e =
    let t = and_true (eqb x y) (same_list l m) e in ap₂ (λ (z : ℕ) (k : List ℕ). z ∷ k) (eqb_eq x y t.0) (same_list_equal l m t.1)

-- ---- every entry is below a bound
abbrev pub Below : ℕ → List ℕ → Type 0
Below b l = (k : ℕ) → get_or l k 0 < b

pub below_from : (b : ℕ) (l : List ℕ) → 0 < b → ((k : ℕ) → k < length l → get_or l k 0 < b) → Below b l
below_from b l p h k =
    by_test (leb (length l) k) (get_or l k 0 < b)
    (λ t. rw (get_or-eq_default l 0 (leb_le (length l) k t)) p)
    (λ t. h k (leb_gt (length l) k t))

pub below_append : (b : ℕ) (l m : List ℕ) → Below b l → Below b m → Below b (l ++ m)
below_append b [] m h g k = g k
below_append b (x ∷ l) m h g zero = h 0
below_append b (x ∷ l) m h g (suc k) = below_append b l m (λ i. h (suc i)) g k

pub below_part : (b : ℕ) (l : List ℕ) (a n : ℕ) → Below b l → Below b (part l a n)
below_part b l a n h k =
    by_test (leb n k) (get_or (part l a n) k 0 < b)
    (λ t. rw (get_or-eq_default (part l a n) 0 (past k (leb_le n k t))) (positive (h 0)))
    (λ t. rw (get_d_part l a n k (leb_gt n k t)) (h (a + k)))
  where
    past : (k : ℕ) → n ≤ k → length (part l a n) ≤ k
    past k q = omega (arith, length_part_min l a n)

    positive : get_or l 0 0 < b → 0 < b
    positive q = omega arith

pub below_zeros : (b n : ℕ) → 0 < b → Below b (zeros n)
unfolding zeros
below_zeros b zero p k = p
below_zeros b (suc n) p zero = p
below_zeros b (suc n) p (suc k) = below_zeros b n p k

pub below_joined : (b n : ℕ) (piece : ℕ → List ℕ) → 0 < b → ((i : ℕ) → Below b (piece i)) → Below b (joined n piece)
unfolding joined
below_joined b zero piece p h k = p
below_joined b (suc n) piece p h k = below_append b (joined n piece) (piece n) (below_joined b n piece p h) (h n) k

pub below_set : (b : ℕ) (l : List ℕ) (i v : ℕ) → v < b → Below b l → Below b (set l i v)
below_set b [] i v p h k = h k
below_set b (x ∷ l) zero v p h zero = p
below_set b (x ∷ l) zero v p h (suc k) = h (suc k)
below_set b (x ∷ l) (suc i) v p h zero = h 0
below_set b (x ∷ l) (suc i) v p h (suc k) = below_set b l i v p (λ j. h (suc j)) k
