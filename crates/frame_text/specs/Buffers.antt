-- The buffers that develop is lent for so many samples. Assumes nothing.
use Rattle.std.specs.Prelude.{◌≡◌, List, ℕ, ◌*◌, ◌-◌, ◌≤◌, ℤ, length, take, drop}
use Rattle.std.proofs.Common.{◌∙◌, arith, length-take}
use Rattle.std.proofs.Math.Nat.{sub-zero}

pub record PlanesLent (n : ℕ) (red green blue : List ℤ) (map : List ℕ) (work : List ℤ) : Type 0 where
  pub red_size : length red ≡ n
  pub green_size : length green ≡ n
  pub blue_size : length blue ≡ n
  pub map_size : length map ≡ n
  pub work_size : length work ≡ 4 * n

-- the part of a buffer that is lent for n entries
abbrev pub front : {A : Type 0} → List A → ℕ → List A
front l n = take (n - 0) (drop 0 l)

length_front : {A : Type 0} (l : List A) (n m : ℕ) → length l ≡ m → n ≤ m → length (front l n) ≡ n
length_front l n m e h = rw (sub-zero n) (length-take n l ∙ omega arith)

pub parts_lent : {m : ℕ} {red green blue : List ℤ} {map : List ℕ} {work : List ℤ} (n : ℕ) → n ≤ m → PlanesLent m red green blue map work
    → PlanesLent n (front red n) (front green n) (front blue n) (front map n) (front work (4 * n))
parts_lent {m} n h p = record {
  red_size = length_front _ n m p.red_size h;
  green_size = length_front _ n m p.green_size h;
  blue_size = length_front _ n m p.blue_size h;
  map_size = length_front _ n m p.map_size h;
  work_size = length_front _ (4 * n) (4 * m) p.work_size (omega arith);
}
