-- A block composed in 512 zero bytes, and the blocks of a file one after the other. Assumes nothing.
use mathlib.Core.Path.{◌≡◌, refl, sym, ◌∙◌, ap, ap₂}
use mathlib.Core.List.{List, [], ◌++◌, append_assoc, append-nil}
use Prim.Native.Nat.{ℕ, ◌+◌, ◌-◌, ◌≤◌}
use native.Mathlib.Omega.{arith}
use lib.ListN.{length, take, drop, length-append, drop_of_length-le}
use lib.Seq.{take_at}
use Rattle.frame.specs.declared.Shape.{Shape}
use Rattle.frame_file.specs.Lists.{part, get_d_front, zeros, length_zeros, drop_zeros, zeros_append, length_part, put_at, put_at_next}
use Rattle.frame_file.specs.FrameFile.{little_endian_bytes, check, tag, packed_payload, with_check, header_bytes, sample_bytes}
use Rattle.frame_file.proofs.LittleEndian.{length_little_endian_bytes}
use Rattle.frame_file.proofs.Check.{check_cong}
use Rattle.frame_file.proofs.Raw10.{length_packed_payload}
use Rattle.frame_file.proofs.WrittenBlocks.{length_header_bytes}

-- the check stored after 508 bytes
pub check_stored : (b c : List ℕ) → length b ≡ 512 → c ≡ little_endian_bytes 4 (check b) → put_at b 508 c ≡ with_check (part b 0 508)
unfolding put_at with_check part
check_stored b c size e =
    let four : length c ≡ 4 = ap length e ∙ length_little_endian_bytes 4 (check b) in
    let none : length b ≤ 508 + length c = omega arith in
    ap (λ (t : List ℕ). take 508 b ++ (c ++ t)) (drop_of_length-le b none)
    ∙ ap (λ (t : List ℕ). take 508 b ++ t)
    (append-nil c ∙ e ∙ ap (little_endian_bytes 4) (check_cong b (part b 0 508) (λ k h. sym (get_d_front b 508 k h))))

-- the first 508 bytes of 512 zero bytes that are filled up to k
filled_block : (front : List ℕ) (k r : ℕ) → length front ≡ k → k + (r + 4) ≡ 512
    → part (front ++ drop k (zeros 512)) 0 508 ≡ front ++ zeros r
unfolding part
filled_block front k r e h =
    let left : 512 - k ≡ r + 4 = omega arith in
    let size : length (front ++ zeros r) ≡ 508 = omega (arith, length-append front (zeros r), length_zeros r) in
    ap (λ (t : List ℕ). take 508 (front ++ t)) (drop_zeros k 512 ∙ ap zeros left ∙ sym (zeros_append r 4))
    ∙ ap (take 508) (sym (append_assoc front (zeros r) (zeros 4)))
    ∙ take_at (front ++ zeros r) (zeros 4) 508 size

put_first : (l m : List ℕ) → put_at l 0 m ≡ m ++ drop (length m) l
put_first l m = let e : 0 + length m ≡ length m = omega arith in put_at_next [] l m 0 refl ∙ ap (λ (n : ℕ). m ++ drop n l) e

header_parts : (shape : Shape) → header_bytes shape ≡ part (header_bytes shape) 0 13 ++ zeros 495
unfolding part header_bytes little_endian_bytes tag
header_parts shape = refl

header_filled : (shape : Shape) (front : List ℕ) → front ≡ part (header_bytes shape) 0 13
    → part (put_at (zeros 512) 0 front) 0 508 ≡ header_bytes shape
header_filled shape front e =
    let size : length front ≡ 13 = ap length e ∙ length_part (header_bytes shape) 0 13 (omega (arith, length_header_bytes shape)) in
    ap (λ (t : List ℕ). part t 0 508) (put_first (zeros 512) front ∙ ap (λ (n : ℕ). front ++ drop n (zeros 512)) size)
    ∙ filled_block front 13 495 size refl
    ∙ ap (λ (t : List ℕ). t ++ zeros 495) e
    ∙ sym (header_parts shape)

pub header_composed : (shape : Shape) (front b1 b2 : List ℕ) → front ≡ part (header_bytes shape) 0 13 → b1 ≡ put_at (zeros 512) 0 front
    → b2 ≡ with_check (part b1 0 508) → b2 ≡ with_check (header_bytes shape)
header_composed shape front b1 b2 ef e1 e2 =
    e2 ∙ ap with_check (ap (λ (t : List ℕ). part t 0 508) e1 ∙ header_filled shape front ef)

samples_filled : (n : ℕ) (samples number bytes : List ℕ) → number ≡ little_endian_bytes 4 n → bytes ≡ packed_payload samples
    → part (put_at (put_at (zeros 512) 0 number) 4 bytes) 0 508 ≡ sample_bytes n samples
unfolding sample_bytes
samples_filled n samples number bytes en eb =
    let four : length number ≡ 4 = ap length en ∙ length_little_endian_bytes 4 n in
    let all : length bytes ≡ 500 = ap length eb ∙ length_packed_payload samples in
    let size : length (number ++ bytes) ≡ 504 = omega (arith, length-append number bytes) in
    ap (λ (t : List ℕ). part t 0 508)
    (ap (λ (t : List ℕ). put_at t 4 bytes) (put_first (zeros 512) number ∙ ap (λ (k : ℕ). number ++ drop k (zeros 512)) four)
    ∙ put_at_next number (zeros 512) bytes 4 four
    ∙ ap (λ (k : ℕ). (number ++ bytes) ++ drop (4 + k) (zeros 512)) all)
    ∙ filled_block (number ++ bytes) 504 4 size refl
    ∙ append_assoc number bytes (zeros 4)
    ∙ ap₂ (λ (s t : List ℕ). s ++ (t ++ zeros 4)) en eb

pub samples_composed : (n : ℕ) (samples number bytes b1 b2 b3 : List ℕ) → number ≡ little_endian_bytes 4 n → bytes ≡ packed_payload samples
    → b1 ≡ put_at (zeros 512) 0 number → b2 ≡ put_at b1 4 bytes → b3 ≡ with_check (part b2 0 508)
    → b3 ≡ with_check (sample_bytes n samples)
samples_composed n samples number bytes b1 b2 b3 en eb e1 e2 e3 =
    let filled : b2 ≡ put_at (put_at (zeros 512) 0 number) 4 bytes = rw (e2, e1) refl in
    e3 ∙ ap with_check (ap (λ (t : List ℕ). part t 0 508) filled ∙ samples_filled n samples number bytes en eb)
