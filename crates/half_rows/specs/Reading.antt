-- An i32 element as it is read, and cast to i64; sites as entries of a half row. Assumes nothing.
use Rattle.std.specs.Prelude.{◌≡◌, List, ℕ, ◌+◌, ◌-◌, ◌<◌, ◌≤◌, ◌^◌, ℤ, pos, nat_abs, get_or}
use Rattle.std.proofs.Common.{◌∙◌, subst, arith, to_z-of_z}
use Rattle.std.specs.Int.Signed.{mag}
use Rattle.std.specs.Int.{w32, w64}
use mir.Val.{SFits, to_z, of_z, hbits}
use Rattle.toolkit.specs.Bounds.{fits, b_wrap, b_i32}
use Rattle.half_rows.specs.Sources.{Sized}

pub as_read : {z : ℤ} → mag z < 2 ^ hbits w32 → to_z w32 (of_z w32 z) ≡ z
as_read h = to_z-of_z {w = w32} (record { sfits = h })

pub wide_fits : (z : ℤ) → mag z < 2 ^ hbits w32 → SFits w64 (to_z w32 (of_z w32 z))
wide_fits z h = fits (b_wrap w32 z (b_i32 z (record { sfits = h }))) tt

pub wide_read : (z : ℤ) → mag z < 2 ^ hbits w32 → to_z w64 (of_z w64 (to_z w32 (of_z w32 z))) ≡ z
wide_read z h = to_z-of_z (wide_fits z h) ∙ as_read h

-- its size, from that of the number it is
pub size_read : {m : ℕ} {z' : ℤ} (z : ℤ) → z' ≡ z → nat_abs z ≤ m → nat_abs z' ≤ m
size_read z e h = rw e h

-- site k of a half row stands at entry k + 4
pub by_sites : {m n : ℕ} {row : List ℤ} → ((k : ℕ) → k < n → nat_abs (get_or row (k + 4) (pos 0)) ≤ m) → Sized m 4 (n + 4) row
by_sites {m} {n} {row} each = record {
  each = λ x low high.
      let e : x - 4 + 4 ≡ x = omega arith in
      subst (λ (y : ℕ). nat_abs (get_or row y (pos 0)) ≤ m) e (each (x - 4) (omega arith));
}
