-- Document 02, A4: the square-root tone curve. Definitions alone; that just one number may be each entry is in `OneCurve`. Assumes nothing.
use Rattle.std.specs.Prelude.{◌≡◌, Bool, true, cond, ◌&&◌, List, map, ℕ, zero, suc, ◌*◌, ◌<◌, eqb, ℤ, pos, negsuc, nat_abs, ◌+ℤ◌, ◌*ℤ◌, length, get_or}
use Rattle.toolkit.specs.Tables.{tabulate}
use Rattle.std.specs.Int.Signed.{lt_z}

-- "a curve of 1,024 entries"
unfoldable pub entry_count : ℕ
entry_count = 1024

abbrev square : ℤ → ℤ
square z = z *ℤ z

-- "the entry t satisfies (2t − 1)² < 4,092·v < (2t + 1)²."
unfoldable pub satisfies : ℕ → ℤ → Bool
satisfies v t =
    lt_z (square (pos 2 *ℤ t +ℤ negsuc 0)) (pos (4092 * v)) && lt_z (pos (4092 * v)) (square (pos 2 *ℤ t +ℤ pos 1))

-- "entry 0 is 0, and for v from 1 to 1,023 the entry t satisfies (2t − 1)² < 4,092·v < (2t + 1)².": whether t may be entry v
unfoldable pub may_be_entry : ℕ → ℤ → Bool
may_be_entry zero t = eqb (nat_abs t) 0
may_be_entry (suc v) t = satisfies (suc v) t

-- the first of so many numbers, from t on, that passes a test, or the number behind them
unfoldable pub first_passing : (ℕ → Bool) → ℕ → ℕ → ℕ
first_passing test zero t = t
first_passing test (suc more) t = cond (test t) t (first_passing test more (suc t))

-- entry v of the curve: the first number from 0 to 1,023 that may be it
unfoldable pub curve_entry : ℕ → ℕ
curve_entry v = first_passing (λ t. may_be_entry v (pos t)) entry_count 0

-- a table of 1,024 whole numbers by the rule
pub record IsCurve (table : List ℤ) : Type 0 where
  pub entries : length table ≡ entry_count
  pub follows : (v : ℕ) → v < entry_count → may_be_entry v (get_or table v (pos 0)) ≡ true

-- the curve as a table
unfoldable pub curve_table : List ℤ
curve_table = tabulate entry_count (λ v. pos (curve_entry v))

-- "A call applies it to a clamped plane": number by number
unfoldable pub curved_number : ℤ → ℤ
curved_number v = pos (curve_entry (nat_abs v))

unfoldable pub curved : List ℤ → List ℤ
curved plane = map curved_number plane
