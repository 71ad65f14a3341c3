-- Each entry of the curve follows the rule, and no other whole number does: there is just one such table. No entry is below the one before
-- it, and none is below its v. Assumes nothing.
use Rattle.std.specs.Prelude.{◌≡◌, refl, Bool, true, false, ◌&&◌, ◌↔◌, List, ℕ, zero, suc, ◌+◌, ◌*◌, ◌<◌, ◌≤◌, ltb, ℤ, pos, negsuc, nat_abs, ◌+ℤ◌, ◌*ℤ◌, length}
use Rattle.std.proofs.Common.{sym, ◌∙◌, ap, ap₂, true≢false, mul-le-mul, mul-le-mul_right, arith}
use Rattle.std.specs.Int.Signed.{lt_z}
use Rattle.toolkit.specs.Tests.{by_test, and_true, ltb_lt, ltb_ge, ltb_yes, eqb_eq}
use Rattle.toolkit.specs.Differences.{as_difference}
use Rattle.toolkit.specs.Orders.{to_naturals}
use Rattle.toolkit.specs.Tables.{length_tabulate, get_d_tabulate, is_tabulate}
use Rattle.tone_curve.specs.ToneCurve.{entry_count, satisfies, may_be_entry, first_passing, curve_entry, IsCurve, curve_table}

-- ---- the rule, of naturals

-- the rule of t = s + 1
record Between (v s : ℕ) : Type 0 where
  low : (2 * s + 1) * (2 * s + 1) < 4092 * v
  high : 4092 * v < (2 * s + 3) * (2 * s + 3)

both_less : (a b c : ℕ) → (ltb a b && ltb b c) ≡ true → (a < b) × (b < c)
both_less a b c e = (ltb_lt a b (and_true (ltb a b) (ltb b c) e).0, ltb_lt b c (and_true (ltb a b) (ltb b c) e).1)

-- what 2t − 1 and 2t + 1 are
rule_by : (v : ℕ) (t x y : ℤ) → pos 2 *ℤ t +ℤ negsuc 0 ≡ x → pos 2 *ℤ t +ℤ pos 1 ≡ y
    → satisfies v t ≡ (lt_z (x *ℤ x) (pos (4092 * v)) && lt_z (pos (4092 * v)) (y *ℤ y))
unfolding satisfies
rule_by v t x y ex ey = ap₂ (λ (p q : ℤ). lt_z (p *ℤ p) (pos (4092 * v)) && lt_z (pos (4092 * v)) (q *ℤ q)) ex ey

rule_above : (v s : ℕ)
    → satisfies v (pos (suc s)) ≡ (ltb ((2 * s + 1) * (2 * s + 1)) (4092 * v) && ltb (4092 * v) ((2 * s + 3) * (2 * s + 3)))
rule_above v s = rule_by v (pos (suc s)) (pos (2 * s + 1)) (pos (2 * s + 3)) (simp to_naturals (omega arith)) (simp to_naturals (omega arith))

rule_below : (v s : ℕ)
    → satisfies v (negsuc s) ≡ (ltb (suc (2 * s + 2) * suc (2 * s + 2)) (4092 * v) && ltb (4092 * v) (suc (2 * s) * suc (2 * s)))
rule_below v s =
    rule_by v (negsuc s) (negsuc (2 * s + 2)) (negsuc (2 * s)) (simp to_naturals (omega arith)) (simp to_naturals (omega arith))

between_satisfies : (v s : ℕ) → Between v s → satisfies v (pos (suc s)) ≡ true
between_satisfies v s b = rule_above v s ∙ rw (ltb_yes b.low, ltb_yes b.high)

-- what satisfies the rule is above 0: for other t the square of 2t + 1 is not above that of 2t − 1
record Satisfied (v : ℕ) (t : ℤ) : Type 0 where
  less_one : ℕ
  is : t ≡ pos (suc less_one)
  between : Between v less_one

satisfied : (v : ℕ) (t : ℤ) → satisfies v t ≡ true → Satisfied v t
satisfied v (pos zero) e =
    absurd (omega (arith, both_less 1 (4092 * v) 1 (sym (rule_by v (pos 0) (negsuc 0) (pos 1) refl refl) ∙ e)))
satisfied v (pos (suc s)) e =
    let both = both_less ((2 * s + 1) * (2 * s + 1)) (4092 * v) ((2 * s + 3) * (2 * s + 3)) (sym (rule_above v s) ∙ e) in
    record { less_one = s; is = refl; between = record { low = both.0; high = both.1 } }
satisfied v (negsuc s) e =
    absurd (omega (arith, both_less (suc (2 * s + 2) * suc (2 * s + 2)) (4092 * v) (suc (2 * s) * suc (2 * s)) (sym (rule_below v s) ∙ e)))

-- ---- squares rise

root_less : (a b : ℕ) → a * a < b * b → a < b
root_less a b h = by_test (ltb a b) _ (ltb_lt a b) (λ t. let q = ltb_ge a b t in absurd (omega (arith, mul-le-mul q q)))

-- a higher v has no lower entry
between_rises : (v w s u : ℕ) → v ≤ w → Between v s → Between w u → s ≤ u
between_rises v w s u h a b = omega (arith, root_less (2 * s + 1) (2 * u + 3) (omega (arith, a.low, b.high)))

-- no entry is below its v
between_not_below : (v s : ℕ) → v ≤ 1023 → Between v s → v ≤ suc s
between_not_below v s h b =
    omega (arith, root_less (2 * v) (2 * s + 3) (omega (arith, b.high, mul-le-mul_right v h)))

between_most : (v s : ℕ) → v ≤ 1023 → Between v s → s < 1023
between_most v s h b = omega (arith, root_less (2 * s + 1) 2046 (omega (arith, b.low)))

-- ---- some number satisfies it

record Found (v most : ℕ) : Type 0 where
  less_one : ℕ
  low : less_one < most
  between : Between v less_one

-- where (2t + 1)² goes above 4,092·v: that is even, so no square of an odd number
found : (v n : ℕ) → 1 ≤ v → 4092 * v < (2 * n + 1) * (2 * n + 1) → Found v n
found v zero h below = absurd (omega arith)
found v (suc m) h below = by_test (ltb (4092 * v) ((2 * m + 1) * (2 * m + 1))) _
    (λ t. let f = found v m h (ltb_lt _ _ t) in record { less_one = f.less_one; low = omega (arith, f.low); between = f.between })
    (λ t.
    let q = ltb_ge (4092 * v) ((2 * m + 1) * (2 * m + 1)) t in
    record { less_one = m; low = omega arith; between = record { low = omega arith; high = omega arith } })

-- the first of some numbers that pass a test passes it
first_passes : (test : ℕ → Bool) (more t k : ℕ) → t ≤ k → k < t + more → test k ≡ true → test (first_passing test more t) ≡ true
unfolding first_passing
first_passes test zero t k from to e = absurd (omega arith)
first_passes test (suc more) t k from to e = by_test (test t) _
    (λ y. rw y y)
    (λ n. rw n (first_passes test more (suc t) k (next n) (omega arith) e))
  where
    next : test t ≡ false → suc t ≤ k
    next n = by_test (ltb t k) _ (λ q. ltb_lt t k q)
        (λ q. let same : t ≡ k = omega (arith, ltb_ge t k q) in absurd (true≢false (sym e ∙ (rw same at n))))

-- "a curve of 1,024 entries"
pub table_entries : length curve_table ≡ 1024
unfolding curve_table entry_count
table_entries = length_tabulate 1024 (λ v. pos (curve_entry v))

-- ---- the entries

-- entry v may be entry v
pub entry_follows : (v : ℕ) → v ≤ 1023 → may_be_entry v (pos (curve_entry v)) ≡ true
unfolding curve_entry entry_count may_be_entry
entry_follows zero h = first_passes (λ t. may_be_entry 0 (pos t)) 1024 0 0 (omega arith) (omega arith) refl
entry_follows (suc v) h =
    let f = found (suc v) 1023 (omega arith) (omega arith) in
    first_passes (λ t. may_be_entry (suc v) (pos t)) 1024 0 (suc f.less_one) (omega arith) (omega (arith, f.low))
    (between_satisfies (suc v) f.less_one f.between)

-- and no other whole number may
pub only_entry : (v : ℕ) (t u : ℤ) → may_be_entry v t ≡ true → may_be_entry v u ≡ true → t ≡ u
unfolding may_be_entry
only_entry zero t u et eu = zero_is t (eqb_eq _ _ et) ∙ sym (zero_is u (eqb_eq _ _ eu))
  where
    zero_is : (z : ℤ) → nat_abs z ≡ 0 → z ≡ pos 0
    zero_is z = rw (as_difference z) (simp to_naturals (omega arith))
only_entry (suc v) t u et eu =
    let st = satisfied (suc v) t et in
    let su = satisfied (suc v) u eu in
    let below = between_rises (suc v) (suc v) st.less_one su.less_one (omega arith) st.between su.between in
    let above = between_rises (suc v) (suc v) su.less_one st.less_one (omega arith) su.between st.between in
    let same : st.less_one ≡ su.less_one = omega arith in
    st.is ∙ (ap (λ (s : ℕ). pos (suc s)) same ∙ sym su.is)

pub the_entry : (v : ℕ) (t : ℤ) → v ≤ 1023 → may_be_entry v t ≡ true → t ≡ pos (curve_entry v)
the_entry v t h e = only_entry v t (pos (curve_entry v)) e (entry_follows v h)

-- the entry at 1 or more, by the rule
between_entry : (v : ℕ) → suc v ≤ 1023 → Satisfied (suc v) (pos (curve_entry (suc v)))
unfolding may_be_entry
between_entry v h = satisfied (suc v) (pos (curve_entry (suc v))) (entry_follows (suc v) h)

entry_is : {v t : ℕ} (s : Satisfied v (pos t)) → t ≡ suc s.less_one
entry_is s = ap nat_abs s.is

zero_entry : curve_entry 0 ≡ 0
unfolding curve_entry entry_count may_be_entry first_passing
zero_entry = refl

-- no entry is below the one before it, nor below any before it
pub never_below_one_before : (v w : ℕ) → v ≤ w → w ≤ 1023 → curve_entry v ≤ curve_entry w
never_below_one_before zero w h most = omega (arith, zero_entry)
never_below_one_before (suc v) zero h most = absurd (omega arith)
never_below_one_before (suc v) (suc w) h most =
    let a = between_entry v (omega arith) in
    let b = between_entry w most in
    omega (arith, entry_is a, entry_is b, between_rises (suc v) (suc w) a.less_one b.less_one h a.between b.between)

-- none is below its v
pub never_below_its_number : (v : ℕ) → v ≤ 1023 → v ≤ curve_entry v
never_below_its_number zero h = omega arith
never_below_its_number (suc v) h =
    let a = between_entry v h in omega (arith, entry_is a, between_not_below (suc v) a.less_one h a.between)

-- and none is above 1,023
pub entry_at_most : (v : ℕ) → v ≤ 1023 → curve_entry v ≤ 1023
entry_at_most zero h = omega (arith, zero_entry)
entry_at_most (suc v) h =
    let a = between_entry v h in omega (arith, entry_is a, between_most (suc v) a.less_one h a.between)

-- ---- the table

curve_table_is : IsCurve curve_table
unfolding curve_table entry_count
curve_table_is = record {
  entries = table_entries;
  follows = λ v h. rw (get_d_tabulate 1024 (λ k. pos (curve_entry k)) v (pos 0) h) (entry_follows v (omega arith));
}

-- it is a table by the rule, and the only one
pub only_table : (table : List ℤ) → IsCurve table ↔ (table ≡ curve_table)
unfolding curve_table entry_count
only_table table = (
  λ c. is_tabulate 1024 _ table (pos 0) c.entries (λ v h. the_entry v _ (omega arith) (c.follows v h)),
  λ e. rw e curve_table_is,
)
