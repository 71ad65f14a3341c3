-- The rule of the curve's entries is the test of tone_curve; the curve at a number from 0 to 1,023. Assumes nothing.
use Rattle.std.specs.Prelude.{◌≡◌, refl, ◌↔◌, true, ℕ, zero, suc, ◌*◌, ◌≤◌, ℤ, pos, negsuc, nat_abs, ◌+ℤ◌, ◌*ℤ◌, ◌≤ℤ◌}
use Rattle.std.proofs.Common.{ap, arith, leb→le}
use Rattle.std.specs.Int.Signed.{lt_z, lt_z_yes}
use Rattle.toolkit.specs.Tests.{is_true, holds, leb_yes, eqb_eq, and_true}
use Rattle.toolkit.specs.Differences.{as_difference}
use Rattle.toolkit.specs.Orders.{to_naturals}
use Rattle.frame.specs.Sites.{highest_sample}
use Rattle.answers.specs.Calls.{Clamped}
use Rattle.tone_curve.specs.ToneCurve.{satisfies, may_be_entry, curved_number}
use Rattle.tone_curve.proofs.OneCurve.{entry_follows, the_entry, never_below_one_before, never_below_its_number, entry_at_most}
use Rattle.demands.specs.ToneCurve.{square, FollowsRule}

-- ---- the rule

less_or_equal : {m n : ℕ} → m ≤ n → pos m ≤ℤ pos n
less_or_equal h = record { le = holds (leb_yes h) }

pos_suc : (v : ℕ) → ¬ (pos (suc v) ≡ pos 0)
pos_suc v e = absurd (omega (arith, ap nat_abs e))

is_zero : (t : ℤ) → nat_abs t ≡ 0 → t ≡ pos 0
is_zero t = rw (as_difference t) (simp to_naturals (omega arith))

-- the test of tone_curve says what the rule says
rule_in_figures : (v t : ℤ) → pos 0 ≤ℤ v → (may_be_entry (nat_abs v) t ≡ true) ↔ FollowsRule v t
unfolding may_be_entry satisfies
rule_in_figures (pos zero) t h = (
  λ e. record { zero_at_zero = λ z. is_zero t (eqb_eq _ _ e); low = λ l. absurd l.le; high = λ l. absurd l.le },
  λ r. rw (r.zero_at_zero refl),
)
rule_in_figures (pos (suc v)) t h = (
  λ e.
      let both = and_true (lt_z (square (pos 2 *ℤ t +ℤ negsuc 0)) (pos (4092 * suc v))) _ e in
      record { zero_at_zero = λ z. absurd (pos_suc v z); low = λ l. lt_z_yes (holds both.0); high = λ l. lt_z_yes (holds both.1) },
  λ r.
      let l : pos 1 ≤ℤ pos (suc v) = less_or_equal (omega arith) in
      rw (is_true _ (r.low l).lt, is_true _ (r.high l).lt),
)
rule_in_figures (negsuc v) t h = absurd h.le

-- ---- the curve at a number from 0 to 1,023

size_most : (v : ℤ) → Clamped v → nat_abs v ≤ 1023
unfolding highest_sample
size_most (pos n) c = leb→le n 1023 c.1.le
size_most (negsuc n) c = absurd c.0.le

pub curved_follows : (v : ℤ) → Clamped v → FollowsRule v (curved_number v)
unfolding curved_number
curved_follows v c = (rule_in_figures v _ c.0).0 (entry_follows (nat_abs v) (size_most v c))

pub curved_alone : (v t : ℤ) → Clamped v → FollowsRule v t → t ≡ curved_number v
unfolding curved_number
curved_alone v t c r = the_entry (nat_abs v) t (size_most v c) ((rule_in_figures v t c.0).1 r)

pub curved_not_below : (v : ℤ) → Clamped v → v ≤ℤ curved_number v
unfolding curved_number
curved_not_below (pos n) c = less_or_equal (never_below_its_number n (size_most (pos n) c))
curved_not_below (negsuc n) c = absurd c.0.le

pub curved_clamped : (v : ℤ) → Clamped v → Clamped (curved_number v)
unfolding curved_number highest_sample
curved_clamped v c = (less_or_equal (omega arith), less_or_equal (entry_at_most (nat_abs v) (size_most v c)))

pub curved_ordered : (v w : ℤ) → Clamped v → Clamped w → v ≤ℤ w → curved_number v ≤ℤ curved_number w
unfolding curved_number
curved_ordered (pos m) (pos n) c d h = less_or_equal (never_below_one_before m n (leb→le m n h.le) (size_most (pos n) d))
curved_ordered (pos m) (negsuc n) c d h = absurd d.0.le
curved_ordered (negsuc m) w c d h = absurd c.0.le
