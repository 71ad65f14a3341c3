-- The table of the code is the curve: one test over all its entries, and a lemma for each entry. Assumes nothing.
use Rattle.std.specs.Prelude.{◌≡◌, refl, true, map, ℕ, suc, ◌<◌, ◌≤◌, ℤ, pos, nat_abs, length, get_or}
use Rattle.std.proofs.Common.{◌∙◌, ap, arith}
use Rattle.std.proofs.lemmas.List.{length-map, get_or-map}
use Rattle.toolkit.specs.Tables.{every_passes, passes_at}
use Rattle.tone_curve.specs.ToneCurve.{entry_count, satisfies, may_be_entry, curve_entry, curve_table}
use Rattle.tone_curve.proofs.OneCurve.{the_entry, only_entry, only_table, never_below_one_before, never_below_its_number}
use Rattle.curve.specs.declared.table.TheConstants.{CURVE}

-- the test, over all entries
pub every_entry_follows : every_passes (λ v t. may_be_entry v (pos t)) 0 CURVE ≡ true
unfolding every_passes may_be_entry satisfies
every_entry_follows = refl

entries : length CURVE ≡ 1024
entries = refl

-- each entry follows the rule
pub entry_follows : (v : ℕ) → v ≤ 1023 → may_be_entry v (pos (get_or CURVE v 0)) ≡ true
entry_follows v h = passes_at (λ v t. may_be_entry v (pos t)) CURVE 0 every_entry_follows v (omega (arith, entries))

-- and is entry v of the curve
pub entry_is : (v : ℕ) → v ≤ 1023 → get_or CURVE v 0 ≡ curve_entry v
entry_is v h = ap nat_abs (the_entry v (pos (get_or CURVE v 0)) h (entry_follows v h))

-- and no other whole number follows it
pub no_other : (v : ℕ) (t : ℤ) → v ≤ 1023 → may_be_entry v t ≡ true → t ≡ pos (get_or CURVE v 0)
no_other v t h e = only_entry v t (pos (get_or CURVE v 0)) e (entry_follows v h)

-- so the table is the only one by the rule
pub table_is : map pos CURVE ≡ curve_table
unfolding entry_count
table_is = (only_table (map pos CURVE)).0 (record {
  entries = length-map CURVE pos ∙ entries;
  follows = λ v h. let inside : v < length CURVE = omega (arith, entries) in rw (get_or-map pos CURVE v 0 (pos 0) inside) (entry_follows v (omega arith));
})

-- no entry is below the one before it
pub not_below_one_before : (v : ℕ) → suc v ≤ 1023 → get_or CURVE v 0 ≤ get_or CURVE (suc v) 0
not_below_one_before v h = rw (entry_is v (omega arith), entry_is (suc v) h) (never_below_one_before v (suc v) (omega arith) h)

-- none is below its v
pub not_below_its_number : (v : ℕ) → v ≤ 1023 → v ≤ get_or CURVE v 0
not_below_its_number v h = rw (entry_is v h) (never_below_its_number v h)
