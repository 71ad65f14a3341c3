-- `out_rows::measured` meets its contract. Assumes nothing.
use mathlib.Core.List.{List}
use mathlib.Core.Path.{◌≡◌, refl, ◌∙◌, ap}
use Prim.Native.Nat.{ℕ, ◌+◌, ◌-◌, ◌<◌, ◌≤◌}
use lib.ListN.{length, get_or}
use native.Mathlib.Omega.{arith}
use borrow.Rule.Slice.PartMut.{put_mid}
use Rattle.std.proofs.Common.{rules}
use Rattle.std.proofs.lemmas.List.{places}
use Rattle.toolkit.specs.Bounds.{val}
use Rattle.toolkit.specs.BoundRules.{vals}
use Rattle.toolkit.specs.Entries.{Entries, entries_next, entries_past, entries_as}
use Rattle.half_rows.specs.Reading.{size_read}
use Rattle.out_rows.proofs.measured.Goals as goal

pub loop-x-preserved : goal.loop-x-preserved
loop-x-preserved c =
    let inv = c.loop-x.invariant in
    let i = c.loop-x.x-index in
    let inside : i < c.args.count = omega (arith, inv.0.size, c.loop-x.auto.x-items) in
    let same = inv.1.at i (omega arith) inside in
    let hz = size_read _ same (c.requires.1.each (4 + i) (omega arith) (omega arith)) in
    let hb = c.args.black.tested in (
      entries_next inv.0 inside (omega arith) (val (search vals depth 30) tt ∙ rw (same)),
      entries_past _ inv.1 (omega arith) (omega arith),
    )

-- a part of c entries, put back at a
entries_put : {A : Type 0} {d : A} {n c : ℕ} {g : ℕ → A} (a k : ℕ) (f : ℕ → A) (old : List A) {part : List A} → length old ≡ n → a + c ≤ n → k ≡ c
    → Entries d c 0 c g part → ((j : ℕ) → j < c → g j ≡ f (a + j)) → Entries d n a (c + a) f (put_mid a k old part)
entries_put {d = d} {n = n} {c = c} {g = g} a k f old {part} s l e p same = record {
  size = let z = p.size in search (rules, places);
  at = λ j b h.
      let z = p.size in
      let low : j - a < c = omega arith in
      let back : a + (j - a) ≡ j = omega arith in
      let here : get_or (put_mid a k old part) j d ≡ get_or part (j - a) d = search (rules, places) in
      here ∙ (p.at (j - a) (omega arith) low ∙ (same (j - a) low ∙ ap f back));
}

pub returns : goal.returns
returns c =
    let inv = c.loop-x.invariant in
    entries_put 4 _ _ _ c.told-z (omega (arith, c.requires.0)) (omega arith)
    (entries_as inv.0 (omega arith) (omega (arith, inv.0.size, c.loop-x.auto.x-items)) (λ j b h. refl))
    (λ j h. refl)
