-- A local row as its reflected columns are filled in, from the columns outwards. Assumes nothing.
use Rattle.std.specs.Prelude.{◌≡◌, refl, List, ℕ, ◌+◌, ◌-◌, ◌<◌, ◌≤◌, eqb, pos, length, get_or, set}
use Rattle.std.proofs.Common.{sym, ◌∙◌, ap, arith, length-set, get_or-set_same, get_or-set_other}
use Rattle.toolkit.specs.Tests.{by_test, eqb_eq, eqb_ne}
use Rattle.toolkit.specs.Writes.{Wrote}
use Rattle.frame.specs.Sites.{reflect}
use Rattle.positions.specs.Columns.{column_at}
use Rattle.positions.specs.ColumnLaws.{column_is, column_inside}

-- the entries lo to hi − 1 of the row at entry to hold their reflected columns, the rest of the array is as it was
pub record Reflected (w to lo hi : ℕ) (old new : List ℕ) : Type 0 where
  pub size : length new ≡ length old
  pub inside : (x : ℕ) → lo ≤ x → x < hi → get_or new (to + x) 0 ≡ get_or old (to + 8 + column_at w x) 0
  pub before : (k : ℕ) → k < to + lo → get_or new k 0 ≡ get_or old k 0
  pub after : (k : ℕ) → to + hi ≤ k → get_or new k 0 ≡ get_or old k 0

-- at first these are the columns themselves
pub reflected_none : {w to hi : ℕ} {old : List ℕ} → 2 ≤ w → hi ≡ w + 8 → Reflected w to 8 hi old old
reflected_none {w} {to} {hi} {old} h e = record {
  size = refl;
  inside = λ x a b. ap (λ (k : ℕ). get_or old k 0) (omega (arith, column_inside w x h a (omega arith)));
  before = λ k a. refl;
  after = λ k a. refl;
}

-- a column is read as it was
reflected_read : {w to lo hi : ℕ} {old new : List ℕ} (r x : ℕ) → Reflected w to lo hi old new → 2 ≤ w → lo ≤ 8 → w + 8 ≤ hi → r < w
    → r ≡ column_at w x → get_or new (to + 8 + r) 0 ≡ get_or old (to + 8 + column_at w x) 0
reflected_read {w} {to} {lo} {hi} {old} {new} r x s h a b l e =
    ap (λ (k : ℕ). get_or new k 0) {x = to + 8 + r} {y = to + (r + 8)} (omega arith)
    ∙ (s.inside (r + 8) (omega arith) (omega arith)
    ∙ ap (λ (k : ℕ). get_or old (to + 8 + k) 0) (column_inside w (r + 8) h (omega arith) (omega arith) ∙ (omega arith ∙ e)))

module _ (w to : ℕ) (old new : List ℕ) (lo hi i x v : ℕ) (s : Reflected w to lo hi old new) (room : i < length old) (place : i ≡ to + x)
    (same : v ≡ get_or old (to + 8 + column_at w x) 0) where
  stored : (k : ℕ) → (¬ (k ≡ x) → get_or new (to + k) 0 ≡ get_or old (to + 8 + column_at w k) 0)
      → get_or (set new i v) (to + k) 0 ≡ get_or old (to + 8 + column_at w k) 0
  stored k other = by_test (eqb k x) _
      (λ t.
      let q : k ≡ x = eqb_eq k x t in
      let e : to + k ≡ i = omega arith in
      rw e (get_or-set_same new i v 0 (omega (arith, s.size)) ∙ (same ∙ ap (λ (y : ℕ). get_or old (to + 8 + column_at w y) 0) (sym q))))
      (λ t. get_or-set_other new i (to + k) v 0 (λ e. eqb_ne {m = k} {n = x} t (omega arith)) ∙ other (eqb_ne t))

  -- one column more in front
  reflected_front : lo ≡ x + 1 → x < hi → Reflected w to x hi old (set new i v)
  reflected_front e h = record {
    size = length-set new i v ∙ s.size;
    inside = λ k a b. stored k (λ o. s.inside k (omega (arith, o)) b);
    before = λ k a. get_or-set_other new i k v 0 (λ y. omega arith) ∙ s.before k (omega arith);
    after = λ k a. get_or-set_other new i k v 0 (λ y. omega arith) ∙ s.after k a;
  }

  -- one column more at the end
  reflected_next : (l h : ℕ) → hi ≡ x → lo ≤ x → l ≡ lo → h ≡ x + 1 → Reflected w to l h old (set new i v)
  reflected_next l h e o p q = record {
    size = length-set new i v ∙ s.size;
    inside = λ k a b. stored k (λ o. s.inside k (omega arith) (omega (arith, o)));
    before = λ k a. get_or-set_other new i k v 0 (λ y. omega arith) ∙ s.before k (omega arith);
    after = λ k a. get_or-set_other new i k v 0 (λ y. omega arith) ∙ s.after k (omega arith);
  }

-- one column more on each side: k columns west of the first and k columns east of the last
pub reflected_turn : (w to k west east : ℕ) {old new : List ℕ} → 2 ≤ w → 1 ≤ k → k ≤ 8 → to + w + 16 ≤ length old
    → Reflected w to (9 - k) (w + 7 + k) old new → (west ≡ reflect w (pos k)) × (west < w) → (east ≡ reflect w (pos (w - 1 + k))) × (east < w)
    → Reflected w to (9 - (k + 1)) (w + 7 + (k + 1)) old (set (set new (to + 8 - k) (get_or new (to + 8 + west) 0)) (to + w + 7 + k)
    (get_or (set new (to + 8 - k) (get_or new (to + 8 + west) 0)) (to + 8 + east) 0))
reflected_turn w to k west east {old} {new} h a b room s p q =
    reflected_next w to old _ (8 - k) (w + 7 + k) (to + w + 7 + k) (w + 7 + k) _ front (omega arith) (omega arith)
    (reflected_read east (w + 7 + k) front h (omega arith) (omega arith) q.1 (q.0 ∙ column_is w (w + 7 + k) (w - 1 + k) h (omega arith)))
    (9 - (k + 1)) (w + 7 + (k + 1)) refl (omega arith) (omega arith) (omega arith)
  where
    front : Reflected w to (8 - k) (w + 7 + k) old (set new (to + 8 - k) (get_or new (to + 8 + west) 0))
    front = reflected_front w to old new (9 - k) (w + 7 + k) (to + 8 - k) (8 - k) _ s (omega arith) (omega arith)
        (reflected_read west (8 - k) s h (omega arith) (omega arith) p.1 (p.0 ∙ column_is w (8 - k) k h (omega arith)))
        (omega arith) (omega arith)

pub reflected_all : {w to lo hi : ℕ} {old new : List ℕ} → Reflected w to lo hi old new → lo ≡ 0 → hi ≡ w + 16
    → Wrote 0 to (w + 16) (λ (x : ℕ). get_or old (to + 8 + column_at w x) 0) old new
reflected_all s a b = record {
  size = s.size;
  inside = λ k h. s.inside k (omega arith) (omega arith);
  before = λ k h. s.before k (omega arith);
  after = λ k h. s.after k (omega arith);
}
