-- What a turn makes of the rows that a buffer holds. Assumes nothing.
use Rattle.std.specs.Prelude.{◌≡◌, refl, List, ◌⊎◌, ℕ, ◌+◌, ◌*◌, ◌-◌, ◌<◌, ◌≤◌, min, ltb, eqb, length, get_or}
use Rattle.std.proofs.Common.{sym, ◌∙◌, subst, inl, inr, arith}
use Rattle.toolkit.specs.Tests.{by_test, ltb_lt, ltb_ge, eqb_eq, eqb_ne}
use Rattle.toolkit.specs.Writes.{Wrote}
use Rattle.positions.specs.Places.{row_end}
use Rattle.positions.specs.Rings.{place_in_ring}
use Rattle.positions.specs.RingLaws.{ring_apart}
use Rattle.records.specs.Held.{Stands}
use Rattle.records.specs.Turns.{Turned}

pub held_none : {A : Type 0} {d : A} {place : ℕ → ℕ} {s o lo hi : ℕ} {n : ℕ → ℕ} {q : ℕ → ℕ → A} {buffer : List A} → hi ≤ lo
    → Stands d place s o n lo hi q buffer
held_none h = record { row = λ r a b k l. absurd (omega arith) }

pub held_part : {A : Type 0} {d : A} {place : ℕ → ℕ} {s o lo hi lo' hi' : ℕ} {n : ℕ → ℕ} {q : ℕ → ℕ → A} {buffer : List A}
    → Stands d place s o n lo hi q buffer → lo ≤ lo' → hi' ≤ hi → Stands d place s o n lo' hi' q buffer
held_part h a b = record { row = λ r x y. h.row r (omega arith) (omega arith) }

pub turn_made : {A : Type 0} {d : A} {place : ℕ → ℕ} {H L t s o : ℕ} {n : ℕ → ℕ} {q : ℕ → ℕ → A} {old new : List A} → L ≤ t → t < H + L
    → Wrote d (place (t - L) * s + o) (n (t - L)) (q (t - L)) old new → Turned d place H L t s o n q old new
turn_made a b w = record { here = λ x y. w; early = λ x. absurd (omega arith); late = λ x. absurd (omega arith) }

-- rows that start where their place does
pub turn_front : {A : Type 0} {d : A} {place : ℕ → ℕ} {H L t s : ℕ} {n : ℕ → ℕ} {q : ℕ → ℕ → A} {old new : List A} → L ≤ t → t < H + L
    → Wrote d (place (t - L) * s) (n (t - L)) (q (t - L)) old new → Turned d place H L t s 0 n q old new
turn_front {A} {d} {place} {H} {L} {t} {s} {n} {q} {old} {new} a b w =
    turn_made a b (subst (λ (x : ℕ). Wrote d x (n (t - L)) (q (t - L)) old new) {x = place (t - L) * s} (omega arith) w)

pub turn_early : {A : Type 0} {d : A} {place : ℕ → ℕ} {H L t s o : ℕ} {n : ℕ → ℕ} {q : ℕ → ℕ → A} {old : List A} → t < L
    → Turned d place H L t s o n q old old
turn_early a = record { here = λ x y. absurd (omega arith); early = λ x. refl; late = λ x. refl }

pub turn_late : {A : Type 0} {d : A} {place : ℕ → ℕ} {H L t s o : ℕ} {n : ℕ → ℕ} {q : ℕ → ℕ → A} {old : List A} → H + L ≤ t
    → Turned d place H L t s o n q old old
turn_late a = record { here = λ x y. absurd (omega arith); early = λ x. refl; late = λ x. refl }

-- a store within place a leaves what stands at place b
pub stored_elsewhere : {A : Type 0} {d : A} (s a b : ℕ) {at m : ℕ} {q : ℕ → A} {old new : List A} → Wrote d at m q old new → a * s ≤ at
    → at + m ≤ a * s + s → ¬ (b ≡ a) → (k : ℕ) → b * s ≤ k → k < b * s + s → get_or new k d ≡ get_or old k d
stored_elsewhere s a b w start end other k low high = by_test (ltb b a) _
    (λ u. let c : b < a = ltb_lt _ _ u in w.before k (omega (arith, row_end a s b c)))
    (λ u.
    let c : a ≤ b = ltb_ge _ _ u in
    let d : a < b = omega (arith, other) in
    w.after k (omega (arith, row_end b s a d)))

-- each row has a place of its own
abbrev own : ℕ → ℕ
own r = r

-- the rows from lo to m − 1 have other places than row m
abbrev Clear : (ℕ → ℕ) → ℕ → ℕ → Type 0
Clear place lo m = (r : ℕ) → lo ≤ r → r < m → ¬ (place r ≡ place m)

own_clear : (lo m : ℕ) → Clear own lo m
own_clear lo m r a b e = omega arith

ring_clear : (lo m : ℕ) → m < lo + 24 → Clear place_in_ring lo m
ring_clear lo m h r a b = ring_apart r m b (omega arith)

module _ {A : Type 0} {d : A} {place : ℕ → ℕ} {H L t s o : ℕ} {n : ℕ → ℕ} {q : ℕ → ℕ → A} {old new : List A}
    (turn : Turned d place H L t s o n q old new) where
  -- either the row is stored, or nothing is changed and no row is due
  turned : (P : List A → Type 0) → (min (t + 1 - L) H ≡ min (t - L) H → P old)
      → (L ≤ t → t < H + L → Wrote d (place (t - L) * s + o) (n (t - L)) (q (t - L)) old new → P new) → P new
  turned P idle made = by_test (ltb t L) _
      (λ a. let l : t < L = ltb_lt _ _ a in subst P (sym (turn.early l)) (idle (omega arith)))
      (λ a.
      let l : L ≤ t = ltb_ge _ _ a in
      by_test (ltb t (H + L)) _ (λ b. let g : t < H + L = ltb_lt _ _ b in made l g (turn.here l g))
      (λ b. let g : H + L ≤ t = ltb_ge _ _ b in subst P (sym (turn.late g)) (idle (omega arith))))

  pub turn_size : length new ≡ length old
  turn_size = turned (λ (x : List A). length x ≡ length old) (λ e. refl) (λ a b w. w.size)

  module _ (fit : (r : ℕ) → o + n r ≤ s) where
    -- what stands at another place is as it was
    other_place : (o' : ℕ) (n' : ℕ → ℕ) → ((r : ℕ) → o' + n' r ≤ s)
        → Wrote d (place (t - L) * s + o) (n (t - L)) (q (t - L)) old new → (r k : ℕ) → k < n' r → ¬ (place r ≡ place (t - L))
        → get_or new (place r * s + o' + k) d ≡ get_or old (place r * s + o' + k) d
    other_place o' n' fit' w r k l h =
        stored_elsewhere s (place (t - L)) (place r) w (omega arith) (omega (arith, fit (t - L))) h _ (omega arith) (omega (arith, fit' r))

    -- the stage's own rows: one more
    one_more : {lo : ℕ} → (L ≤ t → t < H + L → Clear place lo (t - L)) → Stands d place s o n lo (min (t - L) H) q old
        → Stands d place s o n lo (min (t + 1 - L) H) q new
    one_more {lo} clear h =
        turned (Stands d place s o n lo (min (t + 1 - L) H) q) (λ e. held_part h (omega arith) (omega arith))
        (λ a b w. record {
          row = λ r x y k l. by_test (ltb r (t - L)) _
              (λ u.
              let c : r < t - L = ltb_lt _ _ u in
              other_place o n fit w r k l (clear a b r x c) ∙ h.row r x (omega arith) k l)
              (λ u.
              let c : t - L ≤ r = ltb_ge _ _ u in
              let e : t - L ≡ r = omega arith in
              let m : k < n (t - L) = rw e l in
              subst (λ (i : ℕ). get_or new (place i * s + o + k) d ≡ q i k) e (w.inside k m));
        })

    module _ {o' lo hi : ℕ} {n' : ℕ → ℕ} {p : ℕ → ℕ → A} (fit' : (r : ℕ) → o' + n' r ≤ s) where
      -- rows at other places, or in another part of the records: as they were
      turn_apart : ((r : ℕ) → lo ≤ r → r < hi → L ≤ t → t < H + L
          → (¬ (place r ≡ place (t - L))) ⊎ ((o' + n' r ≤ o) ⊎ (o + n (t - L) ≤ o'))) → Stands d place s o' n' lo hi p old
          → Stands d place s o' n' lo hi p new
      turn_apart apart h = turned (Stands d place s o' n' lo hi p) (λ e. h)
          (λ a b w. record { row = λ r x y k l. go w r k l (apart r x y a b) ∙ h.row r x y k l })
        where
          go : (w : Wrote d (place (t - L) * s + o) (n (t - L)) (q (t - L)) old new) (r k : ℕ) → k < n' r
              → ((¬ (place r ≡ place (t - L))) ⊎ ((o' + n' r ≤ o) ⊎ (o + n (t - L) ≤ o')))
              → get_or new (place r * s + o' + k) d ≡ get_or old (place r * s + o' + k) d
          go w r k l (inl c) = other_place o' n' fit' w r k l c
          go w r k l (inr (inl c)) = by_test (eqb (place r) (place (t - L))) _
              (λ u. let e : place r ≡ place (t - L) = eqb_eq _ _ u in w.before (place r * s + o' + k) (rw e (omega arith)))
              (λ u. other_place o' n' fit' w r k l (eqb_ne u))
          go w r k l (inr (inr c)) = by_test (eqb (place r) (place (t - L))) _
              (λ u. let e : place r ≡ place (t - L) = eqb_eq _ _ u in w.after (place r * s + o' + k) (rw e (omega arith)))
              (λ u. other_place o' n' fit' w r k l (eqb_ne u))

      -- a part of the records in front of the stored one
      pub turn_beside : ((r : ℕ) → o' + n' r ≤ o) → Stands d place s o' n' lo hi p old → Stands d place s o' n' lo hi p new
      turn_beside side = turn_apart (λ r x y a b. inr (inl (side r)))

      -- a part behind it
      pub turn_behind : ((r : ℕ) → o + n r ≤ o') → Stands d place s o' n' lo hi p old → Stands d place s o' n' lo hi p new
      turn_behind side = turn_apart (λ r x y a b. inr (inr (side (t - L))))

-- ---- in a ring: the stage's own rows, the last 24 of them

pub ring_next : {A : Type 0} {d : A} {H L t s o : ℕ} {n : ℕ → ℕ} {q : ℕ → ℕ → A} {old new : List A}
    → Turned d place_in_ring H L t s o n q old new → ((r : ℕ) → o + n r ≤ s)
    → Stands d place_in_ring s o n (min (t - L) H - 24) (min (t - L) H) q old
    → Stands d place_in_ring s o n (min (t + 1 - L) H - 24) (min (t + 1 - L) H) q new
ring_next turn fit h = one_more turn fit (λ a b. ring_clear _ _ (omega arith)) (held_part h (omega arith) (omega arith))

-- ---- where each row has a place of its own

-- the stage's own rows
pub turn_next : {A : Type 0} {d : A} {H L t s o lo : ℕ} {n : ℕ → ℕ} {q : ℕ → ℕ → A} {old new : List A}
    → Turned d own H L t s o n q old new → ((r : ℕ) → o + n r ≤ s)
    → Stands d own s o n lo (min (t - L) H) q old → Stands d own s o n lo (min (t + 1 - L) H) q new
turn_next turn fit = one_more turn fit (λ a b. own_clear _ _)

module _ {A : Type 0} {d : A} {H L t s o : ℕ} {n : ℕ → ℕ} {q : ℕ → ℕ → A} {old new : List A}
    (turn : Turned d own H L t s o n q old new) (fit : (r : ℕ) → o + n r ≤ s) {o' hi : ℕ} {n' : ℕ → ℕ} {p : ℕ → ℕ → A} (fit' : (r : ℕ) → o' + n' r ≤ s) where
  -- rows that the stage has left behind
  pub turn_past : {lo : ℕ} → hi ≤ t - L → Stands d own s o' n' lo hi p old → Stands d own s o' n' lo hi p new
  turn_past past = turn_apart turn fit fit' (λ r x y a b. inl (λ e. omega arith))

  -- rows that it overwrites from below: one less
  pub turn_over : Stands d own s o' n' (min (t - L) H) hi p old → Stands d own s o' n' (min (t + 1 - L) H) hi p new
  turn_over h = by_test (ltb t L) _
      (λ a. let l : t < L = ltb_lt _ _ a in turn_apart turn fit fit' (λ r x y c d. inl (λ e. omega arith)) (held_part h (omega arith) (omega arith)))
      (λ a. let l : L ≤ t = ltb_ge _ _ a in turn_apart turn fit fit' (λ r x y c d. inl (λ e. omega arith)) (held_part h (omega arith) (omega arith)))
