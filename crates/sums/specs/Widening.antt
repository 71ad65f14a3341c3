-- One step of the three sums, as the code makes it, and all steps. Assumes nothing.
use Rattle.std.specs.Prelude.{◌≡◌, refl, List, ℕ, zero, suc, ◌+◌, ◌*◌, ◌-◌, ◌≤◌, ℤ, pos}
use Rattle.std.proofs.Common.{sym, ◌∙◌, ap, subst, arith}
use Rattle.std.proofs.Math.IntN.{sub_ℕ}
use Rattle.toolkit.specs.Entries.{Entries, entries_as}
use Rattle.frame.specs.Sites.{Frame, frame, reflect}
use Rattle.frame.specs.declared.Shape.{Shape}
use Rattle.method.specs.Gradients.{exchanged}
use Rattle.method.specs.Green.{horizontal, vertical, diagonal, column_sum}
use Rattle.positions.specs.HalfRowLaws.{chroma_count_is}
use Rattle.positions.specs.HalfRows.{chroma_start, half_count, chroma_count}
use Rattle.records.specs.Quantities.{trials}
use Rattle.sums.specs.Sums.{entries_of, with_columns, with_rows, with_both, around_entry, Sums, SumsRead, Widens}
use Rattle.sums.specs.Steps.{middle, sum_none, columns_next, rows_next}

-- what the code leaves of the three half rows of sums in step t
pub record Stepped (t up down count : ℕ) (diagonals verticals rh rv rd fh fv fd new_fh new_fv new_fd : List ℤ) : Type 0 where
  pub across : Entries (pos 0) 2064 4 (count + 4) (with_columns rh t (entries_of fh)) new_fh
  pub down_columns : Entries (pos 0) 2064 4 (count + 4) (with_rows rv verticals up down (entries_of fv)) new_fv
  pub both : Entries (pos 0) 2064 4 (count + 4) (with_both rd t diagonals up down (entries_of fd)) new_fd

-- the distances down the column, added to sums that have those along the row
pub both_added : {hi : ℕ} (row : List ℤ) (t : ℕ) (plane : List ℤ) (up down : ℕ) (old : ℕ → ℤ) {sums new : List ℤ}
    → Entries (pos 0) 2064 4 hi (with_columns row t old) sums → Entries (pos 0) 2064 4 hi (with_rows row plane up down (entries_of sums)) new
    → Entries (pos 0) 2064 4 hi (with_both row t plane up down old) new
unfolding with_rows
both_added row t plane up down old c r = entries_as r (omega arith) (omega arith) (λ x l h. rw (c.at x l h) refl)

none_beside : (n : ℕ) → n ≡ n + 0
none_beside n = omega arith

module _ (f : Frame) (i n count up down above below : ℕ) (diagonals verticals rh rv rd fh fv fd new_fh new_fv new_fd : List ℤ)
    (few : suc n ≤ 4) (same : count ≡ chroma_count f i) (ea : above ≡ reflect f.height (sub_ℕ i (2 * suc n)))
    (eb : below ≡ reflect f.height (pos (i + 2 * suc n))) (eu : up ≡ above * f.width) (ed : down ≡ below * f.width)
    (read : SumsRead f i diagonals verticals rh rv rd)
    (new : Stepped (suc n) up down count diagonals verticals rh rv rd fh fv fd new_fh new_fv new_fd) where
  step_next : Sums f n i fh fv fd → Sums f (suc n) i new_fh new_fv new_fd
  step_next old = let p = read.planes in record {
    across = entries_as new.across (omega arith) (omega arith) (λ x a b.
        columns_next f p.taken i p.inside (trials f horizontal) n few x a (omega arith) rh (entries_of fh) _ _ 0 read.across_row
        (old.across.at x a (omega arith)) (none_beside _) (none_beside _));
    down = entries_as new.down_columns (omega arith) (omega arith) (λ x a b.
        rows_next f p.taken i p.inside (trials f vertical) n few x a (omega arith) rv verticals (entries_of fv) up down above below _ _ 0
        read.down_row p.verticals_held ea eb eu ed (old.down.at x a (omega arith)) (none_beside _) (none_beside _));
    both = entries_as new.both (omega arith) (omega arith) (λ x a b.
        rows_next f p.taken i p.inside (trials f diagonal) n few x a (omega arith) rd diagonals (with_columns rd (suc n) (entries_of fd))
        up down above below _ _ (column_sum (suc n) (around_entry f (trials f diagonal) i x)) (middle (chroma_count f i) read.both_row)
        p.diagonals_held ea eb eu ed
        (columns_next f p.taken i p.inside (trials f diagonal) n few x a (omega arith) rd (entries_of fd) _ _
        (column_sum n (exchanged (around_entry f (trials f diagonal) i x))) read.both_row (old.both.at x a (omega arith)) refl refl)
        (omega arith) (omega arith));
  }

module _ (shape : Shape) (i count : ℕ) (e : count ≡ half_count shape.width (chroma_start shape.phase i)) where
  pub count_is : (zs : List ℕ) → count ≡ chroma_count (frame shape zs) i
  count_is zs = e ∙ chroma_count_is (frame shape zs) i (chroma_start shape.phase i) refl

  pub widens : (t up down above below : ℕ) (diagonals verticals rh rv rd fh fv fd new_fh new_fv new_fd : List ℤ) → 1 ≤ t → t ≤ 4
      → above ≡ reflect shape.height (sub_ℕ i (2 * t)) → below ≡ reflect shape.height (pos (i + 2 * t)) → up ≡ above * shape.width
      → down ≡ below * shape.width
      → Stepped t up down count diagonals verticals rh rv rd fh fv fd new_fh new_fv new_fd
      → Widens shape i (t - 1) t diagonals verticals rh rv rd fh fv fd new_fh new_fv new_fd
  widens zero up down above below diagonals verticals rh rv rd fh fv fd new_fh new_fv new_fd one few ea eb eu ed new = absurd (omega arith)
  widens (suc n) up down above below diagonals verticals rh rv rd fh fv fd new_fh new_fv new_fd one few ea eb eu ed new = record {
    step = λ zs read old.
        let m : suc n - 1 ≡ n = omega arith in
        step_next (frame shape zs) i n count up down above below diagonals verticals rh rv rd fh fv fd new_fh new_fv new_fd few
        (count_is zs) ea eb eu ed read new (subst (λ (k : ℕ). Sums (frame shape zs) k i fh fv fd) m old);
  }

  -- nothing is added up before the first step
  pub sums_none : (fh fv fd : List ℤ) → Entries (pos 0) 2064 4 (count + 4) (λ (x : ℕ). pos 0) fh
      → Entries (pos 0) 2064 4 (count + 4) (λ (x : ℕ). pos 0) fv
      → Entries (pos 0) 2064 4 (count + 4) (λ (x : ℕ). pos 0) fd → (zs : List ℕ) → Sums (frame shape zs) 0 i fh fv fd
  sums_none fh fv fd a b c zs =
      let same = count_is zs in
      record {
        across = entries_as a (omega arith) (omega arith) (λ x l h. ap pos (sym (sum_none _)));
        down = entries_as b (omega arith) (omega arith) (λ x l h. ap pos (sym (sum_none _)));
        both = entries_as c (omega arith) (omega arith) (λ x l h.
            let r = around_entry (frame shape zs) (trials (frame shape zs) diagonal) i x in
            ap pos (omega (arith, sum_none r, sum_none (exchanged r))));
      }

module _ {shape : Shape} {i : ℕ} {diagonals verticals rh rv rd : List ℤ} where
  pub widens_none : {s : ℕ} {fh fv fd : List ℤ} → Widens shape i s s diagonals verticals rh rv rd fh fv fd fh fv fd
  widens_none = record { step = λ zs r s. s }

  pub widens_then : {s t r : ℕ} {fh fv fd gh gv gd kh kv kd : List ℤ} → Widens shape i s t diagonals verticals rh rv rd fh fv fd gh gv gd
      → Widens shape i t r diagonals verticals rh rv rd gh gv gd kh kv kd → Widens shape i s r diagonals verticals rh rv rd fh fv fd kh kv kd
  widens_then x y = record { step = λ zs r s. y.step zs r (x.step zs r s) }

  pub widens_to : {s t r : ℕ} {fh fv fd gh gv gd : List ℤ} → Widens shape i s t diagonals verticals rh rv rd fh fv fd gh gv gd → t ≡ r
      → Widens shape i s r diagonals verticals rh rv rd fh fv fd gh gv gd
  widens_to {s} {t} {r} {fh} {fv} {fd} {gh} {gv} {gd} x e =
      subst (λ (m : ℕ). Widens shape i s m diagonals verticals rh rv rd fh fv fd gh gv gd) e x
