-- What the loading of a row leaves, and of seven rows. Assumes nothing.
use Rattle.std.specs.Prelude.{◌≡◌, refl, List, [], ◌∷◌, ℕ, zero, suc, ◌+◌, ◌*◌, ◌<◌, ◌≤◌, length, get_or}
use Rattle.std.proofs.Common.{◌∙◌, arith}
use Rattle.toolkit.specs.Writes.{Wrote}
use Rattle.frame.specs.Sites.{Frame, highest_sample, sample}
use Rattle.positions.specs.Columns.{column_at}
use Rattle.positions.specs.ColumnLaws.{column_lt}
use Rattle.positions.specs.Places.{plane_row}
use Rattle.positions.specs.Taken.{Taken}
use Rattle.positions.specs.Rings.{place_in_ring}
use Rattle.positions.specs.RingLaws.{ring_small}
use Rattle.mosaic_rows.specs.LoadedRows.{RowStored, Loaded, near_row, near_entry, near_entries, Seven}

-- row i lies inside the mosaic
pub row_inside : (f : Frame) (i : ℕ) → Taken f → i < f.height → (i * f.width + f.width ≤ length f.samples) × (i * f.width ≤ 16777216)
row_inside f i t h =
    let row = plane_row f i f.width t h (omega arith) in
    (omega (arith, t.full), omega arith)

-- the columns, then the reflected ones
pub row_stored : (f : Frame) (i to : ℕ) {old mid new : List ℕ} → 2 ≤ f.width
    → Wrote 0 (to + 8) f.width (λ (j : ℕ). get_or f.samples (i * f.width + j) 0) old mid
    → Wrote 0 to (f.width + 16) (λ (x : ℕ). get_or mid (to + 8 + column_at f.width x) 0) mid new → RowStored f i to old new
unfolding sample
row_stored f i to h m e = record {
  size = e.size ∙ m.size;
  inside = λ x l. e.inside x l ∙ m.inside (column_at f.width x) (column_lt f.width x h);
  before = λ k l. e.before k l ∙ m.before k (omega arith);
  after = λ k l. e.after k l ∙ m.after k (omega arith);
}

pub loaded : {f : Frame} {i to : ℕ} {old new : List ℕ} → RowStored f i to old new → Loaded f i to new
loaded w = record { entry = w.inside }

-- its entries are samples
pub loaded_ranged : (f : Frame) (i at x : ℕ) (rows : List ℕ) → Taken f → Loaded f i at rows → x < f.width + 16
    → get_or rows (at + x) 0 ≤ highest_sample
unfolding sample
loaded_ranged f i at x rows t l h = omega (arith, l.entry x h, t.ranged (i * f.width + column_at f.width x))

-- seven entries that are the same one by one
pub same_seven : {a b c d e f g a' b' c' d' e' f' g' : ℕ} → a ≡ a' → b ≡ b' → c ≡ c' → d ≡ d' → e ≡ e' → f ≡ f' → g ≡ g'
    → ◌≡◌ {A = List ℕ} (a ∷ b ∷ c ∷ d ∷ e ∷ f ∷ g ∷ []) (a' ∷ b' ∷ c' ∷ d' ∷ e' ∷ f' ∷ g' ∷ [])
same_seven p q r s t u v = cc

-- the entries, one by one
pub near_at : (H x p : ℕ) → p < 7 → get_or (near_entries H x) p 0 ≡ near_entry H x p
near_at H x zero h = refl
near_at H x (suc zero) h = refl
near_at H x (suc (suc zero)) h = refl
near_at H x (suc (suc (suc zero))) h = refl
near_at H x (suc (suc (suc (suc zero)))) h = refl
near_at H x (suc (suc (suc (suc (suc zero))))) h = refl
near_at H x (suc (suc (suc (suc (suc (suc zero)))))) h = refl
near_at H x (suc (suc (suc (suc (suc (suc (suc p))))))) h = absurd (omega arith)

-- rows of the ring are seven rows, where they are loaded
pub seven_loaded : {f : Frame} {x : ℕ} {rows : List ℕ}
    → ((p : ℕ) → p < 7 → Loaded f (near_row f.height x p) (place_in_ring (near_row f.height x p) * 4112) rows)
    → Seven f x (near_entries f.height x) rows
unfolding near_entry
seven_loaded {f} {x} {rows} row = record {
  inside = λ p h. rw (near_at f.height x p h) (omega (arith, ring_small (near_row f.height x p)));
  place = λ p h. rw (near_at f.height x p h) (row p h);
}
