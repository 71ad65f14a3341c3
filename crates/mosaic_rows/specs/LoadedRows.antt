-- Rows of the mosaic in a local array of 24 rows of 4,112 entries, between their reflected columns. Definitions alone. Assumes nothing.
use Rattle.std.specs.Prelude.{◌≡◌, List, [], ◌∷◌, ℕ, ◌+◌, ◌*◌, ◌<◌, ◌≤◌, get_or}
use Rattle.std.proofs.Math.IntN.{sub_ℕ}
use Rattle.toolkit.specs.Writes.{Wrote}
use Rattle.frame.specs.Sites.{Frame, sample, reflect}
use Rattle.positions.specs.Columns.{column_at}
use Rattle.positions.specs.Rings.{place_in_ring, Round}

-- row i is stored from entry to on, the rest is as it was
abbrev pub RowStored : Frame → ℕ → ℕ → List ℕ → List ℕ → Type 0
RowStored f i to old new = Wrote 0 to (f.width + 16) (λ (x : ℕ). sample f i (column_at f.width x)) old new

-- row i stands from entry at on: column x − 8 at entry at + x
pub record Loaded (f : Frame) (i at : ℕ) (rows : List ℕ) : Type 0 where
  pub entry : (x : ℕ) → x < f.width + 16 → get_or rows (at + x) 0 ≡ sample f i (column_at f.width x)

-- row x − 4 + p, reflected
abbrev pub near_row : ℕ → ℕ → ℕ → ℕ
near_row H x p = reflect H (sub_ℕ (x + p) 4)

-- the places of the rows x − 4 to x + 2, reflected, follow from base
pub record NearRows (H x base : ℕ) : Type 0 where
  pub each : (p : ℕ) → p < 7 → Round base (near_row H x p) (near_row H x p)

-- where they stand
unfoldable pub near_entry : ℕ → ℕ → ℕ → ℕ
near_entry H x p = place_in_ring (near_row H x p) * 4112

abbrev pub near_entries : ℕ → ℕ → List ℕ
near_entries H x =
    near_entry H x 0 ∷ near_entry H x 1 ∷ near_entry H x 2 ∷ near_entry H x 3 ∷ near_entry H x 4 ∷ near_entry H x 5 ∷ near_entry H x 6 ∷ []

-- the rows x − 4 to x + 2, reflected, stand in rows from the entries of at on
pub record Seven (f : Frame) (x : ℕ) (at rows : List ℕ) : Type 0 where
  pub inside : (p : ℕ) → p < 7 → get_or at p 0 + 4112 ≤ 98688
  pub place : (p : ℕ) → p < 7 → Loaded f (near_row f.height x p) (get_or at p 0) rows
