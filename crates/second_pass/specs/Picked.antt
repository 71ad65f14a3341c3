-- What the functions of the second pass leave, entry by entry. Definitions alone. Assumes nothing.
use Rattle.std.specs.Prelude.{cond, ◌&&◌, List, ℕ, ◌+◌, ◌/◌, ◌%◌, ltb, eqb, ℤ, pos, ◌-ℤ◌, ◌*ℤ◌, get_or}
use Rattle.std.specs.Int.Signed.{lt_z}
use Rattle.frame.specs.Sites.{frame}
use Rattle.frame.specs.declared.Shape.{Shape}
use Rattle.records.specs.Stages.{SecondReads}
use Rattle.sums.specs.Sums.{SumsRead}

-- "Take gH if FH is below both FV and FD, gV if FV is below both FH and FD, in all other cases gD.": x, y or z
unfoldable pub picked : {A : Type 0} → ℤ → ℤ → ℤ → A → A → A → A
picked FH FV FD x y z = cond (lt_z FH FV && lt_z FH FD) x (cond (lt_z FV FH && lt_z FV FD) y z)

-- for entry x of the half rows
unfoldable pub picked_entry : List ℤ → List ℤ → List ℤ → List ℤ → List ℤ → List ℤ → ℕ → ℤ
picked_entry rh rv rd fh fv fd x =
    picked (pos 2 *ℤ get_or fh x (pos 0)) (pos 2 *ℤ get_or fv x (pos 0)) (get_or fd x (pos 0)) (get_or rh x (pos 0)) (get_or rv x (pos 0)) (get_or rd x (pos 0))

-- the code of site k of a row, from the first pass's, which stand in the map from at on
unfoldable pub code_entry : List ℤ → List ℤ → List ℤ → ℕ → List ℕ → ℕ → ℕ
code_entry fh fv fd at map k =
    let first = get_or map (at + k) 0 in
    let second = picked {A = ℕ} (pos 2 *ℤ get_or fh (k + 4) (pos 0)) (pos 2 *ℤ get_or fv (k + 4) (pos 0)) (get_or fd (k + 4) (pos 0)) 4 5 6 in
    cond (ltb first 4) first second

-- column j of a row of the map: a code where j has the parity of the red and blue sites, else 0
unfoldable pub map_entry : ℕ → List ℕ → ℕ → ℕ
map_entry c codes j = cond (eqb (j % 2) c) (get_or codes (j / 2) 0) 0

-- r_H from r_D and r_V
unfoldable pub across_entry : List ℤ → List ℤ → ℕ → ℤ
across_entry rd rv x = pos 2 *ℤ get_or rd x (pos 0) -ℤ get_or rv x (pos 0)

-- the half rows of r_H, r_V and r_D, formed from the planes
pub record RowsFormed (shape : Shape) (i : ℕ) (diagonals verticals rh rv rd : List ℤ) : Type 0 where
  pub rows : (zs : List ℕ) → SecondReads (frame shape zs) i diagonals verticals → SumsRead (frame shape zs) i diagonals verticals rh rv rd
