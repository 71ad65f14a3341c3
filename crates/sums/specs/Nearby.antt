-- The rows 2t off row i, t to 4, lie among those that the planes hold. Assumes nothing.
use Rattle.std.specs.Prelude.{◌≡◌, ℕ, ◌+◌, ◌*◌, ◌%◌, ◌<◌, ◌≤◌, pos}
use Rattle.std.proofs.Common.{◌∙◌, ap, arith}
use Rattle.std.proofs.Math.IntN.{sub_ℕ}
use Rattle.frame.specs.Sites.{Frame, reflect}
use Rattle.positions.specs.HalfRows.{half_count, chroma_count}
use Rattle.positions.specs.HalfRowLaws.{chroma_even}
use Rattle.positions.specs.Near.{near_north, near_south, north_even, south_even}
use Rattle.sums.specs.Sums.{RowNear}

pub near_above : (H i t r : ℕ) → 2 ≤ H → i < H → t ≤ 4 → r ≡ reflect H (sub_ℕ i (2 * t)) → RowNear H i r
near_above H i t r h l s e =
    let n = near_north H i (2 * t) h l in
    record { low = omega arith; high = omega arith; even = ap (λ (x : ℕ). x % 2) e ∙ north_even H i t h }

pub near_below : (H i t r : ℕ) → 2 ≤ H → i < H → t ≤ 4 → r ≡ reflect H (pos (i + 2 * t)) → RowNear H i r
near_below H i t r h l s e =
    let n = near_south H i (2 * t) h l in
    record { low = omega arith; high = omega arith; even = ap (λ (x : ℕ). x % 2) e ∙ south_even H i t h }

-- rows an even number apart have as many red and blue sites
pub counts_alike : (f : Frame) (i r : ℕ) → r % 2 ≡ i % 2 → chroma_count f r ≡ chroma_count f i
unfolding chroma_count
counts_alike f i r e = ap (half_count f.width) (chroma_even f.phase i r e)
