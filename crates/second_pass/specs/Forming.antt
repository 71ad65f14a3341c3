-- The half rows of r_H, r_V and r_D, as the code forms them. Assumes nothing.
use Rattle.std.specs.Prelude.{◌≡◌, refl, List, ℕ, ◌+◌, ◌*◌, ◌-◌, ◌≤◌, min, ℤ, ◌-ℤ◌, ◌*ℤ◌, get_or}
use Rattle.std.proofs.Common.{◌∙◌, ap, arith}
use Rattle.std.proofs.Math.Path.{ap₂}
use Rattle.std.proofs.Math.IntN.{pos}
use Rattle.toolkit.specs.Entries.{Entries, entries_as}
use Rattle.frame.specs.Sites.{Frame}
use Rattle.method.specs.Green.{Direction, horizontal, vertical, diagonal}
use Rattle.positions.specs.Columns.{column_at}
use Rattle.positions.specs.HalfRows.{chroma_start, half_count, chroma_count, Half}
use Rattle.positions.specs.HalfRowLaws.{chroma_small, chroma_count_is}
use Rattle.records.specs.Quantities.{trials}
use Rattle.records.specs.Stages.{SecondReads}
use Rattle.half_rows.specs.Sources.{source_entry}
use Rattle.half_rows.specs.Mirror.{mirrored}
use Rattle.half_rows.specs.Beside.{half_of_row}
use Rattle.half_rows.specs.Sources.{Sized}
use Rattle.sums.specs.Sums.{HeldNear, SumsRead}
use Rattle.sums.specs.Sizes.{sized_as, row_sized}
use Rattle.sums.specs.Room.{row_place}
use Rattle.second_pass.specs.Picked.{across_entry}
use Rattle.second_pass.specs.Across.{across_is}

module _ (f : Frame) (i c count : ℕ) (diagonals verticals : List ℤ) (read : SecondReads f i diagonals verticals)
    (ec : c ≡ chroma_start f.phase i) (en : count ≡ half_count f.width c) where
  abbrev Copied : List ℤ → List ℤ → Type 0
  Copied plane row = Entries (pos 0) 2064 4 (count + 4) (λ (x : ℕ). get_or plane (i * f.width + (x - 4)) (pos 0)) row

  -- row i lies in a plane
  pub row_here : (i * f.width + count ≤ f.height * f.width) × (f.height * f.width ≤ 16777216)
  row_here = row_place read (en ∙ chroma_count_is f i c ec) i read.inside

  -- row i of a plane of r_k
  copied_half : (k : Direction) (plane row : List ℤ) → HeldNear f i (trials f k) plane → Copied plane row
      → Half f.width c 4 (half_count f.width c + 4) (trials f k i) row
  copied_half k plane row held copied =
      half_of_row f (λ (n : ℕ). n) f.width 0 (i - 8) (min (i + 9) f.height) (trials f k) plane read.taken.wide held i c (i * f.width) count row
      (omega arith) (omega (arith, read.inside)) ec en (omega arith) copied

  -- its numbers are small
  pub copied_sized : (k : Direction) (plane row : List ℤ) → HeldNear f i (trials f k) plane → Copied plane row → Sized 32760 4 (count + 4) row
  copied_sized k plane row held copied =
      sized_as (row_sized f read.taken k c i row read.inside (copied_half k plane row held copied)) (omega arith) (omega arith) (omega arith)

  -- told by the frame's start and count
  half_told : (lo a b : ℕ) (q : ℕ → ℤ) (row : List ℤ) → Half f.width c lo (half_count f.width c + a) q row → b ≡ a
      → Half f.width (chroma_start f.phase i) lo (chroma_count f i + b) q row
  half_told lo a b q row h e =
      let n = chroma_count_is f i c ec in
      entries_as h (omega arith) (omega arith) (λ x l u. ap (λ (y : ℕ). q (column_at f.width (y + 2 * x))) ec)

  module _ (rh₀ rh rv rd₀ rd : List ℤ) (diagonals_copied : Copied diagonals rd₀) (verticals_copied : Copied verticals rv)
      (across : Entries (pos 0) 2064 4 (count + 4) (across_entry rd₀ rv) rh₀)
      (ph_mirrored : Entries (pos 0) 2064 (4 - 4) (half_count f.width c + 4 + 4)
      (λ (x : ℕ). get_or rh₀ (source_entry f.width c x) (pos 0)) rh)
      (pd_mirrored : Entries (pos 0) 2064 (4 - 4) (half_count f.width c + 4 + 4)
      (λ (x : ℕ). get_or rd₀ (source_entry f.width c x) (pos 0)) rd) where
    both_half : Half f.width c 4 (half_count f.width c + 4) (trials f diagonal i) rd₀
    both_half = copied_half diagonal diagonals rd₀ read.diagonals_held diagonals_copied

    down_half : Half f.width c 4 (half_count f.width c + 4) (trials f vertical i) rv
    down_half = copied_half vertical verticals rv read.verticals_held verticals_copied

    across_half : Half f.width c 4 (half_count f.width c + 4) (trials f horizontal i) rh₀
    unfolding across_entry
    across_half = entries_as across (omega arith) (omega arith) (λ x a b.
        ap₂ (λ (d v : ℤ). pos 2 *ℤ d -ℤ v) (both_half.at x a b) (down_half.at x a b) ∙ across_is f i (column_at f.width (c + 2 * x)))

    small : c ≤ 1
    small = rw ec (chroma_small f.phase i)

    whole : (k : Direction) (old row : List ℤ) → Half f.width c 4 (half_count f.width c + 4) (trials f k i) old
        → Entries (pos 0) 2064 (4 - 4) (half_count f.width c + 4 + 4) (λ (x : ℕ). get_or old (source_entry f.width c x) (pos 0)) row
        → Half f.width (chroma_start f.phase i) 0 (chroma_count f i + 8) (trials f k i) row
    whole k old row h m =
        let l = mirrored f.width c read.taken.wide small (4 - 4) (half_count f.width c + 4 + 4) (trials f k i) old row h m in
        half_told 0 8 8 (trials f k i) row (entries_as l (omega arith) (omega arith) (λ x a b. refl)) refl

    pub formed : SumsRead f i diagonals verticals rh rv rd
    formed = record {
      planes = read;
      across_row = whole horizontal rh₀ rh across_half ph_mirrored;
      down_row = half_told 4 4 4 (trials f vertical i) rv down_half refl;
      both_row = whole diagonal rd₀ rd both_half pd_mirrored;
    }
