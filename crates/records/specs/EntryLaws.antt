-- The entries of a record: E of its two halves, and S behind E. Assumes nothing.
use Rattle.std.specs.Prelude.{◌≡◌, ℕ, ◌+◌, ◌*◌, ◌-◌, ◌<◌}
use Rattle.std.proofs.Common.{ap, arith}
use Rattle.toolkit.specs.Tests.{ltb_yes, ltb_no}
use Rattle.frame.specs.Sites.{Frame}
use Rattle.positions.specs.HalfRows.{chroma_start, chroma_count, in_halves}
use Rattle.records.specs.Layout.{south_part}
use Rattle.records.specs.Quantities.{wests, souths, east_entry, gradient_entry}

module _ (f : Frame) (i k : ℕ) where
  pub east_of_first : k < chroma_count f i + 1 → east_entry f i k ≡ wests f i (chroma_start f.phase i + 2 * k)
  unfolding east_entry
  east_of_first h = rw (ltb_yes {m = k} {n = chroma_count f i + 1} h)

  pub east_of_second : east_entry f i (chroma_count f i + 1 + k) ≡ wests f i (1 - chroma_start f.phase i + 2 * k)
  unfolding east_entry
  east_of_second =
      rw (ltb_no {m = chroma_count f i + 1 + k} {n = chroma_count f i + 1} (omega arith))
      (ap (λ (x : ℕ). wests f i (1 - chroma_start f.phase i + 2 * x)) (omega arith))

  pub gradient_east : k < south_part f.width → gradient_entry f i k ≡ east_entry f i k
  unfolding gradient_entry
  gradient_east h = rw (ltb_yes {m = k} {n = south_part f.width} h)

  pub gradient_south : gradient_entry f i (south_part f.width + k) ≡ in_halves f (souths f) i k
  unfolding gradient_entry
  gradient_south =
      rw (ltb_no {m = south_part f.width + k} {n = south_part f.width} (omega arith)) (ap (in_halves f (souths f) i) (omega arith))
