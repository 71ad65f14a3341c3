-- Laws of `north`: what it reads lies in the buffers, and which buffer it reads. Assumes nothing.
use Rattle.std.specs.Prelude.{◌≡◌, List, ℕ, ◌+◌, ◌*◌, ◌-◌, ◌<◌, ◌≤◌, ℤ, pos, length, get_or}
use Rattle.std.proofs.Common.{arith}
use Rattle.toolkit.specs.Tests.{ltb_yes, ltb_no}
use Rattle.positions.specs.Rings.{place_in_ring}
use Rattle.positions.specs.RingLaws.{ring_end}
use Rattle.records.specs.Layout.{record_size, south_part, top_size}
use Rattle.half_rows.specs.Sources.{north_entry, NorthRoom}

module _ (tops work : List ℤ) (W i k : ℕ) where
  pub north_of_tops : i < 2 → north_entry tops work W i k ≡ get_or tops (i * top_size + k) (pos 0)
  unfolding north_entry
  north_of_tops h = rw (ltb_yes {m = i} {n = 2} h)

  pub north_of_work : 2 ≤ i → north_entry tops work W i k ≡ get_or work (place_in_ring (i - 2) * record_size W + south_part W + k) (pos 0)
  unfolding north_entry
  north_of_work h = rw (ltb_no {m = i} {n = 2} h)

-- the S of row i − 2 lies in work
pub south_inside : (W i base at count : ℕ) (tops work : List ℤ) → NorthRoom W i base at count tops work → 2 ≤ i
    → place_in_ring (i - 2) * record_size W + south_part W + at + count ≤ length work
south_inside W i base at count tops work r h =
    omega (arith, r.wide, r.inside, r.work_start, ring_end i (record_size W) (i - 2) (omega arith))
