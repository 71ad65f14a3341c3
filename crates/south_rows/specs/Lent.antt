-- What a line is lent serves its row of N and both halves of it. Assumes nothing.
use Rattle.std.specs.Prelude.{◌≡◌, List, ℕ, ◌+◌, ◌*◌, ◌-◌, ◌≤◌, ℤ, length, get_or}
use native.Mathlib.Omega.{arith}
use Rattle.toolkit.specs.Entries.{Entries}
use Rattle.frame.specs.declared.Shape.{Shape}
use Rattle.positions.specs.HalfRows.{half_count}
use Rattle.positions.specs.HalfRowLaws.{count_high, chroma_small}
use Rattle.south_rows.specs.SevenRows.{down_pair, SmallRows, NorthReads, SouthLent}
use Rattle.south_rows.specs.SevenRowLaws.{small_less, pair_small}
use Rattle.south_rows.specs.NorthRows.{seven_small}

module _ {shape : Shape} {c to : ℕ} {at rows : List ℕ} {out : List ℤ} (l : SouthLent shape c to at rows out) where
  pub lent_limits : (2 ≤ shape.width) × (shape.width ≤ 4096) × (c ≤ 1)
  lent_limits = (l.reads.taken.wide, l.reads.taken.narrow, rw l.reads.start (chroma_small shape.phase l.row))

  pub lent_small : SmallRows (shape.width + 9) at rows
  lent_small = small_less (seven_small l.reads.taken l.reads.seven) (omega arith)

  pub count_fits : {n : ℕ} → n ≡ half_count shape.width c → n ≤ shape.width
  count_fits e = omega (arith, count_high shape.width c)

  pub north_reads : {pairs : List ℕ} → Entries 0 4112 7 (shape.width + 9) (down_pair rows at) pairs
      → NorthReads shape.width (get_or at 2 0) (get_or at 4 0) rows pairs
  north_reads d = record {
    narrow = l.reads.taken.narrow;
    here_room = omega (arith, l.reads.taken.narrow, l.reads.seven.inside 2 (omega arith));
    there_room = omega (arith, l.reads.taken.narrow, l.reads.seven.inside 4 (omega arith));
    here_small = λ k h. (lent_small.each 2 k (omega arith) (omega arith)).1;
    there_small = λ k h. (lent_small.each 4 k (omega arith) (omega arith)).1;
    pairs_small = λ k a b. rw (d.at k a b) (pair_small rows at k (small_less lent_small (omega arith)));
  }

  -- each half ends in the row, and has room
  module _ {n : ℕ} (e : n ≡ half_count shape.width c) where
    pub first_fits : (c + 8 + 2 * n ≤ 4112) × (to + n ≤ length out)
    unfolding half_count
    first_fits =
        let b = lent_limits in
        (omega arith, omega (arith, l.room, count_fits e))

    pub second_fits : {size : ℕ} → size ≡ length out
        → (9 - c + 2 * (shape.width - n) ≤ 4112) × (to + n + (shape.width - n) ≤ size)
    unfolding half_count
    second_fits s =
        let b = lent_limits in
        (omega arith, omega (arith, l.room, count_fits e))
