-- What a step asks of the rows that it reads, and the sizes that it leaves. Assumes nothing.
use Rattle.std.specs.Prelude.{◌≡◌, refl, List, ℕ, ◌+◌, ◌*◌, ◌-◌, ◌<◌, ◌≤◌, ℤ, pos, length}
use Rattle.std.proofs.Common.{arith}
use Rattle.std.proofs.Math.IntN.{sub_ℕ}
use Rattle.toolkit.specs.Entries.{Entries}
use Rattle.frame.specs.Sites.{Frame, reflect}
use Rattle.method.specs.Green.{Direction, horizontal, vertical, diagonal}
use Rattle.positions.specs.HalfRows.{chroma_start, chroma_count, Half}
use Rattle.positions.specs.HalfRowLaws.{count_high, count_most, chroma_count_is}
use Rattle.positions.specs.Places.{plane_row}
use Rattle.records.specs.Quantities.{trials}
use Rattle.records.specs.Stages.{SecondReads}
use Rattle.half_rows.specs.Sources.{Sized}
use Rattle.sums.specs.Sums.{entries_of, with_columns, HeldNear, SumsRead, SumsRoom}
use Rattle.sums.specs.Nearby.{near_above, near_below}
use Rattle.sums.specs.Sizes.{sized_as, entries_sized, row_sized, plane_sized, columns_most, rows_most}
use Rattle.sums.specs.Steps.{middle}
use Rattle.sums.specs.Widening.{Stepped}

-- the sums before a step leave room for it
pub before : {m n hi : ℕ} {sums : List ℤ} → Sized m 4 hi sums → m ≤ n → Sized n 4 hi sums
before s l = sized_as s l (omega arith) (omega arith)

module _ {f : Frame} {i count : ℕ} {diagonals verticals : List ℤ} (read : SecondReads f i diagonals verticals)
    (same : count ≡ chroma_count f i) where
  -- how many red and blue sites a row has
  pub count_room : (count ≤ 2048) × (count ≤ f.width)
  count_room =
      let c = chroma_start f.phase i in
      let e = chroma_count_is f i c refl in
      (omega (arith, count_most f.width c read.taken.narrow), omega (arith, count_high f.width c))

  -- where a row of a plane starts
  pub row_place : (r : ℕ) → r < f.height → (r * f.width + count ≤ f.height * f.width) × (f.height * f.width ≤ 16777216)
  row_place r l = plane_row f r count read.taken l count_room.1

module _ {f : Frame} {i count : ℕ} {diagonals verticals rh rv rd : List ℤ} (read : SumsRead f i diagonals verticals rh rv rd)
    (same : count ≡ chroma_count f i) where
  abbrev start : ℕ
  start = chroma_start f.phase i

  module _ {t : ℕ} (few : t ≤ 4) where
    -- `add_columns`, with a half row of r_k
    pub columns_asked : {m : ℕ} (k : Direction) (row sums : List ℤ) → Half f.width start 0 (chroma_count f i + 8) (trials f k i) row
        → Sized m 4 (count + 4) sums
        → ((t ≤ 4) × (count ≤ 2048)) × ((Sized 32760 0 (count + 8) row) × (Sized m 4 (count + 4) sums))
    columns_asked k row sums h s =
        let p = read.planes in
        ((few, (count_room p same).0), (sized_as (row_sized f p.taken k start i row p.inside h) (omega arith) (omega arith) (omega arith), s))

    -- `add_rows`, with a half row and a plane of r_k
    pub rows_asked : {m : ℕ} (k : Direction) (row plane sums : List ℤ) (above below : ℕ)
        → Half f.width start 4 (chroma_count f i + 4) (trials f k i) row
        → HeldNear f i (trials f k) plane → length plane ≡ f.height * f.width
        → (above ≡ reflect f.height (sub_ℕ i (2 * t))) × (above < f.height) → (below ≡ reflect f.height (pos (i + 2 * t))) × (below < f.height)
        → Sized m 4 (count + 4) sums
        → ((above * f.width + count ≤ length plane) × (below * f.width + count ≤ length plane) × (length plane ≤ 67108864) × (count ≤ 2048))
        × ((Sized 32760 4 (count + 4) row) × (Sized 32760 (above * f.width) (above * f.width + count) plane)
        × (Sized 32760 (below * f.width) (below * f.width + count) plane) × (Sized m 4 (count + 4) sums))
    rows_asked k row plane sums above below h held size a b s =
        let p = read.planes in
        let u = row_place p same above a.1 in
        let v = row_place p same below b.1 in (
          (omega (arith, u), omega (arith, v), omega (arith, u), (count_room p same).0),
          (
            sized_as (row_sized f p.taken k start i row p.inside h) (omega arith) (omega arith) (omega arith),
            plane_sized f p.taken k i above (above * f.width) count plane held
                (near_above f.height i t above p.taken.tall p.inside few a.0) same refl,
            plane_sized f p.taken k i below (below * f.width) count plane held
                (near_below f.height i t below p.taken.tall p.inside few b.0) same refl,
            s,
          ),
        )

    -- `add_columns` and then `add_rows`, with both
    pub both_asked : {m : ℕ} (k : Direction) (row plane sums : List ℤ) (above below : ℕ)
        → Half f.width start 0 (chroma_count f i + 8) (trials f k i) row
        → HeldNear f i (trials f k) plane → length plane ≡ f.height * f.width
        → (above ≡ reflect f.height (sub_ℕ i (2 * t))) × (above < f.height)
        → (below ≡ reflect f.height (pos (i + 2 * t))) × (below < f.height)
        → Sized m 4 (count + 4) sums
        → ((t ≤ 4) × (above * f.width + count ≤ length plane) × (below * f.width + count ≤ length plane) × (length plane ≤ 67108864)
        × (count ≤ 2048))
        × ((Sized 32760 0 (count + 8) row) × (Sized 32760 (above * f.width) (above * f.width + count) plane)
        × (Sized 32760 (below * f.width) (below * f.width + count) plane) × (Sized m 4 (count + 4) sums))
    both_asked k row plane sums above below h held size a b s =
        let c = columns_asked k row sums h s in
        let r = rows_asked k row plane sums above below (middle (chroma_count f i) h) held size a b s in
        ((few, r.0.0, r.0.1, r.0.2, r.0.3), (c.1.0, r.1.1, r.1.2, s))

    -- the sums of both kinds, after those along the row
    pub columns_room : {m : ℕ} {fh fv fd sums : List ℤ} → SumsRoom m count fh fv fd → m ≤ 458752
        → Entries (pos 0) 2064 4 (count + 4) (with_columns rd t (entries_of fd)) sums → Sized 1048576 4 (count + 4) sums
    columns_room {fd = fd} room l new =
        let d = columns_asked diagonal rd fd read.both_row room.both_most in
        entries_sized new (λ x a b. omega (arith, columns_most t count (entries_of fd) few d.1.0 x a b (room.both_most.each x a b)))

    pub room_next : (above below : ℕ) (fh fv fd new_fh new_fv new_fd : List ℤ)
        → (above ≡ reflect f.height (sub_ℕ i (2 * t))) × (above < f.height)
        → (below ≡ reflect f.height (pos (i + 2 * t))) × (below < f.height) → 1 ≤ t → SumsRoom ((t - 1) * 131040) count fh fv fd
        → Stepped t (above * f.width) (below * f.width) count diagonals verticals rh rv rd fh fv fd new_fh new_fv new_fd
        → SumsRoom (t * 131040) count new_fh new_fv new_fd
    room_next above below fh fv fd new_fh new_fv new_fd a b one room new =
        let p = read.planes in
        let h = columns_asked horizontal rh fh read.across_row room.across_most in
        let v = rows_asked vertical rv verticals fv above below read.down_row p.verticals_held p.verticals_size a b room.down_most in
        let d = both_asked diagonal rd diagonals fd above below read.both_row p.diagonals_held p.diagonals_size a b room.both_most in
        record {
          across_most = entries_sized new.across (λ x l u.
              omega (arith, columns_most t count (entries_of fh) few h.1.0 x l u (room.across_most.each x l u)));
          down_most = entries_sized new.down_columns (λ x l u.
              omega (arith, rows_most count (entries_of fv) v.1.0 v.1.1 v.1.2 x l u (room.down_most.each x l u)));
          both_most = entries_sized new.both (λ x l u.
              let c = columns_most t count (entries_of fd) few d.1.0 x l u (room.both_most.each x l u) in
              omega (
                arith,
                rows_most count (with_columns rd t (entries_of fd)) (sized_as d.1.0 (omega arith) (omega arith) (omega arith))
                    d.1.1 d.1.2 x l u c,
              ));
        }

-- no sums yet
pub room_none : {count : ℕ} {fh fv fd : List ℤ} → Entries (pos 0) 2064 4 (count + 4) (λ (x : ℕ). pos 0) fh
    → Entries (pos 0) 2064 4 (count + 4) (λ (x : ℕ). pos 0) fv → Entries (pos 0) 2064 4 (count + 4) (λ (x : ℕ). pos 0) fd → SumsRoom 0 count fh fv fd
room_none a b c = record {
  across_most = none _ a;
  down_most = none _ b;
  both_most = none _ c;
}
  where
    none : {m : ℕ} (count : ℕ) {sums : List ℤ} → Entries (pos 0) 2064 4 (count + 4) (λ (x : ℕ). pos 0) sums → Sized m 4 (count + 4) sums
    none count e = record { each = λ x l h. rw (e.at x l h) (omega arith) }

pub room_as : {m n count : ℕ} {fh fv fd : List ℤ} → SumsRoom m count fh fv fd → m ≤ n → SumsRoom n count fh fv fd
room_as r l = record {
  across_most = sized_as r.across_most l (omega arith) (omega arith);
  down_most = sized_as r.down_most l (omega arith) (omega arith);
  both_most = sized_as r.both_most (omega arith) (omega arith) (omega arith);
}
