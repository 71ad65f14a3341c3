-- The two halves of E of a row: what they are formed from, where they go, and what they are. Assumes nothing.
use Rattle.std.specs.Prelude.{◌≡◌, refl, List, ℕ, ◌+◌, ◌*◌, ◌-◌, ◌<◌, ◌≤◌, ℤ, pos, get_or}
use Rattle.std.proofs.Common.{sym, ◌∙◌, ap, subst, arith}
use Rattle.toolkit.specs.Entries.{Entries}
use Rattle.toolkit.specs.Writes.{Wrote, wrote_as, wrote_then}
use Rattle.frame.specs.Sites.{Frame}
use Rattle.positions.specs.HalfRows.{chroma_start, half_count, chroma_count}
use Rattle.positions.specs.HalfRowLaws.{chroma_small, count_high, chroma_count_is}
use Rattle.positions.specs.Rings.{place_in_ring}
use Rattle.positions.specs.RingLaws.{ring_end}
use Rattle.records.specs.Layout.{record_size}
use Rattle.records.specs.Quantities.{wests, east_entry}
use Rattle.records.specs.EntryLaws.{east_of_first, east_of_second}
use Rattle.east_rows.specs.RowSums.{Small, EastRoom, along_at, Summed, east_at}
use Rattle.east_rows.specs.EastRows.{EastReads, EastStored}
use Rattle.east_rows.specs.SumLaws.{small_less, along_most}
use Rattle.east_rows.specs.EastLaws.{row_small, east_of}

-- both halves end in the row, each with one column more in the west
pub first_end : (W c n : ℕ) → c ≤ 1 → n ≡ half_count W c → c + 6 + 2 * (n + 1) ≤ W + 9
unfolding half_count
first_end W c n h e = omega arith

pub second_end : (W c n : ℕ) → c ≤ 1 → n ≡ half_count W c → 7 - c + 2 * (W - n + 1) ≤ W + 9
unfolding half_count
second_end W c n h e = omega arith

-- a of a row whose samples are small
sums_small : (w at : ℕ) (rows alongs : List ℕ) → Small 4095 at (at + w + 16) rows → Summed w at rows alongs
    → Small 32760 (at + 6) (at + w + 8) alongs
sums_small w at rows alongs s sums = record {
  each = λ x a b.
      let e : at + 6 + (x - (at + 6)) ≡ x = omega arith in
      let l : get_or alongs (at + 6 + (x - (at + 6))) 0 ≡ along_at rows (at + 6 + (x - (at + 6))) = sums.entry (x - (at + 6)) (omega arith) in
      let m : along_at rows x ≤ 32760 = along_most rows x (omega arith) (small_less s (omega arith) (omega arith)) in
      omega (arith, subst (λ (y : ℕ). get_or alongs y 0 ≡ along_at rows y) e l);
}

module _ (f : Frame) (i : ℕ) (at rows alongs : List ℕ) (reads : EastReads f i at rows alongs) where
  row_sums_small : (p : ℕ) → 1 ≤ p → p ≤ 3 → Small 32760 (get_or at p 0 + 6) (get_or at p 0 + f.width + 8) alongs
  row_sums_small p a b =
      sums_small f.width (get_or at p 0) rows alongs (row_small f i at rows alongs reads p (omega arith)) (reads.sums p a b)

  pub east_room : EastRoom rows alongs (get_or at 1 0) (get_or at 2 0) (get_or at 3 0) f.width
  east_room =
      let w = reads.taken.narrow in
      record {
        narrow = w;
        up_room = omega (arith, reads.seven.inside 1 (omega arith));
        here_room = omega (arith, reads.seven.inside 2 (omega arith));
        down_room = omega (arith, reads.seven.inside 3 (omega arith));
        samples_small = small_less (row_small f i at rows alongs reads 2 (omega arith)) (omega arith) (omega arith);
        up_small = row_sums_small 1 (omega arith) (omega arith);
        here_small = row_sums_small 2 (omega arith) (omega arith);
        down_small = row_sums_small 3 (omega arith) (omega arith);
      }

pub count_in_row : (f : Frame) (c n : ℕ) → n ≡ half_count f.width c → n ≤ f.width
count_in_row f c n e = omega (arith, count_high f.width c)

-- the record of row i has room for both halves
pub halves_room : (f : Frame) (i c n to size : ℕ) → 2 ≤ f.width → i < f.height → n ≡ half_count f.width c
    → to ≡ place_in_ring i * record_size f.width → size ≡ f.height * record_size f.width
    → (to + (n + 1) ≤ size) × (to + n + 1 + (f.width - n + 1) ≤ size)
halves_room f i c n to size w h e p q =
    let end = ring_end f.height (4 * f.width) i h in
    let most = count_high f.width c in
    (omega arith, omega arith)

-- both halves, one behind the other
module _ (f : Frame) (i : ℕ) (at rows alongs : List ℕ) (reads : EastReads f i at rows alongs) (c n to : ℕ)
    (start : c ≡ chroma_start f.phase i) (count : n ≡ half_count f.width c) (place : to ≡ place_in_ring i * record_size f.width)
    (gradients : List ℤ) (formed : Entries (pos 0) 4112 6 (f.width + 8)
    (λ (k : ℕ). pos (east_at rows alongs (get_or at 1 0) (get_or at 2 0) (get_or at 3 0) k)) gradients) where
  small : c ≤ 1
  small = omega (arith, chroma_small f.phase i)

  counted : n ≡ chroma_count f i
  counted = count ∙ chroma_count_is f i c start

  -- E(i,j − 2) stands at entry j + 6
  west_at : (j x : ℕ) → j < f.width + 2 → x ≡ j + 6 → get_or gradients x (pos 0) ≡ wests f i j
  west_at j x h e = formed.at x (omega arith) (omega arith) ∙ east_of f i at rows alongs reads j x h e

  first_is : (k : ℕ) → k < n + 1 → get_or gradients (c + 6 + 2 * k) (pos 0) ≡ east_entry f i k
  first_is k h =
      west_at (c + 2 * k) (c + 6 + 2 * k) (omega (arith, first_end f.width c n small count)) (omega arith)
      ∙ (ap (λ (b : ℕ). wests f i (b + 2 * k)) start ∙ sym (east_of_first f i k (omega (arith, counted))))

  second_is : (k : ℕ) → k < f.width - n + 1 → get_or gradients (7 - c + 2 * k) (pos 0) ≡ east_entry f i (n + 1 + k)
  second_is k h =
      west_at (1 - c + 2 * k) (7 - c + 2 * k) (omega (arith, second_end f.width c n small count, small)) (omega (arith, small))
      ∙ (ap (λ (b : ℕ). wests f i (1 - b + 2 * k)) start
      ∙ (sym (east_of_second f i k) ∙ ap (λ (b : ℕ). east_entry f i (b + 1 + k)) (sym counted)))

  pub east_stored : {old mid new : List ℤ} → Wrote (pos 0) to (n + 1) (λ (k : ℕ). get_or gradients (c + 6 + 2 * k) (pos 0)) old mid
      → Wrote (pos 0) (to + n + 1) (f.width - n + 1) (λ (k : ℕ). get_or gradients (7 - c + 2 * k) (pos 0)) mid new → EastStored f i old new
  east_stored {old} {mid} {new} a b =
      subst (λ (y : ℕ). Wrote (pos 0) y (f.width + 2) (east_entry f i) old new) place
      (wrote_then (wrote_as a refl first_is) b (omega arith) (omega (arith, count, count_high f.width c)) second_is)
