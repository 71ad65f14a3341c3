-- The step of the sweep: each stage's turn moves its own counter. Assumes nothing.
use Rattle.std.specs.Prelude.{◌≡◌, refl, List, ℕ, ◌+◌, ◌-◌, ◌/◌, ◌≤◌, min, ℤ, length}
use Rattle.std.proofs.Common.{◌∙◌, arith}
use Rattle.frame.specs.Sites.{Frame, Colour, frame}
use Rattle.frame.specs.declared.Shape.{Shape}
use Rattle.positions.specs.Taken.{Taken}
use Rattle.positions.specs.Rings.{Round}
use Rattle.positions.specs.HalfRows.{chroma_start, chroma_count, in_halves}
use Rattle.positions.specs.HalfRowLaws.{count_half}
use Rattle.records.specs.Quantities.{norths}
use Rattle.records.specs.Held.{Held}
use Rattle.records.specs.Layout.{record_size, gradient_size, final_part, other_part, top_size}
use Rattle.records.specs.TurnLaws.{held_none, held_part, turn_size, turn_next, ring_next, turn_past, turn_beside, turn_behind, turn_over}
use Rattle.records.specs.Stages.{PlaneSize}
use Rattle.stage_turns.specs.Distances.{Buffers, FirstTurns, FirstTurned, SecondTurned, EnhanceTurned, DiagonalTurned, OutTurn, OutTurned}
use Rattle.sweep.specs.Invariant.{Sweep}
use Rattle.sweep.specs.Loads.{MosaicKept}
use Rattle.sweep.specs.Reads.{first_asks, second_asks, enhance_asks, diagonal_asks, out_asks}

-- ---- the parts of a row have their room

chroma_half : (f : Frame) (r : ℕ) → chroma_count f r ≤ (f.width + 1) / 2
unfolding chroma_count
chroma_half f r = count_half f.width (chroma_start f.phase r)

plane_fit : (f : Frame) → Taken f → (r : ℕ) → 0 + chroma_count f r ≤ f.width
plane_fit f t r = omega (arith, chroma_half f r, t.wide)

row_fit : (f : Frame) (r : ℕ) → 0 + f.width ≤ f.width
row_fit f r = omega arith

top_fit : (f : Frame) → Taken f → (r : ℕ) → 0 + f.width ≤ top_size
top_fit f t r = omega (arith, t.narrow)

gradient_fit : (f : Frame) → Taken f → (r : ℕ) → 0 + gradient_size f.width ≤ record_size f.width
gradient_fit f t r = omega (arith, t.wide)

final_fit : (f : Frame) → Taken f → (r : ℕ) → final_part f.width + chroma_count f r ≤ record_size f.width
final_fit f t r = omega (arith, chroma_half f r, t.wide)

other_fit : (f : Frame) → Taken f → (r : ℕ) → other_part f.width + chroma_count f r ≤ record_size f.width
other_fit f t r = omega (arith, chroma_half f r, t.wide)

final_first : (f : Frame) (r : ℕ) → final_part f.width + chroma_count f r ≤ other_part f.width
final_first f r = omega (arith, chroma_half f r)

buffers_then : {f : Frame} {tops tops' work work' : List ℤ} → Buffers f tops work → length tops' ≡ length tops → length work' ≡ length work
    → Buffers f tops' work'
buffers_then b p q = record { taken = b.taken; tops_size = p ∙ b.tops_size; work_size = q ∙ b.work_size }

pub sweep_none : {f : Frame} {black : ℕ} {tops work red green blue : List ℤ} {map : List ℕ} → Buffers f tops work → PlaneSize f red
    → PlaneSize f green → PlaneSize f blue → PlaneSize f map → Sweep f black 0 0 0 0 0 tops work red green blue map
sweep_none b r g l m = record {
  buffers = b;
  red_size = r;
  green_size = g;
  blue_size = l;
  map_size = m;
  gradients = record { records = held_none (omega arith); top_rows = held_none (omega arith) };
  diagonals = held_none (omega arith);
  verticals = held_none (omega arith);
  differences = held_none (omega arith);
  own = held_none (omega arith);
  other = held_none (omega arith);
  reds = held_none (omega arith);
  greens_shown = held_none (omega arith);
  blues = held_none (omega arith);
  codes = held_none (omega arith);
  decided = held_none (omega arith);
}

module _ {f : Frame} {black t : ℕ} {tops work red green blue : List ℤ} {map : List ℕ} where
  first_turned : {tops' work' red' blue' : List ℤ} {map' : List ℕ} → Sweep f black t t t t t tops work red green blue map
      → FirstTurns f t tops tops' work work' red red' blue blue' map map' → Sweep f black (t + 1) t t t t tops' work' red' green blue' map'
  first_turned s w =
      let k = s.buffers.taken in
      let tops_before : Held top_size 0 (λ r. f.width) 0 (min (t - 4) 2) (in_halves f (norths f)) tops =
      held_part s.gradients.top_rows (omega arith) (omega (arith, k.tall)) in
      let tops_after = turn_next w.tops_turn (top_fit f k) tops_before in record {
        buffers = buffers_then s.buffers (turn_size w.tops_turn) (turn_size w.work_turn);
        red_size = turn_size w.red_turn ∙ s.red_size;
        green_size = s.green_size;
        blue_size = turn_size w.blue_turn ∙ s.blue_size;
        map_size = turn_size w.codes_turn ∙ s.map_size;
        gradients = record {
          records = ring_next w.work_turn (gradient_fit f k) s.gradients.records;
          top_rows = held_part tops_after (omega arith) (omega arith);
        };
        diagonals = turn_next w.red_turn (plane_fit f k) s.diagonals;
        verticals = turn_next w.blue_turn (plane_fit f k) s.verticals;
        differences = s.differences;
        own = turn_behind w.work_turn (gradient_fit f k) (final_fit f k) (λ r. omega arith) s.own;
        other = turn_behind w.work_turn (gradient_fit f k) (other_fit f k) (λ r. omega arith) s.other;
        reds = turn_past w.red_turn (plane_fit f k) (row_fit f) (omega arith) s.reds;
        greens_shown = s.greens_shown;
        blues = turn_past w.blue_turn (plane_fit f k) (row_fit f) (omega arith) s.blues;
        codes = turn_next w.codes_turn (plane_fit f k) s.codes;
        decided = turn_past w.codes_turn (plane_fit f k) (row_fit f) (omega arith) s.decided;
      }

module _ {shape : Shape} {zs : List ℕ} {black t : ℕ} {tops work red green blue : List ℤ} {map : List ℕ} where
  pub after_first : {base : ℕ} {rows alongs : List ℕ} {tops' work' red' blue' : List ℤ} {map' : List ℕ} → Round base (t - 24) t
      → MosaicKept (frame shape zs) (t + 1) rows alongs → Sweep (frame shape zs) black t t t t t tops work red green blue map
      → FirstTurned shape t base rows alongs tops tops' work work' red red' blue blue' map map'
      → Sweep (frame shape zs) black (t + 1) t t t t tops' work' red' green blue' map'
  after_first r m s p = first_turned s (p.turn zs (first_asks r m s))

  pub after_second : {green' : List ℤ} {map' : List ℕ} → Sweep (frame shape zs) black (t + 1) t t t t tops work red green blue map
      → SecondTurned shape t red blue green green' map map' → Sweep (frame shape zs) black (t + 1) (t + 1) t t t tops work red green' blue map'
  after_second s p =
      let k = s.buffers.taken in
      let w = p.turn zs (second_asks s) in record {
        buffers = s.buffers;
        red_size = s.red_size;
        green_size = turn_size w.green_turn ∙ s.green_size;
        blue_size = s.blue_size;
        map_size = turn_size w.map_turn ∙ s.map_size;
        gradients = s.gradients;
        diagonals = s.diagonals;
        verticals = s.verticals;
        differences = turn_next w.green_turn (plane_fit (frame shape zs) k) s.differences;
        own = s.own;
        other = s.other;
        reds = s.reds;
        greens_shown = turn_past w.green_turn (plane_fit (frame shape zs) k) (row_fit (frame shape zs)) (omega arith) s.greens_shown;
        blues = s.blues;
        codes = turn_over w.map_turn (row_fit (frame shape zs)) (plane_fit (frame shape zs) k) s.codes;
        decided = turn_next w.map_turn (row_fit (frame shape zs)) s.decided;
      }

  pub after_enhance : {base : ℕ} {work' : List ℤ} → Round base (t - 24) t
      → Sweep (frame shape zs) black (t + 1) (t + 1) t t t tops work red green blue map
      → EnhanceTurned shape t base tops green work work' → Sweep (frame shape zs) black (t + 1) (t + 1) (t + 1) t t tops work' red green blue map
  after_enhance r s p =
      let k = s.buffers.taken in
      let w = p.turn zs (enhance_asks r s) in record {
        buffers = buffers_then s.buffers refl (turn_size w);
        red_size = s.red_size;
        green_size = s.green_size;
        blue_size = s.blue_size;
        map_size = s.map_size;
        gradients = record {
          records = turn_beside w (final_fit (frame shape zs) k) (gradient_fit (frame shape zs) k) (λ r. omega arith) s.gradients.records;
          top_rows = s.gradients.top_rows;
        };
        diagonals = s.diagonals;
        verticals = s.verticals;
        differences = s.differences;
        own = ring_next w (final_fit (frame shape zs) k) s.own;
        other = turn_behind w (final_fit (frame shape zs) k) (other_fit (frame shape zs) k) (final_first (frame shape zs)) s.other;
        reds = s.reds;
        greens_shown = s.greens_shown;
        blues = s.blues;
        codes = s.codes;
        decided = s.decided;
      }

  pub after_diagonal : {base : ℕ} {work' : List ℤ} → Round base (t - 24) t
      → Sweep (frame shape zs) black (t + 1) (t + 1) (t + 1) t t tops work red green blue map
      → DiagonalTurned shape t base tops work work' → Sweep (frame shape zs) black (t + 1) (t + 1) (t + 1) (t + 1) t tops work' red green blue map
  after_diagonal r s p =
      let k = s.buffers.taken in
      let w = p.turn zs (diagonal_asks r s) in record {
        buffers = buffers_then s.buffers refl (turn_size w);
        red_size = s.red_size;
        green_size = s.green_size;
        blue_size = s.blue_size;
        map_size = s.map_size;
        gradients = record {
          records = turn_beside w (other_fit (frame shape zs) k) (gradient_fit (frame shape zs) k) (λ r. omega arith) s.gradients.records;
          top_rows = s.gradients.top_rows;
        };
        diagonals = s.diagonals;
        verticals = s.verticals;
        differences = s.differences;
        own = turn_beside w (other_fit (frame shape zs) k) (final_fit (frame shape zs) k) (final_first (frame shape zs)) s.own;
        other = ring_next w (other_fit (frame shape zs) k) s.other;
        reds = s.reds;
        greens_shown = s.greens_shown;
        blues = s.blues;
        codes = s.codes;
        decided = s.decided;
      }

module _ {f : Frame} {black t : ℕ} {tops work red green blue red' green' blue' : List ℤ} {map : List ℕ} where
  pub after_out : Sweep f black (t + 1) (t + 1) (t + 1) (t + 1) t tops work red green blue map → OutTurn f black t Colour.red red red'
      → OutTurn f black t Colour.green green green' → OutTurn f black t Colour.blue blue blue'
      → Sweep f black (t + 1) (t + 1) (t + 1) (t + 1) (t + 1) tops work red' green' blue' map
  after_out s r g b =
      let k = s.buffers.taken in record {
        buffers = s.buffers;
        red_size = turn_size r ∙ s.red_size;
        green_size = turn_size g ∙ s.green_size;
        blue_size = turn_size b ∙ s.blue_size;
        map_size = s.map_size;
        gradients = s.gradients;
        diagonals = turn_over r (row_fit f) (plane_fit f k) s.diagonals;
        verticals = turn_over b (row_fit f) (plane_fit f k) s.verticals;
        differences = turn_over g (row_fit f) (plane_fit f k) s.differences;
        own = s.own;
        other = s.other;
        reds = turn_next r (row_fit f) s.reds;
        greens_shown = turn_next g (row_fit f) s.greens_shown;
        blues = turn_next b (row_fit f) s.blues;
        codes = s.codes;
        decided = s.decided;
      }

-- all turns
pub step_made : {shape : Shape} {zs : List ℕ} {black t base : ℕ} {rows alongs : List ℕ}
    {tops work red green blue tops' work₁ red₁ blue₁ green₁ work₂ work₃ red' green' blue' : List ℤ} {map map₁ map' : List ℕ} → Round base (t - 24) t
    → MosaicKept (frame shape zs) (t + 1) rows alongs → Sweep (frame shape zs) black t t t t t tops work red green blue map
    → FirstTurned shape t base rows alongs tops tops' work work₁ red red₁ blue blue₁ map map₁
    → SecondTurned shape t red₁ blue₁ green green₁ map₁ map'
    → EnhanceTurned shape t base tops' green₁ work₁ work₂ → DiagonalTurned shape t base tops' work₂ work₃
    → OutTurned shape black t base Colour.red rows tops' work₃ red₁ red'
    → OutTurned shape black t base Colour.green rows tops' work₃ green₁ green'
    → OutTurned shape black t base Colour.blue rows tops' work₃ blue₁ blue'
    → Sweep (frame shape zs) black (t + 1) (t + 1) (t + 1) (t + 1) (t + 1) tops' work₃ red' green' blue' map'
step_made {zs = zs} o m s a b c d r g l =
    let last = after_diagonal o (after_enhance o (after_second (after_first o m s a) b) c) d in
    let asks = out_asks o m last in
    after_out last (r.turn zs asks) (g.turn zs asks) (l.turn zs asks)
