-- From the row that a line stores to the turn of its stage. Assumes nothing.
use Rattle.std.proofs.Common.{subst, arith}
use Rattle.std.specs.Prelude.{List, ℕ, ◌+◌, ◌*◌, ◌-◌, ◌<◌, ◌≤◌, ℤ, pos}
use Rattle.toolkit.specs.Writes.{Wrote}
use Rattle.frame.specs.Sites.{Frame, Colour}
use Rattle.frame.specs.declared.Shape.{Shape}
use Rattle.positions.specs.HalfRows.{in_halves}
use Rattle.records.specs.Layout.{top_size}
use Rattle.records.specs.Turns.{Turn}
use Rattle.records.specs.TurnLaws.{turn_made, turn_front, turn_early, turn_late}
use Rattle.records.specs.Quantities.{norths}
use Rattle.records.specs.Stages.{TopsStored, SecondStores, EnhanceStores, DiagonalStores}
use Rattle.first_stage.specs.FirstStage.{FirstStored, FirstStores}
use Rattle.out_stage.specs.OutRows.{OutStores}
use Rattle.stage_turns.specs.Distances.{FirstTurns, FirstTurned, SecondTurns, SecondTurned, EnhanceTurned, DiagonalTurned, OutTurned}
use Rattle.stage_turns.specs.RowsDue.{first_lent, second_lent, enhance_reads, diagonal_reads, out_lent}

tops_turned : (f : Frame) (t : ℕ) {old new : List ℤ} → 4 ≤ t → TopsStored f (t - 4) old new
    → Turn 2 4 t top_size 0 (λ r. f.width) (in_halves f (norths f)) old new
tops_turned f t {old} {new} a s = record {
  here = λ x y.
      subst (λ (k : ℕ). Wrote (pos 0) k f.width (in_halves f (norths f) (t - 4)) old new) {x = (t - 4) * top_size} (omega arith)
      (s.here (omega arith));
  early = λ x. absurd (omega arith);
  late = λ x. s.late (omega arith);
}

first_turns : {f : Frame} {t : ℕ} {tops tops' work work' red red' blue blue' : List ℤ} {map map' : List ℕ} → 4 ≤ t → t - 4 < f.height
    → FirstStored f (t - 4) tops tops' work work' red red' blue blue' map map'
    → FirstTurns f t tops tops' work work' red red' blue blue' map map'
first_turns {f} {t} a l s = record {
  tops_turn = tops_turned f t a s.tops_stored;
  work_turn = turn_front a (omega arith) s.gradients_stored;
  red_turn = turn_front a (omega arith) s.diagonals_stored;
  blue_turn = turn_front a (omega arith) s.verticals_stored;
  codes_turn = turn_front a (omega arith) s.codes_stored;
}

pub first_turned : {shape : Shape} {t base : ℕ} {rows alongs : List ℕ} {tops tops' work work' red red' blue blue' : List ℤ} {map map' : List ℕ}
    → 4 ≤ t → t - 4 < shape.height → FirstStores shape (t - 4) base rows alongs tops tops' work work' red red' blue blue' map map'
    → FirstTurned shape t base rows alongs tops tops' work work' red red' blue blue' map map'
first_turned a l s = record { turn = λ zs k. first_turns a l (s.row zs (first_lent k a l)) }

module _ {f : Frame} {t : ℕ} {tops work red blue : List ℤ} {map : List ℕ} where
  pub first_early : t < 4 → FirstTurns f t tops tops work work red red blue blue map map
  first_early a = record {
    tops_turn = turn_early a;
    work_turn = turn_early a;
    red_turn = turn_early a;
    blue_turn = turn_early a;
    codes_turn = turn_early a;
  }

  pub first_late : 2 ≤ f.height → f.height + 4 ≤ t → FirstTurns f t tops tops work work red red blue blue map map
  first_late tall a = record {
    tops_turn = turn_late (omega arith);
    work_turn = turn_late a;
    red_turn = turn_late a;
    blue_turn = turn_late a;
    codes_turn = turn_late a;
  }

module _ {t : ℕ} {map : List ℕ} where
  pub second_turned : {shape : Shape} {red blue green green' : List ℤ} {map' : List ℕ} → 12 ≤ t → t - 12 < shape.height
      → SecondStores shape (t - 12) red blue green green' map map' → SecondTurned shape t red blue green green' map map'
  second_turned a l s = record {
    turn = λ zs k. let row = s.row zs (second_lent k a l) in record {
      green_turn = turn_front a (omega arith) row.differences_stored;
      map_turn = turn_front a (omega arith) row.map_stored;
    };
  }

  pub second_early : {f : Frame} {green : List ℤ} → t < 12 → SecondTurns f t green green map map
  second_early a = record { green_turn = turn_early a; map_turn = turn_early a }

  pub second_late : {f : Frame} {green : List ℤ} → f.height + 12 ≤ t → SecondTurns f t green green map map
  second_late a = record { green_turn = turn_late a; map_turn = turn_late a }

module _ {shape : Shape} {t : ℕ} {old new : List ℤ} where
  pub enhance_turned : {base : ℕ} {tops green : List ℤ} → 14 ≤ t → t - 14 < shape.height → EnhanceStores shape (t - 14) base tops green old new
      → EnhanceTurned shape t base tops green old new
  enhance_turned a l s = record { turn = λ zs k. turn_made a (omega arith) (s.row zs (enhance_reads k a l)) }

  pub diagonal_turned : {base : ℕ} {tops : List ℤ} → 15 ≤ t → t - 15 < shape.height → DiagonalStores shape (t - 15) base tops old new
      → DiagonalTurned shape t base tops old new
  diagonal_turned a l s = record { turn = λ zs k. turn_made a (omega arith) (s.row zs (diagonal_reads k a l)) }

pub out_turned : {shape : Shape} {black t base : ℕ} {c : Colour} {rows : List ℕ} {tops work old new : List ℤ} → 20 ≤ t → t - 20 < shape.height
    → OutStores shape black (t - 20) base c rows tops work old new → OutTurned shape black t base c rows tops work old new
out_turned a l s = record { turn = λ zs k. turn_front a (omega arith) (s.row zs (out_lent k a l)) }
