-- What the invariant gives each stage to read. Assumes nothing.
use Rattle.std.specs.Prelude.{List, ℕ, ◌+◌, ◌-◌, ℤ}
use Rattle.std.proofs.Common.{arith}
use Rattle.frame.specs.Sites.{Frame}
use Rattle.positions.specs.Rings.{Round}
use Rattle.records.specs.TurnLaws.{held_part}
use Rattle.stage_turns.specs.Distances.{FirstAsks, SecondAsks, EnhanceAsks, DiagonalAsks, OutAsks}
use Rattle.stage_turns.specs.RowsDue.{rows_part, sums_part, gradients_part}
use Rattle.sweep.specs.Loads.{MosaicKept}
use Rattle.sweep.specs.Invariant.{Sweep}

module _ {f : Frame} {black t base : ℕ} {tops work red green blue : List ℤ} {map : List ℕ} where
  pub first_asks : {rows alongs : List ℕ} → Round base (t - 24) t → MosaicKept f (t + 1) rows alongs
      → Sweep f black t t t t t tops work red green blue map → FirstAsks f t base rows alongs tops work
  first_asks r m s = record {
    buffers = s.buffers;
    round = r;
    kept = rows_part m.kept (omega arith) (omega arith);
    sums = sums_part m.sums (omega arith) (omega arith);
    above = gradients_part s.gradients (omega arith) (omega arith);
  }

  pub enhance_asks : Round base (t - 24) t → Sweep f black (t + 1) (t + 1) t t t tops work red green blue map
      → EnhanceAsks f t base tops work green
  enhance_asks r s = record {
    buffers = s.buffers;
    round = r;
    green_size = s.green_size;
    gradients = gradients_part s.gradients (omega arith) (omega arith);
    differences = held_part s.differences (omega arith) (omega arith);
  }

  pub diagonal_asks : Round base (t - 24) t → Sweep f black (t + 1) (t + 1) (t + 1) t t tops work red green blue map
      → DiagonalAsks f t base tops work
  diagonal_asks r s = record {
    buffers = s.buffers;
    round = r;
    gradients = gradients_part s.gradients (omega arith) (omega arith);
    differences = held_part s.own (omega arith) (omega arith);
  }

  pub out_asks : {rows alongs : List ℕ} → Round base (t - 24) t → MosaicKept f (t + 1) rows alongs
      → Sweep f black (t + 1) (t + 1) (t + 1) (t + 1) t tops work red green blue map → OutAsks f t base rows tops work
  out_asks r m s = record {
    buffers = s.buffers;
    round = r;
    kept = rows_part m.kept (omega arith) (omega arith);
    gradients = gradients_part s.gradients (omega arith) (omega arith);
    own = held_part s.own (omega arith) (omega arith);
    other = held_part s.other (omega arith) (omega arith);
  }

pub second_asks : {f : Frame} {black t : ℕ} {tops work red green blue : List ℤ} {map : List ℕ}
    → Sweep f black (t + 1) t t t t tops work red green blue map → SecondAsks f t red blue map
second_asks s = record {
  taken = s.buffers.taken;
  red_size = s.red_size;
  blue_size = s.blue_size;
  diagonals = held_part s.diagonals (omega arith) (omega arith);
  verticals = held_part s.verticals (omega arith) (omega arith);
  map_size = s.map_size;
  codes = held_part s.codes (omega arith) (omega arith);
}
