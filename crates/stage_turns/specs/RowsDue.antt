-- What a step asks gives the row that is due in it. Assumes nothing.
use Rattle.std.specs.Prelude.{List, ℕ, ◌-◌, ◌<◌, ◌≤◌, ℤ}
use Rattle.std.proofs.Common.{arith}
use Rattle.frame.specs.Sites.{Frame}
use Rattle.positions.specs.Rings.{Round}
use Rattle.positions.specs.RingLaws.{round_part}
use Rattle.records.specs.TurnLaws.{held_part}
use Rattle.records.specs.Stages.{Gradients, Lent, SecondLent, EnhanceReads, DiagonalReads}
use Rattle.mosaic_rows.specs.RingRows.{RowsKept}
use Rattle.first_stage.specs.FirstStage.{SumsKept, FirstLent}
use Rattle.out_stage.specs.OutRows.{OutLent}
use Rattle.stage_turns.specs.Distances.{Buffers, FirstAsks, SecondAsks, EnhanceAsks, DiagonalAsks, OutAsks}

pub gradients_part : {f : Frame} {lo hi lo' hi' : ℕ} {tops work : List ℤ} → Gradients f lo hi tops work → lo ≤ lo' → hi' ≤ hi
    → Gradients f lo' hi' tops work
gradients_part g a b = record { records = held_part g.records a b; top_rows = held_part g.top_rows (omega arith) (omega arith) }

pub rows_part : {f : Frame} {lo hi lo' hi' : ℕ} {rows : List ℕ} → RowsKept f lo hi rows → lo ≤ lo' → hi' ≤ hi → RowsKept f lo' hi' rows
rows_part k a b = record { size = k.size; row = λ r x y. k.row r (omega arith) (omega arith) }

pub sums_part : {f : Frame} {lo hi lo' hi' : ℕ} {rows alongs : List ℕ} → SumsKept f lo hi rows alongs → lo ≤ lo' → hi' ≤ hi
    → SumsKept f lo' hi' rows alongs
sums_part k a b = record { size = k.size; row = λ r x y. k.row r (omega arith) (omega arith) }

lent : {f : Frame} {t base L : ℕ} {tops work : List ℤ} → Buffers f tops work → Round base (t - 24) t → 4 ≤ L → L ≤ 20 → L ≤ t → t - L < f.height
    → Lent f (t - L) base tops work
lent b r x y z l = record {
  taken = b.taken;
  inside = l;
  round = round_part r (omega arith) (omega arith);
  tops_size = b.tops_size;
  work_size = b.work_size;
}

module _ {f : Frame} {t base : ℕ} {tops work : List ℤ} where
  pub first_lent : {rows alongs : List ℕ} → FirstAsks f t base rows alongs tops work → 4 ≤ t → t - 4 < f.height
      → FirstLent f (t - 4) base rows alongs tops work
  first_lent s a l = record {
    reads = record {
      lent = lent s.buffers s.round (omega arith) (omega arith) a l;
      above = gradients_part s.above (omega arith) (omega arith);
    };
    mosaic = record {
      taken = s.buffers.taken;
      inside = l;
      round = round_part s.round (omega arith) (omega arith);
      kept = rows_part s.kept (omega arith) (omega arith);
    };
    sums = sums_part s.sums (omega arith) (omega arith);
  }

  pub enhance_reads : {green : List ℤ} → EnhanceAsks f t base tops work green → 14 ≤ t → t - 14 < f.height
      → EnhanceReads f (t - 14) base tops work green
  enhance_reads s a l = record {
    lent = lent s.buffers s.round (omega arith) (omega arith) a l;
    green_size = s.green_size;
    gradients = gradients_part s.gradients (omega arith) (omega arith);
    greens_held = held_part s.differences (omega arith) (omega arith);
  }

  pub diagonal_reads : DiagonalAsks f t base tops work → 15 ≤ t → t - 15 < f.height → DiagonalReads f (t - 15) base tops work
  diagonal_reads s a l = record {
    lent = lent s.buffers s.round (omega arith) (omega arith) a l;
    gradients = gradients_part s.gradients (omega arith) (omega arith);
    finals_held = held_part s.differences (omega arith) (omega arith);
  }

  pub out_lent : {rows : List ℕ} → OutAsks f t base rows tops work → 20 ≤ t → t - 20 < f.height → OutLent f (t - 20) base rows tops work
  out_lent s a l = record {
    reads = record {
      reads = record {
        lent = lent s.buffers s.round (omega arith) (omega arith) a l;
        gradients = gradients_part s.gradients (omega arith) (omega arith);
        finals_held = held_part s.own (omega arith) (omega arith);
      };
      others_held = held_part s.other (omega arith) (omega arith);
    };
    row = s.kept.row (t - 20) (omega arith) (omega arith);
  }

pub second_lent : {f : Frame} {t : ℕ} {red blue : List ℤ} {map : List ℕ} → SecondAsks f t red blue map → 12 ≤ t → t - 12 < f.height
    → SecondLent f (t - 12) red blue map
second_lent s a l = record {
  planes = record {
    taken = s.taken;
    inside = l;
    diagonals_size = s.red_size;
    verticals_size = s.blue_size;
    diagonals_held = held_part s.diagonals (omega arith) (omega arith);
    verticals_held = held_part s.verticals (omega arith) (omega arith);
  };
  map_size = s.map_size;
  codes = held_part s.codes (omega arith) (omega arith);
}
