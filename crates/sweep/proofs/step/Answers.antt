-- `sweep::step` meets its contract: the turns one after the other, each with what the invariant then gives it. Assumes nothing.
use Rattle.std.proofs.Common.{arith}
use Rattle.positions.specs.RingLaws.{round_part}
use Rattle.sweep.specs.Loads.{after_load}
use Rattle.sweep.specs.Reads.{first_asks, second_asks, enhance_asks, diagonal_asks, out_asks}
use Rattle.sweep.specs.Steps.{after_first, after_second, after_enhance, after_diagonal, step_made}
use Rattle.sweep.proofs.step.Goals as goal

pub load_turn-requires : goal.load_turn-requires
load_turn-requires c = record { taken = c.requires.sweep.buffers.taken; round = round_part c.requires.mosaic_kept.1 (omega arith) (omega arith) }

pub first_turn-requires : goal.first_turn-requires
first_turn-requires c =
    let start = c.requires.sweep in
    let kept = c.requires.mosaic_kept in
    let mosaic = after_load start.buffers.taken kept.0 c.load_turn.ensures in
    record {
      some_samples = record { samples = _; holds = first_asks kept.1 mosaic start };
      red_len = (start.red_size, start.blue_size, start.map_size);
    }

pub second_turn-requires : goal.second_turn-requires
second_turn-requires c =
    let start = c.requires.sweep in
    let kept = c.requires.mosaic_kept in
    let mosaic = after_load start.buffers.taken kept.0 c.load_turn.ensures in
    record {
      some_samples = record { samples = _; holds = second_asks (after_first kept.1 mosaic start c.first_turn.ensures.first_turned) };
      green_len = start.green_size;
    }

pub enhance_turn-requires : goal.enhance_turn-requires
enhance_turn-requires c =
    let start = c.requires.sweep in
    let kept = c.requires.mosaic_kept in
    let mosaic = after_load start.buffers.taken kept.0 c.load_turn.ensures in
    let begun = after_first kept.1 mosaic start c.first_turn.ensures.first_turned in
    let now = after_second begun c.second_turn.ensures.second_turned in
    record { some_samples = record { samples = _; holds = enhance_asks kept.1 now } }

pub diagonal_turn-requires : goal.diagonal_turn-requires
diagonal_turn-requires c =
    let start = c.requires.sweep in
    let kept = c.requires.mosaic_kept in
    let mosaic = after_load start.buffers.taken kept.0 c.load_turn.ensures in
    let begun = after_first kept.1 mosaic start c.first_turn.ensures.first_turned in
    let now = after_second begun c.second_turn.ensures.second_turned in
    record {
      some_samples = record {
        samples = _;
        holds = diagonal_asks kept.1 (after_enhance kept.1 now c.enhance_turn.ensures.enhance_turned);
      };
    }

pub out_turn-requires : goal.out_turn-requires
out_turn-requires c =
    let start = c.requires.sweep in
    let kept = c.requires.mosaic_kept in
    let mosaic = after_load start.buffers.taken kept.0 c.load_turn.ensures in
    let now = after_second (after_first kept.1 mosaic start c.first_turn.ensures.first_turned) c.second_turn.ensures.second_turned in
    let enhanced = after_enhance kept.1 now c.enhance_turn.ensures.enhance_turned in
    let last = after_diagonal kept.1 enhanced c.diagonal_turn.ensures.diagonal_turned in
    record {
      some_samples = record { samples = _; holds = out_asks kept.1 mosaic last };
      red_len = (last.red_size, last.green_size, last.blue_size);
    }

-- what the turns have made
pub returns : goal.returns
returns c =
    let start = c.requires.sweep in
    let kept = c.requires.mosaic_kept in
    let mosaic = after_load start.buffers.taken kept.0 c.load_turn.ensures in
    let out = c.out_turn.ensures in
    record {
      sweep_2 = step_made kept.1 mosaic start c.first_turn.ensures.first_turned c.second_turn.ensures.second_turned
          c.enhance_turn.ensures.enhance_turned c.diagonal_turn.ensures.diagonal_turned out.out_turned out.out_turned_2 out.out_turned_3;
      mosaic_kept_2 = mosaic;
    }
