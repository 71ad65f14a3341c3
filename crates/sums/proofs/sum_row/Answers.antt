-- `sums::sum_row` meets its contract. No sums, then all steps. Assumes nothing.
use Rattle.sums.specs.Widening.{count_is, sums_none}
use Rattle.sums.specs.Room.{count_room}
use Rattle.sums.proofs.sum_row.Goals as goal

pub clear-requires : goal.clear-requires
clear-requires c = (count_room c.requires.some_samples.holds.planes (count_is c.args.planes.shape c.args.planes.index c.args.planes.count c.args.planes.sites c.requires.some_samples.samples)).0

pub clear-requires-2 : goal.clear-requires-2
clear-requires-2 c = (count_room c.requires.some_samples.holds.planes (count_is c.args.planes.shape c.args.planes.index c.args.planes.count c.args.planes.sites c.requires.some_samples.samples)).0

pub clear-requires-3 : goal.clear-requires-3
clear-requires-3 c = (count_room c.requires.some_samples.holds.planes (count_is c.args.planes.shape c.args.planes.index c.args.planes.count c.args.planes.sites c.requires.some_samples.samples)).0

pub returns-clause-summed : goal.returns-clause-summed
returns-clause-summed c =
    let a = c.args in record {
      row = λ zs read. c.add_steps.ensures.widens.step zs read
          (sums_none a.planes.shape a.planes.index a.planes.count a.planes.sites _ _ _ c.clear.ensures c.clear-2.ensures c.clear-3.ensures zs);
    }
