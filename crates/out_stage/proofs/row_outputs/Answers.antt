-- `out_stage::row_outputs` meets its contract. Assumes nothing.
use mathlib.Core.Path.{refl}
use Rattle.frame.specs.Sites.{frame}
use Rattle.out_stage.specs.DirectReads.{count_few, rest_few, count_chroma, rest_green}
use Rattle.out_stage.specs.RowOutputs.{RowBounded, row_bounded, outputs_are}
use Rattle.out_stage.proofs.row_outputs.Goals as goal
use Rattle.out_stage.proofs.row_outputs.Goals.{After-samples-2}

-- what the loops ask of the half rows, once the samples are there
bounded : (c : After-samples-2) → let a = c.args in
    RowBounded a.p.places.count a.p.places.rest a.scratch.now.own a.scratch.now.other c.samples.new.dst
    c.samples-2.new.dst a.scratch.now.trials.across a.scratch.now.trials.vertical
bounded c =
    let a = c.args in
    let p = a.p in
    let zs = c.requires.some_samples.samples in
    row_bounded (frame p.row.shape zs) p.row.index a.at p.places.start p.places.count p.places.rest p.placed.start_is
    (count_chroma _ zs _ p.places p.placed) (rest_green _ zs _ p.places p.placed) _ _ _ _ _ _ _ c.requires.some_samples.holds
    c.samples.ensures c.samples-2.ensures

pub chroma_sites-requires : goal.chroma_sites-requires
chroma_sites-requires c =
    let p = c.args.p in
    let start = (goal.at.chroma_sites-requires c).After-samples-2 in
    let size = bounded start in record {
      count_bound = count_few _ c.requires.some_samples.samples _ p.places p.placed p.row.narrow;
      sized = (size.own_small, size.other_small, size.zx_small);
    }

pub green_sites-requires : goal.green_sites-requires
green_sites-requires c =
    let p = c.args.p in
    let start = (goal.at.green_sites-requires c).After-samples-2 in
    let size = bounded start in
    (rest_few _ c.requires.some_samples.samples _ p.places p.placed p.row.narrow, size.zg_small, size.x_small)

pub green_sites-requires-2 : goal.green_sites-requires-2
green_sites-requires-2 c =
    let p = c.args.p in
    let start = (goal.at.green_sites-requires-2 c).After-samples-2 in
    let size = bounded start in
    (rest_few _ c.requires.some_samples.samples _ p.places p.placed p.row.narrow, size.zg_small, size.y_small)

pub measured-requires : goal.measured-requires
measured-requires c =
    let p = c.args.p in
    let start = (goal.at.measured-requires c).After-samples-2 in
    (count_few _ c.requires.some_samples.samples _ p.places p.placed p.row.narrow, (bounded start).zx_small)

pub measured-requires-2 : goal.measured-requires-2
measured-requires-2 c =
    let p = c.args.p in
    let start = (goal.at.measured-requires-2 c).After-samples-2 in
    (rest_few _ c.requires.some_samples.samples _ p.places p.placed p.row.narrow, (bounded start).zg_small)

pub returns : goal.returns
returns c =
    let a = c.args in
    let p = a.p in
    record {
      row = λ zs reads. outputs_are (frame p.row.shape zs) p.row.index a.at p.places.start p.places.count p.places.rest p.placed.start_is
          (count_chroma _ zs _ p.places p.placed) (rest_green _ zs _ p.places p.placed) _ _ _ _ _ _ _ reads
          c.samples.ensures c.samples-2.ensures a.black.level refl _ _ _ _ _ _
          c.chroma_sites.ensures.entries c.chroma_sites.ensures.entries_2 c.green_sites.ensures c.green_sites-2.ensures
          c.measured.ensures c.measured-2.ensures;
    }
