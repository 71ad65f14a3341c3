-- `out_stage::row_differences` meets its contract. Assumes nothing.
use Rattle.out_stage.specs.RowDifferences.{means_asked, differences_are}
use Rattle.out_stage.proofs.row_differences.Goals as goal

pub direct_means-requires : goal.direct_means-requires
direct_means-requires c =
    let p = c.args.p in
    let zs = c.requires.samples in record {
      direct_reads = means_asked _ zs _ p.places p.placed _ _ _ c.requires.holds
          _ _ _ _ _ c.north.ensures c.copy.ensures c.mirror.ensures c.copy-2.ensures c.mirror-2.ensures;
    }

pub returns : goal.returns
returns c =
    let p = c.args.p in record {
      row = λ zs reads. differences_are _ zs _ p.places p.placed _ _ _ reads
          _ _ _ _ _ c.north.ensures c.copy.ensures c.mirror.ensures c.copy-2.ensures c.mirror-2.ensures
          _ _ c.direct_means.ensures.entries c.direct_means.ensures.entries_2;
    }
