-- `second_pass::trial_rows` meets its contract. Two rows are copied, the third is formed, two are mirrored (`formed`). Assumes nothing.
use Rattle.std.proofs.Common.{◌≡◌, ◌∙◌, sym, ap, ℕ, rules}
use Rattle.frame.specs.Sites.{frame}
use Rattle.positions.specs.HalfRows.{half_count}
use Rattle.method.specs.Green.{vertical, diagonal}
use Rattle.second_pass.specs.Forming.{row_here, copied_sized, formed}
use Rattle.second_pass.proofs.trial_rows.Goals as goal

-- how many sites there are, by the column of the first
sites_from : (w : ℕ) {c start count : ℕ} → c ≡ start → count ≡ half_count w start → count ≡ half_count w c
sites_from w e n = n ∙ ap (half_count w) (sym e)

pub copy-requires : goal.copy-requires
copy-requires c =
    let planes = c.args.planes in
    let start = c.requires.c_value.0 in
    let r = c.requires.some_samples.holds in
    let p = row_here (frame planes.shape c.requires.some_samples.samples) planes.index c.args.c planes.count planes.diagonals.now planes.verticals.now r start
    (sites_from _ start planes.sites) in
    let e = r.diagonals_size in search rules

pub copy-requires-2 : goal.copy-requires-2
copy-requires-2 c =
    let planes = c.args.planes in
    let start = c.requires.c_value.0 in
    let r = c.requires.some_samples.holds in
    let p = row_here (frame planes.shape c.requires.some_samples.samples) planes.index c.args.c planes.count planes.diagonals.now planes.verticals.now r start
    (sites_from _ start planes.sites) in
    let e = r.verticals_size in search rules

pub across_row-requires-clause-sized : goal.across_row-requires-clause-sized
across_row-requires-clause-sized c =
    let planes = c.args.planes in
    let start = c.requires.c_value.0 in
    let r = c.requires.some_samples.holds in
    let f = frame planes.shape c.requires.some_samples.samples in
    let sites = sites_from _ start planes.sites in (
      copied_sized f _ _ _ _ _ r start sites diagonal _ _ r.diagonals_held c.copy.ensures,
      copied_sized f _ _ _ _ _ r start sites vertical _ _ r.verticals_held c.copy-2.ensures,
    )

pub returns : goal.returns
returns c =
    let planes = c.args.planes in
    let start = c.requires.c_value.0 in
    record {
      rows = λ zs read. formed (frame planes.shape zs) planes.index c.args.c planes.count _ _ read start (sites_from _ start planes.sites) _ _ _ _ _
          c.copy.ensures
          c.copy-2.ensures
          c.across_row.ensures c.mirror.ensures c.mirror-2.ensures;
    }
