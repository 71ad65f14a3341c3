-- `frame_text::lines` meets its contract. Assumes nothing.
use Rattle.std.proofs.Common.{arith, ap, length, add-one, append_assoc, length-append}
use Rattle.std.proofs.lemmas.List.{append-nil}
use Rattle.frame_file.specs.Lists.{joined}
use Rattle.frame_text.specs.PlanesText.{planes_line}
use Rattle.frame_text.specs.Room.{joined_longer}
use Rattle.frame_text.proofs.lines.Goals as goal

pub loop-k-init : goal.loop-k-init
unfolding joined
loop-k-init c = rw append-nil

pub site_line-requires : goal.site_line-requires
unfolding planes_line
site_line-requires c =
    let line = planes_line c.args.planes.width c.args.planes.red.now c.args.planes.green.now c.args.planes.blue.now in
    rw (c.clamped_entry.ensures, c.clamped_entry-in-loop-k.ensures, c.clamped_entry-in-loop-k-2.ensures)
    (omega (arith, simp length-append at (ap length c.loop-k.invariant), joined_longer _ _ line c.loop-k-test.true, c.requires))

pub loop-k-preserved : goal.loop-k-preserved
unfolding joined planes_line
loop-k-preserved c =
    rw (c.site_line.ensures, c.clamped_entry.ensures, c.clamped_entry-in-loop-k.ensures, c.clamped_entry-in-loop-k-2.ensures, c.loop-k.invariant, add-one, append_assoc)
