-- `frame_text::planes_text` meets its contract. Assumes nothing.
use Rattle.std.proofs.Common.{◌∙◌, arith, length-append}
use Rattle.printing.specs.Printing.{heading}
use Rattle.frame_text.specs.PlanesText.{text_of_planes}
use Rattle.frame_text.specs.Room.{planes_text_fits}
use Rattle.frame_text.proofs.planes_text.Goals as goal

pub lines-requires : goal.lines-requires
unfolding text_of_planes heading
lines-requires c =
    let clamped = c.requires.clamped_numbers in
    rw (c.push_str.ensures.bytes, c.requires.empty)
    (let fits = planes_text_fits c.args.planes.width _ _ _ clamped.0 clamped.1 clamped.2 c.requires.red_len_bound in
    omega (arith, simp length-append at fits))

pub returns : goal.returns
unfolding text_of_planes heading
returns c = c.lines.ensures ∙ rw (c.push_str.ensures.bytes, c.requires.empty)
