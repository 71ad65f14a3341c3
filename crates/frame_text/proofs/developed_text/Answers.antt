-- `frame_text::developed_text` meets its contract. Assumes nothing.
use Rattle.std.proofs.Common.{◌∙◌, rules, ◌*◌}
use Rattle.frame.specs.Sites.{frame}
use Rattle.frame_text.specs.Buffers.{PlanesLent}
use Rattle.frame_text.specs.PlanesText.{toned_clamped}
use Rattle.frame_text.specs.Developed.{Left, wide, same_lengths, done_text}
use Rattle.frame_text.proofs.developed_text.Goals as goal

pub invariant_of-planes : goal.invariant_of-planes
invariant_of-planes c =
    let left : Left (frame c.args.shape c.args.mosaic.now) _ _ _ = record { leaves = c.develop.ensures; done = c.in_ok-develop.was } in
    let same = same_lengths left c.args.tone in
    record {
      wide = wide left;
      greens = rw (c.give_tone.ensures, c.give_tone-2.ensures) same.0;
      blues = rw (c.give_tone.ensures, c.give_tone-3.ensures) same.1;
    }

pub planes_text-requires-clause-clamped_numbers : goal.planes_text-requires-clause-clamped_numbers
planes_text-requires-clause-clamped_numbers c = (
  rw c.give_tone.ensures (toned_clamped c.args.tone _),
  rw c.give_tone-2.ensures (toned_clamped c.args.tone _),
  rw c.give_tone-3.ensures (toned_clamped c.args.tone _),
)

pub returns : goal.returns
returns c =
    let left : Left (frame c.args.shape c.args.mosaic.now) _ _ _ = record { leaves = c.develop.ensures; done = c.in_ok-develop.was } in
    let lent : PlanesLent (c.args.shape.height * c.args.shape.width) _ _ _ _ _ = record {
      red_size = search rules;
      green_size = search rules;
      blue_size = search rules;
      map_size = search rules;
      work_size = search rules;
    } in
    c.planes_text.ensures
    ∙ rw (c.give_tone.ensures, c.give_tone-2.ensures, c.give_tone-3.ensures)
    (done_text c.args.tone c.args.shape c.args.mosaic.now lent left)
