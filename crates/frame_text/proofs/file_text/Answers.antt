-- `frame_text::file_text` meets its contract. Assumes nothing.
use Rattle.std.proofs.Common.{subst, rules, refl}
use Rattle.std.proofs.Math.Nat.{sub-zero}
use Rattle.frame_text.specs.Composes.{ComposesInto}
use Rattle.frame_text.specs.Reads.{few, refusal_printed, frame_printed}
use Rattle.frame_text.proofs.file_text.Goals as goal

pub returns-in_err-shape : goal.returns-in_err-shape
returns-in_err-shape c = search (rules, refusal_printed)

pub overflow_mul-samples : goal.overflow_mul-samples
overflow_mul-samples c = search (rules, few)

pub slice_bounds-samples-end : goal.slice_bounds-samples-end
slice_bounds-samples-end c = search (rules, few)

pub slice_bounds-developed_text-end : goal.slice_bounds-developed_text-end
slice_bounds-developed_text-end c = search (rules, few)

pub developed_text-requires : goal.developed_text-requires
developed_text-requires c = search (rules, few)

pub returns : goal.returns
returns c =
    subst (ComposesInto c.developed_text.result c.developed_text.new.text)
    (simp sub-zero at (frame_printed _ _ refl c.args.tone _ _ c.in_ok-shape.ensures.answered c.in_ok-shape.ensures.samples_left))
    c.developed_text.ensures
