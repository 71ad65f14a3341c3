-- `frame_text::give_tone` meets its contract. Assumes nothing.
use Rattle.std.proofs.Common.{refl, ◌∙◌, rules}
use Rattle.frame_text.specs.Composing.{clamp_allowed}
use Rattle.frame_text.proofs.give_tone.Goals as goal

pub unwrap-requires : goal.unwrap-requires
unwrap-requires c = rw (c.clamp.ensures.answered ∙ clamp_allowed _ _ (search rules)) refl
