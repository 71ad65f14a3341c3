-- A text, or the refusal of which it is the text. Assumes nothing.
use Rattle.std.specs.Prelude.{◌≡◌, List, [], ℕ, Result, Ok, Err}
use Rattle.arrayvec.specs.ArrayString.{ArrayString}
use Rattle.answers.specs.declared.Refusal.{Refusal}
use Rattle.answers.specs.Calls.{Answer}
use Rattle.printing.specs.Printing.{refusal_text}

abbrev pub Composes : Result ArrayString Refusal → List ℕ → Type 0
Composes (Ok text) whole = text.bytes ≡ whole
Composes (Err why) whole = refusal_text why ≡ whole

-- the same of a text that was empty: it holds all, or it is as it was
abbrev pub ComposesInto : Answer → ArrayString → List ℕ → Type 0
ComposesInto (Ok _) text whole = Composes (Ok text) whole
ComposesInto (Err why) text whole = (text.bytes ≡ []) × Composes (Err why) whole
