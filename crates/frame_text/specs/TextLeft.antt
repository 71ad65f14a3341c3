-- A lent buffer of bytes into which the text of a file is put: one of 25,623 bytes or more then begins with all that is printed of the file,
-- and r is the length of that; a shorter one stays as it was, and r is 0. Assumes nothing.
use Rattle.std.specs.Prelude.{◌≡◌, refl, List, ℕ, ◌<◌, ◌≤◌, length, take}
use Rattle.std.proofs.Common.{arith}
use Rattle.printing.specs.declared.Tone.{Tone}
use Rattle.printing.specs.Printing.{printed}
use Rattle.text.specs.Put.{Put, put_as, put_front, front_inside}
use Rattle.frame_text.specs.Room.{text_room}

pub record TextLeft (tone : Tone) (file old new : List ℕ) (r : ℕ) : Type 0 where
  pub composed : text_room ≤ length old → Put old 0 (printed tone file) new r
  pub unchanged : length old < text_room → (new ≡ old) × (r ≡ 0)
  pub inside : r ≤ length new

pub text_short : (tone : Tone) (file old : List ℕ) → length old < text_room → TextLeft tone file old old 0
text_short tone file old h = record { composed = λ l. absurd (omega arith); unchanged = λ l. (refl, refl); inside = omega arith }

pub text_put : {tone : Tone} {file old new piece : List ℕ} {r : ℕ} → text_room ≤ length old → piece ≡ printed tone file → Put old 0 piece new r
    → TextLeft tone file old new r
text_put h e p = record { composed = λ l. put_as e p; unchanged = λ l. absurd (omega arith); inside = front_inside p }

-- the first r bytes of the buffer are what is printed
pub begins_with_printed : {tone : Tone} {file old new : List ℕ} {r : ℕ} → TextLeft tone file old new r → text_room ≤ length old
    → take r new ≡ printed tone file
begins_with_printed left h = put_front (left.composed h)
