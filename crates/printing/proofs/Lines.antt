-- Lines in figures, as the programs print them: of a site whose row, column and three numbers all differ, and of a
-- refusal with a place. Assumes nothing.
use Rattle.std.specs.Prelude.{◌≡◌, refl, [], ◌∷◌, ◌++◌}
use Rattle.answers.specs.declared.Refusal.TheVariants.{Filler}
use Rattle.frame.specs.Sites.{Frame, red, green, blue}
use Rattle.printing.specs.declared.Tone.{Tone}
use Rattle.printing.specs.Printing.{digits, decimal, numbers_line, refused_word, refusal_text, toned_at, site_text}

-- "it prints row, column and colours": 4 17 90 400 1023
pub site_line : (tone : Tone) (f : Frame) → toned_at tone f red 4 17 ≡ 90 → toned_at tone f green 4 17 ≡ 400 → toned_at tone f blue 4 17 ≡ 1023
    → site_text tone f 4 17
    ≡ (52 ∷ 32 ∷ 49 ∷ 55 ∷ 32 ∷ [])
    ++ ((57 ∷ 48 ∷ 32 ∷ []) ++ ((52 ∷ 48 ∷ 48 ∷ 32 ∷ []) ++ (49 ∷ 48 ∷ 50 ∷ 51 ∷ 10 ∷ [])))
unfolding site_text numbers_line decimal digits
site_line tone f r g b = rw (r, g, b) refl

-- "a refusal prints `refused`, number, place.": refused 10 2
pub refusal_line : refusal_text (Filler 2) ≡ (114 ∷ 101 ∷ 102 ∷ 117 ∷ 115 ∷ 101 ∷ 100 ∷ 32 ∷ []) ++ (49 ∷ 48 ∷ 32 ∷ 50 ∷ 10 ∷ [])
unfolding refusal_text refused_word numbers_line decimal digits
refusal_line = refl
