-- The quantities that the buffers hold, site by site and as a record keeps them. Definitions alone. Assumes nothing.
use Rattle.std.specs.Prelude.{cond, ℕ, ◌+◌, ◌*◌, ◌-◌, ltb, ℤ, pos}
use Rattle.frame.specs.Sites.{Frame, Colour}
use Rattle.frame.specs.Colours.{trade}
use Rattle.method.specs.Gradients.{mosaic, gradients_at}
use Rattle.method.specs.Green.{Direction, horizontal, Outcome, outcome_at, trial_difference, decision_code, decided, decision_entry}
use Rattle.method.specs.Planes.{green_difference, final_difference, chroma_site_difference, output, less_black}
use Rattle.positions.specs.HalfRows.{chroma_start, chroma_count, in_halves}
use Rattle.records.specs.Layout.{south_part}

-- W, S and N at every site; E(i,j) is W(i,j + 2)
unfoldable pub wests : Frame → ℕ → ℕ → ℤ
wests f i j = pos (gradients_at (mosaic f) i j).west

unfoldable pub souths : Frame → ℕ → ℕ → ℤ
souths f i j = pos (gradients_at (mosaic f) i j).south

unfoldable pub norths : Frame → ℕ → ℕ → ℤ
norths f i j = pos (gradients_at (mosaic f) i j).north

-- entry k of E as a record keeps it, from two columns west on: E(i,j − 2) is W(i,j). One entry more than sites in each half
unfoldable pub east_entry : Frame → ℕ → ℕ → ℤ
east_entry f i k =
    cond (ltb k (chroma_count f i + 1)) (wests f i (chroma_start f.phase i + 2 * k))
    (wests f i (1 - chroma_start f.phase i + 2 * (k - (chroma_count f i + 1))))

-- E, and S behind it
unfoldable pub gradient_entry : Frame → ℕ → ℕ → ℤ
gradient_entry f i k = cond (ltb k (south_part f.width)) (east_entry f i k) (in_halves f (souths f) i (k - south_part f.width))

-- the code of an outcome of the first pass: at a weak site that of one resolved across, until the second pass resolves it
abbrev pub first_code : Outcome → ℕ
first_code o = decision_code (decided o horizontal)

unfoldable pub first_codes : Frame → ℕ → ℕ → ℕ
first_codes f i j = first_code (outcome_at (mosaic f) i j)

-- r_k, D, and the final difference of the red and blue sites
unfoldable pub trials : Frame → Direction → ℕ → ℕ → ℤ
trials f k = trial_difference (mosaic f) k

unfoldable pub greens : Frame → ℕ → ℕ → ℤ
greens f = green_difference (mosaic f)

unfoldable pub finals : Frame → ℕ → ℕ → ℤ
finals f = final_difference (mosaic f)

-- green minus the colour of red and blue that a red or blue site does not measure
unfoldable pub others : Frame → ℕ → ℕ → ℤ
others f i j = chroma_site_difference (mosaic f) (trade ((mosaic f).colour_at i j)) i j

-- the three numbers at black level b
unfoldable pub outputs : Frame → ℕ → Colour → ℕ → ℕ → ℤ
outputs f b c i j = less_black b (output (mosaic f) c i j)

-- the entries of the map
unfoldable pub decisions : Frame → ℕ → ℕ → ℕ
decisions f = decision_entry (mosaic f)
