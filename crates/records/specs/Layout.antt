-- The record of a row, 4·W entries of work: where its parts start. Definitions alone. Assumes nothing.
--
--   0 .. W + 1            E from two columns west on: of the red and blue half, then of the green half
--   W + 2 .. 2·W + 1      S: of the red and blue half, then of the green half
--   2·W + 2 ..            the final difference, red and blue sites
--   then (W + 1)/2 on     the difference of the other colour, red and blue sites
use Rattle.std.specs.Prelude.{ℕ, ◌+◌, ◌*◌, ◌/◌}

abbrev pub record_size : ℕ → ℕ
record_size W = 4 * W

-- E and S together
abbrev pub gradient_size : ℕ → ℕ
gradient_size W = 2 * W + 2

abbrev pub south_part : ℕ → ℕ
south_part W = W + 2

abbrev pub final_part : ℕ → ℕ
final_part W = 2 * W + 2

abbrev pub other_part : ℕ → ℕ
other_part W = 2 * W + 2 + (W + 1) / 2

-- the rows of N that no record holds, those of rows 0 and 1, stand this far apart
abbrev pub top_size : ℕ
top_size = 4112
