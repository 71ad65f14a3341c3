-- Document 02, A2: what develop returns at a black level, and in which order it tests; the frames are K1's and ones near it.
-- Definitions alone. Assumes nothing.
use Rattle.std.specs.Prelude.{List, [], ◌∷◌, ℕ}
use Rattle.frame.specs.Sites.{Frame}
use Rattle.answers.specs.Calls.{Returned, returned, develop_answer}
use Rattle.answers.specs.declared.Lengths.{Lengths}
use Rattle.cases.specs.Row.{Value, naturals, Case}
use Rattle.cases.specs.GlazeCases.{small_frame}

-- W = H = 2, with this phase and these samples
abbrev small : ℕ → List ℕ → Frame
small phase samples = record { width = 2; height = 2; phase = phase; samples = samples }

-- planes and map of n entries, and a work buffer of 16
abbrev lent : ℕ → Lengths
lent n = record { red = n; green = n; blue = n; map = n; work = 16 }

-- number and place
abbrev answered : Frame → ℕ → Lengths → List Value
answered f b l = let r : Returned = returned (develop_answer f b l) in naturals (r.number ∷ r.place ∷ [])

unfoldable pub answer_cases : List Case
answer_cases =
    -- samples 100 40 61 200: 40 is 64 under 104, which is not refused
    record { given = answered small_frame 104 (lent 4); told = naturals (0 ∷ 0 ∷ []) }
    -- and 65 under 105: 12 with its position
    ∷ record { given = answered small_frame 105 (lent 4); told = naturals (12 ∷ 1 ∷ []) }
    -- 40 and 61 are both more than 64 under 126: the first position
    ∷ record { given = answered small_frame 126 (lent 4); told = naturals (12 ∷ 1 ∷ []) }
    -- 255 is the highest black level
    ∷ record { given = answered small_frame 255 (lent 4); told = naturals (12 ∷ 0 ∷ []) }
    -- above it: 11
    ∷ record { given = answered small_frame 256 (lent 4); told = naturals (11 ∷ 0 ∷ []) }
    -- 2 goes before 11
    ∷ record { given = answered (small 4 (100 ∷ 40 ∷ 61 ∷ 200 ∷ [])) 256 (lent 4); told = naturals (2 ∷ 0 ∷ []) }
    -- 11 goes before 3
    ∷ record { given = answered (small 0 (100 ∷ 40 ∷ 61 ∷ [])) 256 (lent 4); told = naturals (11 ∷ 0 ∷ []) }
    -- 3 goes before 12
    ∷ record { given = answered (small 0 (100 ∷ 40 ∷ 61 ∷ [])) 255 (lent 4); told = naturals (3 ∷ 0 ∷ []) }
    -- 4 goes before 12
    ∷ record { given = answered small_frame 255 (lent 3); told = naturals (4 ∷ 0 ∷ []) }
    -- the first sample lies 200 under b and the last is above 1,023: every sample is tested for 5 before the first is refused by 12
    ∷ record { given = answered (small 0 (0 ∷ 40 ∷ 61 ∷ 1024 ∷ [])) 200 (lent 4); told = naturals (5 ∷ 3 ∷ []) }
    ∷ []
