-- Whole planes and decision maps: of K10's frame, whose planes document 01 tells, and of a larger frame rich in weak sites, whose planes
-- and map are as the independent implementation in tests/reference develops it; and K1's planes at a black level above 0. Definitions
-- alone. Assumes nothing.
use Rattle.std.specs.Prelude.{List, [], ◌∷◌, ◌++◌, ℕ, ℤ, pos, neg_ℤ}
use Rattle.frame.specs.Sites.{Frame, Colour, red, green, blue}
use Rattle.method.specs.Green.{decision_map}
use Rattle.method.specs.Planes.{plane}
use Rattle.cases.specs.Row.{numbers, naturals, Case}
use Rattle.cases.specs.GlazeCases.{small_frame, edge_frame}

-- 6 by 6, GBRG. Of the 18 red and blue sites 13 are weak: the second pass takes gH at four, gV at four and gD at five, three of these
-- for equal sums; one site is equal, one strong across, three strong down. Some numbers lie below 0 and some above 1,023.
abbrev pub larger_frame : Frame
larger_frame = record {
  width = 6;
  height = 6;
  phase = 2;
  samples =
      (140 ∷ 1023 ∷ 1023 ∷ 0 ∷ 600 ∷ 900 ∷ [])
      ++ (0 ∷ 1023 ∷ 1000 ∷ 0 ∷ 300 ∷ 0 ∷ [])
      ++ (1023 ∷ 0 ∷ 1023 ∷ 1023 ∷ 1023 ∷ 0 ∷ [])
      ++ (220 ∷ 0 ∷ 1023 ∷ 0 ∷ 100 ∷ 500 ∷ [])
      ++ (0 ∷ 0 ∷ 0 ∷ 0 ∷ 0 ∷ 1023 ∷ [])
      ++ (0 ∷ 0 ∷ 800 ∷ 0 ∷ 1023 ∷ 0 ∷ []);
}

-- two rows of K10's map
abbrev edge_entries : List ℕ
edge_entries = (3 ∷ 0 ∷ 3 ∷ 0 ∷ 3 ∷ 0 ∷ 3 ∷ 0 ∷ []) ++ (0 ∷ 3 ∷ 0 ∷ 3 ∷ 0 ∷ 3 ∷ 0 ∷ 3 ∷ [])

abbrev minus : ℕ → ℤ
minus n = neg_ℤ (pos n)

-- the rows, with the planes formed by `planes` and the maps by `maps`
abbrev pub rows_by : (Frame → ℕ → Colour → List ℤ) → (Frame → List ℕ) → List Case
rows_by planes maps =
    -- "Develop on K10 gives three planes equal to the mosaic"
    record {
      given = numbers (planes edge_frame 0 red ++ planes edge_frame 0 green ++ planes edge_frame 0 blue);
      told = naturals (edge_frame.samples ++ edge_frame.samples ++ edge_frame.samples);
    }
    -- the larger frame, red
    ∷ record {
      given = numbers (planes larger_frame 0 red);
      told = numbers
          ((minus 276 ∷ pos 1108 ∷ pos 1029 ∷ minus 16 ∷ pos 568 ∷ pos 705 ∷ [])
          ++ (pos 0 ∷ pos 769 ∷ pos 1000 ∷ pos 5 ∷ pos 300 ∷ minus 26 ∷ [])
          ++ (pos 809 ∷ pos 136 ∷ pos 1064 ∷ pos 1044 ∷ pos 1060 ∷ minus 132 ∷ [])
          ++ (pos 220 ∷ pos 107 ∷ pos 1023 ∷ pos 230 ∷ pos 100 ∷ pos 670 ∷ [])
          ++ (pos 213 ∷ pos 256 ∷ pos 427 ∷ pos 318 ∷ pos 526 ∷ pos 1130 ∷ [])
          ++ (pos 0 ∷ pos 289 ∷ pos 800 ∷ pos 641 ∷ pos 1023 ∷ pos 711 ∷ []));
    }
    -- the larger frame, green
    ∷ record {
      given = numbers (planes larger_frame 0 green);
      told = numbers
          ((pos 140 ∷ pos 1371 ∷ pos 1023 ∷ minus 5 ∷ pos 600 ∷ pos 743 ∷ [])
          ++ (pos 464 ∷ pos 1023 ∷ pos 972 ∷ pos 0 ∷ pos 338 ∷ pos 0 ∷ [])
          ++ (pos 1023 ∷ pos 235 ∷ pos 1023 ∷ pos 966 ∷ pos 1023 ∷ minus 167 ∷ [])
          ++ (pos 245 ∷ pos 0 ∷ pos 775 ∷ pos 0 ∷ minus 32 ∷ pos 500 ∷ [])
          ++ (pos 0 ∷ minus 9 ∷ pos 0 ∷ minus 191 ∷ pos 0 ∷ pos 625 ∷ [])
          ++ (minus 173 ∷ pos 0 ∷ pos 156 ∷ pos 0 ∷ pos 247 ∷ pos 0 ∷ []));
    }
    -- the larger frame, blue
    ∷ record {
      given = numbers (planes larger_frame 0 blue);
      told = numbers
          ((minus 168 ∷ pos 1023 ∷ pos 926 ∷ pos 0 ∷ pos 703 ∷ pos 900 ∷ [])
          ++ (pos 169 ∷ pos 698 ∷ pos 877 ∷ pos 39 ∷ pos 445 ∷ pos 130 ∷ [])
          ++ (pos 787 ∷ pos 0 ∷ pos 944 ∷ pos 1023 ∷ pos 1147 ∷ pos 0 ∷ [])
          ++ (pos 127 ∷ minus 76 ∷ pos 758 ∷ pos 82 ∷ pos 163 ∷ pos 724 ∷ [])
          ++ (pos 1 ∷ pos 0 ∷ pos 64 ∷ pos 0 ∷ pos 302 ∷ pos 1023 ∷ [])
          ++ (minus 164 ∷ pos 25 ∷ pos 257 ∷ pos 202 ∷ pos 551 ∷ pos 327 ∷ []));
    }
    -- K10, its map: every red or blue site is strong, down
    ∷ record {
      given = naturals (maps edge_frame);
      told = naturals (edge_entries ++ edge_entries ++ edge_entries ++ edge_entries);
    }
    -- the larger frame, its map: each code from 0 to 6
    ∷ record {
      given = naturals (maps larger_frame);
      told = naturals
          ((0 ∷ 3 ∷ 0 ∷ 6 ∷ 0 ∷ 1 ∷ [])
          ++ (3 ∷ 0 ∷ 3 ∷ 0 ∷ 6 ∷ 0 ∷ [])
          ++ (0 ∷ 5 ∷ 0 ∷ 6 ∷ 0 ∷ 5 ∷ [])
          ++ (5 ∷ 0 ∷ 4 ∷ 0 ∷ 6 ∷ 0 ∷ [])
          ++ (0 ∷ 6 ∷ 0 ∷ 4 ∷ 0 ∷ 5 ∷ [])
          ++ (4 ∷ 0 ∷ 4 ∷ 0 ∷ 2 ∷ 0 ∷ []));
    }
    -- document 02, A2, "takes b off each of the three rounded numbers": K1 at b = 100, the measured numbers less 100 as the others
    ∷ record {
      given = numbers (planes small_frame 100 red ++ planes small_frame 100 green ++ planes small_frame 100 blue);
      told = numbers
          ((pos 0 ∷ minus 10 ∷ pos 11 ∷ pos 0 ∷ [])
          ++ (minus 49 ∷ minus 60 ∷ minus 39 ∷ minus 49 ∷ [])
          ++ (pos 100 ∷ pos 90 ∷ pos 111 ∷ pos 100 ∷ []));
    }
    ∷ []

unfoldable pub frame_cases : List Case
frame_cases = rows_by plane decision_map
