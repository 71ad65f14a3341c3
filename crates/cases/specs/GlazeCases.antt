-- Document 01, "Glaze cases": K1 to K12, and the text of K1's frame, clamped and through the curve. Definitions alone. Assumes nothing.
use Rattle.std.specs.Prelude.{List, [], ◌∷◌, ◌++◌, ℕ, pos, negsuc}
use Rattle.cases.specs.Row.{site, takes, numbers, naturals, Case}
use Rattle.frame.specs.Sites.{Frame, red, green, blue}
use Rattle.method.specs.Settings.{threshold}
use Rattle.method.specs.Gradients.{FourDirections, mosaic, gradients_at}
use Rattle.method.specs.Green.{horizontal, diagonal, strong_down, weak, outcome, first_pass_or}
use Rattle.method.specs.Planes.{weighted_mean, final_round, plane}
use Rattle.frame_file.specs.Lists.{zeros}
use Rattle.frame_file.specs.FrameFile as File
use Rattle.printing.specs.declared.Tone.TheVariants.{Clamped, Curved}
use Rattle.printing.specs.Printing.{frame_text}

abbrev four : {X : Type 0} → X → X → X → X → FourDirections X
four e w s n = record { east = e; west = w; south = s; north = n }

-- "the frame above": W = H = 2, p = 0, samples 100 40 61 200
abbrev pub small_frame : Frame
small_frame = record { width = 2; height = 2; phase = 0; samples = 100 ∷ 40 ∷ 61 ∷ 200 ∷ [] }

-- "8 rows of 0 0 0 0 800 800 800 800"
abbrev edge_row : List ℕ
edge_row = 0 ∷ 0 ∷ 0 ∷ 0 ∷ 800 ∷ 800 ∷ 800 ∷ 800 ∷ []

abbrev pub edge_frame : Frame
edge_frame = record {
  width = 8;
  height = 8;
  phase = 0;
  samples = edge_row ++ edge_row ++ edge_row ++ edge_row ++ edge_row ++ edge_row ++ edge_row ++ edge_row;
}

-- "row col red green blue"
abbrev heading_line : List ℕ
heading_line =
    (114 ∷ 111 ∷ 119 ∷ 32 ∷ 99 ∷ 111 ∷ 108 ∷ 32 ∷ 114 ∷ 101 ∷ 100 ∷ 32 ∷ 103 ∷ 114 ∷ 101 ∷ 101 ∷ 110 ∷ 32 ∷ 98 ∷ 108 ∷ 117 ∷ 101 ∷ 10 ∷ [])

-- the five lines that document 01 prints of the small frame
abbrev pub document_text : List ℕ
document_text =
    heading_line
    ++ (48 ∷ 32 ∷ 48 ∷ 32 ∷ 49 ∷ 48 ∷ 48 ∷ 32 ∷ 53 ∷ 49 ∷ 32 ∷ 50 ∷ 48 ∷ 48 ∷ 10 ∷ [])
    ++ (48 ∷ 32 ∷ 49 ∷ 32 ∷ 57 ∷ 48 ∷ 32 ∷ 52 ∷ 48 ∷ 32 ∷ 49 ∷ 57 ∷ 48 ∷ 10 ∷ [])
    ++ (49 ∷ 32 ∷ 48 ∷ 32 ∷ 49 ∷ 49 ∷ 49 ∷ 32 ∷ 54 ∷ 49 ∷ 32 ∷ 50 ∷ 49 ∷ 49 ∷ 10 ∷ [])
    ++ (49 ∷ 32 ∷ 49 ∷ 32 ∷ 49 ∷ 48 ∷ 48 ∷ 32 ∷ 53 ∷ 49 ∷ 32 ∷ 50 ∷ 48 ∷ 48 ∷ 10 ∷ [])

-- document 02, A4: the same lines, each number through the curve
abbrev curve_text : List ℕ
curve_text =
    heading_line
    ++ (48 ∷ 32 ∷ 48 ∷ 32 ∷ 51 ∷ 50 ∷ 48 ∷ 32 ∷ 50 ∷ 50 ∷ 56 ∷ 32 ∷ 52 ∷ 53 ∷ 50 ∷ 10 ∷ [])
    ++ (48 ∷ 32 ∷ 49 ∷ 32 ∷ 51 ∷ 48 ∷ 51 ∷ 32 ∷ 50 ∷ 48 ∷ 50 ∷ 32 ∷ 52 ∷ 52 ∷ 49 ∷ 10 ∷ [])
    ++ (49 ∷ 32 ∷ 48 ∷ 32 ∷ 51 ∷ 51 ∷ 55 ∷ 32 ∷ 50 ∷ 53 ∷ 48 ∷ 32 ∷ 52 ∷ 54 ∷ 53 ∷ 10 ∷ [])
    ++ (49 ∷ 32 ∷ 49 ∷ 32 ∷ 51 ∷ 50 ∷ 48 ∷ 32 ∷ 50 ∷ 50 ∷ 56 ∷ 32 ∷ 52 ∷ 53 ∷ 50 ∷ 10 ∷ [])

unfoldable pub glaze_cases : List Case
glaze_cases =
    -- K1: the frame above, its red, green and blue planes
    record {
      given = numbers (plane small_frame 0 red ++ plane small_frame 0 green ++ plane small_frame 0 blue);
      told = naturals (100 ∷ 90 ∷ 111 ∷ 100 ∷ 51 ∷ 40 ∷ 61 ∷ 51 ∷ 200 ∷ 190 ∷ 211 ∷ 200 ∷ []);
    }
    -- K2: h,v = 17,10 weak
    ∷ record { given = site (outcome threshold 17 10) ∷ []; told = site weak ∷ [] }
    -- K3: 18,10 strong, down
    ∷ record { given = site (outcome threshold 18 10) ∷ []; told = site strong_down ∷ [] }
    -- K4: 7,0 strong
    ∷ record { given = site (outcome threshold 7 0) ∷ []; told = site strong_down ∷ [] }
    -- K5: 0,0 takes gD
    ∷ record { given = takes (first_pass_or (outcome threshold 0 0) horizontal) ∷ []; told = takes diagonal ∷ [] }
    -- K6: gradients 0,5,0,5 with values 8,100,3,100 give 6
    ∷ record { given = numbers (weighted_mean (four (pos 8) (pos 100) (pos 3) (pos 100)) (four 0 5 0 5) ∷ []); told = naturals (6 ∷ []) }
    -- K7: with −8 and −3 for 8 and 3, −5
    ∷ record {
      given = numbers (weighted_mean (four (negsuc 7) (pos 100) (negsuc 2) (pos 100)) (four 0 5 0 5) ∷ []);
      told = numbers (negsuc 4 ∷ []);
    }
    -- K8: gradients 1,2,4,4 with 4,0,0,0 give 2
    ∷ record { given = numbers (weighted_mean (four (pos 4) (pos 0) (pos 0) (pos 0)) (four 1 2 4 4) ∷ []); told = naturals (2 ∷ []) }
    -- K9: quarters −2, −6, 2 give 0, −1, 1
    ∷ record {
      given = numbers (final_round (negsuc 1) ∷ final_round (negsuc 5) ∷ final_round (pos 2) ∷ []);
      told = numbers (pos 0 ∷ negsuc 0 ∷ pos 1 ∷ []);
    }
    -- K10: E(0,0), E(0,2), E(0,3) are 3,200, 9,600, 9,600
    ∷ record {
      given = naturals
          ((gradients_at (mosaic edge_frame) 0 0).east ∷ (gradients_at (mosaic edge_frame) 0 2).east ∷ (gradients_at
          (mosaic edge_frame) 0 3).east ∷ []);
      told = naturals (3200 ∷ 9600 ∷ 9600 ∷ []);
    }
    -- K11: samples 1023 0 1 2 pack to 255 0 0 0 147
    ∷ record { given = naturals (File.packed (1023 ∷ 0 ∷ 1 ∷ 2 ∷ [])); told = naturals (255 ∷ 0 ∷ 0 ∷ 0 ∷ 147 ∷ []) }
    -- K12: a block 1 with only byte 4 more, 255, has check 1,276
    ∷ record { given = naturals (File.check (File.little_endian_bytes 4 1 ++ (255 ∷ zeros 503)) ∷ []); told = naturals (1276 ∷ []) }
    -- what the program prints of the frame of K1
    ∷ record { given = naturals (frame_text Clamped small_frame); told = naturals document_text }
    -- and the second program
    ∷ record { given = naturals (frame_text Curved small_frame); told = naturals curve_text }
    ∷ []
