-- Document 01, "The frame file": stored bytes, as docs/FORMAT.md and examples/glaze.bayr have them, and what the
-- programs print of a file. A definition that is wrong for writing and reading alike breaks no law of the round trip;
-- these rows tell it. Definitions alone. Assumes nothing.
use Rattle.std.specs.Prelude.{List, [], ◌∷◌, ◌++◌, ℕ, replicate}
use Rattle.answers.specs.declared.Refusal.TheVariants.{Filler}
use Rattle.frame.specs.Sites.{Frame}
use Rattle.frame_file.specs.FrameFile.{block_count, written_block, written_file}
use Rattle.printing.specs.declared.Tone.TheVariants.{Clamped}
use Rattle.printing.specs.Printing.{refusal_text, printed}
use Rattle.cases.specs.Row.{naturals, Case}
use Rattle.cases.specs.GlazeCases.{small_frame, document_text}

-- W = 1,027 = 4·256 + 3, H = 522 = 2·256 + 10, phase 3, which no two of their bytes share; block 0 reads no sample
abbrev wide_frame : Frame
wide_frame = record { width = 1027; height = 522; phase = 3; samples = [] }

-- W = 2, H = 202: 404 samples, four more than a block has; the last four are K11's
abbrev tall_frame : Frame
tall_frame = record { width = 2; height = 202; phase = 0; samples = replicate 400 0 ++ (1023 ∷ 0 ∷ 1 ∷ 2 ∷ []) }

abbrev pub glaze_header : List ℕ
glaze_header =
    (0 ∷ 0 ∷ 0 ∷ 0 ∷ 66 ∷ 65 ∷ 89 ∷ 82 ∷ 2 ∷ 0 ∷ 2 ∷ 0 ∷ 0 ∷ []) ++ (replicate 495 0 ++ (247 ∷ 7 ∷ 0 ∷ 0 ∷ []))

abbrev pub glaze_block : List ℕ
glaze_block =
    (1 ∷ 0 ∷ 0 ∷ 0 ∷ 25 ∷ 10 ∷ 15 ∷ 50 ∷ 16 ∷ []) ++ (replicate 499 0 ++ (67 ∷ 3 ∷ 0 ∷ 0 ∷ []))

-- the 1,024 bytes of examples/glaze.bayr
abbrev pub glaze_file : List ℕ
glaze_file = glaze_header ++ glaze_block

-- tests/frames/refused_4_long_zeros.bayr
abbrev pub long_file : List ℕ
long_file = replicate 2049 0

unfoldable pub stored_cases : List Case
stored_cases =
    -- block 0, all 512 bytes: the number, BAYR, W, H, phase, filler and the check, 2,239 = 8·256 + 191
    record {
      given = naturals (written_block wide_frame 0);
      told = naturals
          ((0 ∷ 0 ∷ 0 ∷ 0 ∷ 66 ∷ 65 ∷ 89 ∷ 82 ∷ 3 ∷ 4 ∷ 10 ∷ 2 ∷ 3 ∷ []) ++ (replicate 495 0 ++ (191 ∷ 8 ∷ 0 ∷ 0 ∷ [])));
    }
    -- "1 more than W·H/400 rounded up": of 399, 400 and 401 samples
    ∷ record { given = naturals (block_count 399 ∷ block_count 400 ∷ block_count 401 ∷ []); told = naturals (2 ∷ 2 ∷ 3 ∷ []) }
    -- K1's frame, its whole file
    ∷ record { given = naturals (written_file small_frame); told = naturals glaze_file }
    -- block 2 of 404 samples, all 512 bytes: the four samples after the first 400
    ∷ record {
      given = naturals (written_block tall_frame 2);
      told = naturals ((2 ∷ 0 ∷ 0 ∷ 0 ∷ 255 ∷ 0 ∷ 0 ∷ 0 ∷ 147 ∷ []) ++ (replicate 499 0 ++ (40 ∷ 10 ∷ 0 ∷ 0 ∷ [])));
    }
    ∷ []

-- what is printed, with the text that the first program prints of the two files
abbrev pub printed_rows : List ℕ → List ℕ → List Case
printed_rows glaze_printed long_printed =
    -- what is printed of K1's file: row before column, then red, green and blue, which are three numbers
    record { given = naturals glaze_printed; told = naturals document_text }
    -- "a refusal prints `refused`, number, place.": refused 10 2
    ∷ record {
      given = naturals (refusal_text (Filler 2));
      told = naturals (114 ∷ 101 ∷ 102 ∷ 117 ∷ 115 ∷ 101 ∷ 100 ∷ 32 ∷ 49 ∷ 48 ∷ 32 ∷ 50 ∷ 10 ∷ []);
    }
    -- "a longer one prints `refused 4 0`"
    ∷ record {
      given = naturals long_printed;
      told = naturals (114 ∷ 101 ∷ 102 ∷ 117 ∷ 115 ∷ 101 ∷ 100 ∷ 32 ∷ 52 ∷ 32 ∷ 48 ∷ 10 ∷ []);
    }
    ∷ []

unfoldable pub printed_cases : List Case
printed_cases = printed_rows (printed Clamped glaze_file) (printed Clamped long_file)
