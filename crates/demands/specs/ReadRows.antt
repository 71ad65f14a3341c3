-- Document 01, the table "returned: number, place", for read: its tests in order, each with its condition. Definitions alone. Assumes nothing.
use Rattle.std.specs.Prelude.{◌≡◌, List, [], ◌∷◌, get_or}
use Prim.Native.Nat.{ℕ, zero, suc, ◌+◌, ◌*◌, ◌-◌, ◌%◌, ◌<◌, ◌≤◌}
use Rattle.std.proofs.Math.ListN.{length}
use Rattle.frame_file.specs.Lists.{part}
use Rattle.frame_file.specs.FrameFile.{sample_count, block, block_number, check, stored_check, tag, header_filler, payload, block_filler, block_count, file_length, unpacked_payload, stored_frame}
use Rattle.demands.specs.Rows.{row, Test, unless, SidesAllowed}

-- ---- the conditions; W, H and the phase are those of the header

-- "6: length below 512, no multiple of 512"
pub record LengthAllowed (file : List ℕ) : Type 0 where
  pub one_block : 512 ≤ length file
  pub whole_blocks : length file % 512 ≡ 0

-- "7, block: check differs"
abbrev pub CheckHolds : List ℕ → ℕ → Type 0
CheckHolds file n = stored_check (block file n) ≡ check (block file n)

-- "9, block: block number differs"
abbrev pub NumberHolds : List ℕ → ℕ → Type 0
NumberHolds file n = block_number (block file n) ≡ n

-- "8: tag, W, H or phase not allowed"; "Block 0: bytes 4..7 are BAYR in ASCII"
pub record HeaderAllowed (file : List ℕ) : Type 0 where
  pub tagged : part (block file 0) 4 4 ≡ tag
  pub sides : SidesAllowed (stored_frame file)
  pub phase : (stored_frame file).phase ≤ 3

abbrev pub AllZero : List ℕ → Type 0
AllZero l = (k : ℕ) → k < length l → get_or l k 0 ≡ 0

-- "10, block: a filler byte or sample is not zero", of block 0 ("13..507 filler")
abbrev pub HeaderFillerZero : List ℕ → Type 0
HeaderFillerZero file = AllZero (header_filler (block file 0))

-- "6: or not the header's count of blocks"
abbrev pub CountHolds : List ℕ → Type 0
CountHolds file = length file ≡ file_length (stored_frame file)

-- "Read needs W·H entries or more"
abbrev pub RoomHolds : List ℕ → ℕ → Type 0
RoomHolds file room = sample_count (stored_frame file) ≤ room

-- 10 of a later block: "504..507 filler; 400 samples each, the last one filled with zero samples"; sample k of block n is sample
-- 400·(n − 1) + k of the frame
pub record FillerZero (file : List ℕ) (n : ℕ) : Type 0 where
  pub bytes : AllZero (block_filler (block file n))
  pub samples : (k : ℕ) → k < 400 → sample_count (stored_frame file) ≤ 400 * (n - 1) + k
      → get_or (unpacked_payload (payload file n)) k 0 ≡ 0

-- ---- the tests of read

-- blocks n, n + 1, .., so many of them, "each for 7, 9, 10."
unfoldable pub block_tests : List ℕ → ℕ → ℕ → List Test
block_tests file n zero = []
block_tests file n (suc left) =
    unless (CheckHolds file n) (row 7 n)
    ∷ unless (NumberHolds file n) (row 9 n)
    ∷ unless (FillerZero file n) (row 10 n)
    ∷ block_tests file (suc n) left

-- "Read tests length, then block 0 for 7, 9, 8, 10, then the count (6), then 4, then blocks 1, 2, .. each for 7, 9, 10."
unfoldable pub read_tests : List ℕ → ℕ → List Test
read_tests file room =
    unless (LengthAllowed file) (row 6 0)
    ∷ unless (CheckHolds file 0) (row 7 0)
    ∷ unless (NumberHolds file 0) (row 9 0)
    ∷ unless (HeaderAllowed file) (row 8 0)
    ∷ unless (HeaderFillerZero file) (row 10 0)
    ∷ unless (CountHolds file) (row 6 0)
    ∷ unless (RoomHolds file room) (row 4 0)
    ∷ block_tests file 1 (block_count (sample_count (stored_frame file)) - 1)
