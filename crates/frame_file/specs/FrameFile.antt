-- Document 01, "The frame file", and what read and write answer ("Calls and returns"). Definitions alone; their laws stand in the
-- other modules of this crate. A byte is a natural number below 256, a file a list of them. Assumes nothing.
use Rattle.std.specs.Prelude.{Bool, ◌&&◌, List, [], ◌∷◌, ◌++◌, ℕ, zero, suc, ◌+◌, ◌*◌, ◌-◌, ◌/◌, ◌%◌, leb, eqb, length, get_or, take, drop, Result, Err, Ok}
use Rattle.frame.specs.declared.Shape.{Shape}
use Rattle.answers.specs.declared.Refusal.{Refusal}
use Rattle.answers.specs.declared.Refusal.TheVariants.{BufferLength, FileLength, Check, Header, BlockNumber, Filler}
use Rattle.frame.specs.Sites.{Frame, frame, side_allowed, phase_allowed}
use Rattle.answers.specs.Calls.{test, and_then, in_order, sides_answer, phase_answer, mosaic_answer, samples_answer, after, Answer, ReadAnswer}
use Rattle.frame_file.specs.Lists.{part, joined, zeros, all_zero, same_list}

-- W, H and the phase of a frame
abbrev pub shape_of : Frame → Shape
shape_of f = record { width = f.width; height = f.height; phase = f.phase }

-- W·H
abbrev pub sample_count : Frame → ℕ
sample_count f = f.height * f.width

-- ---- the frame file

-- "Blocks of 512 bytes."
abbrev pub block_size : ℕ
block_size = 512

-- block n of a file
unfoldable pub block : List ℕ → ℕ → List ℕ
block file n = part file (block_size * n) block_size

-- "little-endian": the number that bytes stand for, and a number as n bytes
unfoldable pub little_endian : List ℕ → ℕ
little_endian [] = 0
little_endian (b ∷ l) = b + 256 * little_endian l

unfoldable pub little_endian_bytes : ℕ → ℕ → List ℕ
little_endian_bytes zero v = []
little_endian_bytes (suc n) v = (v % 256) ∷ little_endian_bytes n (v / 256)

-- "Bytes 0..3: block number, little-endian, from 0."
unfoldable pub block_number : List ℕ → ℕ
block_number b = little_endian (part b 0 4)

-- "the sum of (k+1) times byte k for k = 0..507": the same of the first n values of f
unfoldable pub position_weighted_sum : (ℕ → ℕ) → ℕ → ℕ
position_weighted_sum f zero = 0
position_weighted_sum f (suc k) = position_weighted_sum f k + (k + 1) * f k

unfoldable pub check : List ℕ → ℕ
check b = position_weighted_sum (λ k. get_or b k 0) 508

-- "Bytes 508..511: check, little-endian, the sum of (k+1) times byte k for k = 0..507."
unfoldable pub stored_check : List ℕ → ℕ
stored_check b = little_endian (part b 508 4)

-- "Block 0: bytes 4..7 are BAYR in ASCII,"
unfoldable pub tag : List ℕ
tag = 66 ∷ 65 ∷ 89 ∷ 82 ∷ []

unfoldable pub has_tag : List ℕ → Bool
has_tag b = same_list (part b 4 4) tag

-- "8..9 W, 10..11 H (little-endian), 12 phase,"
unfoldable pub header : List ℕ → Shape
header b = record { width = little_endian (part b 8 2); height = little_endian (part b 10 2); phase = get_or b 12 0 }

-- "13..507 filler."
unfoldable pub header_filler : List ℕ → List ℕ
header_filler b = part b 13 495

-- "Later blocks: bytes 4..503 payload,"; "The payload of a block is handed back as a part of the file, not copied."
abbrev pub payload_size : ℕ
payload_size = 500

unfoldable pub payload : List ℕ → ℕ → List ℕ
payload file n = part file (block_size * n + 4) payload_size

-- "504..507 filler;"
unfoldable pub block_filler : List ℕ → List ℕ
block_filler b = part b 504 4

-- "400 samples each, the last one filled with zero samples,"
abbrev pub samples_per_block : ℕ
samples_per_block = 400

unfoldable pub filled_up : List ℕ → List ℕ
filled_up samples = samples ++ zeros (samples_per_block - length samples)

-- the samples of block n, from 1, out of those of the frame
unfoldable pub block_samples : List ℕ → ℕ → List ℕ
block_samples samples n = filled_up (part samples (samples_per_block * (n - 1)) samples_per_block)

-- "so the count of blocks is 1 more than W·H/400 rounded up.", for W·H samples
unfoldable pub block_count : ℕ → ℕ
block_count samples = 1 + (samples + (samples_per_block - 1)) / samples_per_block

unfoldable pub file_length : Frame → ℕ
file_length f = block_size * block_count (sample_count f)

-- "RAW10 packing (MIPI CSI-2): four samples in five bytes, four bytes of high eight bits, then one with the low two bits, first
-- sample lowest."
unfoldable pub packed : List ℕ → List ℕ
packed s =
    (get_or s 0 0 / 4) ∷ (get_or s 1 0 / 4) ∷ (get_or s 2 0 / 4) ∷ (get_or s 3 0 / 4)
    ∷ (get_or s 0 0 % 4 + 4 * (get_or s 1 0 % 4) + 16 * (get_or s 2 0 % 4) + 64 * (get_or s 3 0 % 4)) ∷ []

unfoldable pub unpacked : List ℕ → List ℕ
unpacked b =
    (4 * get_or b 0 0 + get_or b 4 0 % 4) ∷ (4 * get_or b 1 0 + get_or b 4 0 / 4 % 4) ∷ (4 * get_or b 2 0 + get_or b 4 0 / 16 % 4)
    ∷ (4 * get_or b 3 0 + get_or b 4 0 / 64 % 4) ∷ []

-- a payload is 100 such groups
abbrev pub groups_per_block : ℕ
groups_per_block = 100

unfoldable pub packed_payload : List ℕ → List ℕ
packed_payload samples = joined groups_per_block (λ g. packed (part samples (4 * g) 4))

unfoldable pub unpacked_payload : List ℕ → List ℕ
unpacked_payload bytes = joined groups_per_block (λ g. unpacked (part bytes (5 * g) 5))

-- ---- the file that write makes of a frame

-- the first 508 bytes of a block, and then their check
unfoldable pub with_check : List ℕ → List ℕ
with_check l = l ++ little_endian_bytes 4 (check l)

-- block 0 before its check
unfoldable pub header_bytes : Shape → List ℕ
header_bytes shape =
    little_endian_bytes 4 0 ++
    (tag ++ (little_endian_bytes 2 shape.width ++ (little_endian_bytes 2 shape.height ++ (shape.phase ∷ zeros 495))))

-- block n, from 1, with its samples, before its check
unfoldable pub sample_bytes : ℕ → List ℕ → List ℕ
sample_bytes n samples = little_endian_bytes 4 n ++ (packed_payload samples ++ zeros 4)

-- "The writer composes in a block that starts as 512 zero bytes.": what it does not fill is the zeros of the filler
unfoldable pub written_block : Frame → ℕ → List ℕ
written_block f zero = with_check (header_bytes (shape_of f))
written_block f (suc n) = with_check (sample_bytes (suc n) (block_samples f.samples (suc n)))

unfoldable pub written_file : Frame → List ℕ
written_file f = joined (block_count (sample_count f)) (written_block f)

-- "Write needs exactly the file's length."; "The order is 1 to 5."; it takes no black level
unfoldable pub write_answer : Frame → ℕ → Answer
write_answer f lent_length =
    in_order (
    sides_answer f
    ∷ phase_answer f
    ∷ mosaic_answer f
    ∷ test (eqb lent_length (file_length f)) BufferLength
    ∷ samples_answer f.samples
    ∷ []
    )

-- "Every refusal leaves every buffer untouched.": what the lent file holds after write
unfoldable pub file_after_write : Frame → List ℕ → List ℕ
file_after_write f before = after (write_answer f (length before)) (written_file f) before

-- ---- reading a file

-- the first so many samples of a file's payloads
unfoldable pub stored_samples : List ℕ → ℕ → List ℕ
stored_samples file samples = take samples (joined (block_count samples - 1) (λ i. unpacked_payload (payload file (suc i))))

-- the frame that a file's header and payloads hold
unfoldable pub stored_frame : List ℕ → Frame
stored_frame file =
    let shape : Shape = header (block file 0) in
    frame shape (stored_samples file (shape.height * shape.width))

-- what read finds: a frame, or why there is none
abbrev pub Reading : Type 0
Reading = Result Frame Refusal

-- "6: length below 512, no multiple of 512"
unfoldable pub length_allowed : ℕ → Bool
length_allowed n = leb block_size n && eqb (n % block_size) 0

-- "7: check differs", "9: block number differs"
unfoldable pub check_holds : List ℕ → Bool
check_holds b = eqb (stored_check b) (check b)

unfoldable pub number_holds : List ℕ → ℕ → Bool
number_holds b n = eqb (block_number b) n

-- "8: tag, W, H or phase not allowed"
unfoldable pub header_allowed : List ℕ → Bool
header_allowed b =
    has_tag b && (side_allowed (header b).width && (side_allowed (header b).height && phase_allowed (header b).phase))

-- "10: a filler byte or sample is not zero": of block n, from 1, in the file of a frame of so many samples
unfoldable pub filler_holds : List ℕ → ℕ → ℕ → Bool
filler_holds file samples n =
    all_zero (block_filler (block file n)) && all_zero (drop (samples - samples_per_block * (n - 1)) (unpacked_payload (payload file n)))

-- "then blocks 1, 2, .. each for 7, 9, 10.": the tests of blocks n, n + 1, .., so many of them, in the file of a frame of so many samples
unfoldable pub block_tests : List ℕ → ℕ → ℕ → ℕ → List Answer
block_tests file samples n zero = []
block_tests file samples n (suc left) =
    test (check_holds (block file n)) (Check n)
    ∷ test (number_holds (block file n) n) (BlockNumber n)
    ∷ test (filler_holds file samples n) (Filler n)
    ∷ block_tests file samples (suc n) left

-- "Read tests length, then block 0 for 7, 9, 8, 10, then the count (6), then 4, then blocks 1, 2, .. each for 7, 9, 10."; "Read needs
-- W·H entries or more": `room` is how many it is lent
unfoldable pub read_tests : List ℕ → ℕ → List Answer
read_tests file room =
    let f : Frame = stored_frame file in
    test (length_allowed (length file)) FileLength
    ∷ test (check_holds (block file 0)) (Check 0)
    ∷ test (number_holds (block file 0) 0) (BlockNumber 0)
    ∷ test (header_allowed (block file 0)) Header
    ∷ test (all_zero (header_filler (block file 0))) (Filler 0)
    ∷ test (eqb (length file) (file_length f)) FileLength
    ∷ test (leb (sample_count f) room) BufferLength
    ∷ block_tests file (sample_count f) 1 (block_count (sample_count f) - 1)

unfoldable pub reading : List ℕ → ℕ → Reading
reading file room = and_then (in_order (read_tests file room)) (Ok (stored_frame file))

-- "Success returns 0, 0, and read adds W, H and the phase; a refusal returns its number and place alone."
abbrev pub answer_of : Reading → ReadAnswer
answer_of (Ok f) = Ok (shape_of f)
answer_of (Err why) = Err why

unfoldable pub read_answer : List ℕ → ℕ → ReadAnswer
read_answer file room = answer_of (reading file room)

-- "Read needs W·H entries or more, and those past W·H stay."; "Every refusal leaves every buffer untouched."
abbrev pub samples_of : Reading → List ℕ → List ℕ
samples_of (Ok f) before = f.samples ++ drop (sample_count f) before
samples_of (Err why) before = before

-- what the lent samples hold after read
unfoldable pub samples_after_read : List ℕ → List ℕ → List ℕ
samples_after_read file before = samples_of (reading file (length before)) before
