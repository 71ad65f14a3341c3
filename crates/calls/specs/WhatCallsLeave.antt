-- What each published call answers and leaves, from what it is lent: one record for each call, which is the whole
-- contract of the call. Definitions alone. Assumes nothing.
use Rattle.std.specs.Prelude.{◌≡◌, List, ℕ, ℤ, length}
use Rattle.frame.specs.Sites.{Frame, highest_sample, red, green, blue}
use Rattle.answers.specs.Calls.{develop_answer, clamp_answer, clamped, curve_answer, after, Answer, ReadAnswer}
use Rattle.method.specs.Green.{decision_map}
use Rattle.method.specs.Planes.{plane}
use Rattle.tone_curve.specs.ToneCurve.{curved}
use Rattle.frame_file.specs.Lists.{Below}
use Rattle.frame_file.specs.FrameFile.{read_answer, samples_after_read, write_answer, file_after_write}
use Rattle.calls.specs.Buffers.{Buffers, lengths_of, KeptOnRefusal}

-- develop, lent the frame f and given the black level b, answers and leaves the buffers so
pub record DevelopLeaves (f : Frame) (b : ℕ) (before : Buffers) (answer : Answer) (left : Buffers) : Type 0 where
  pub answered : answer ≡ develop_answer f b (lengths_of before)
  pub red_left : left.red_plane ≡ after answer (plane f b red) before.red_plane
  pub green_left : left.green_plane ≡ after answer (plane f b green) before.green_plane
  pub blue_left : left.blue_plane ≡ after answer (plane f b blue) before.blue_plane
  pub map_left : left.map ≡ after answer (decision_map f) before.map
  pub work_left : KeptOnRefusal answer before.work left.work

-- clamp, lent a plane of numbers and one to fill, answers and leaves the latter so
pub record ClampLeaves (numbers before : List ℤ) (answer : Answer) (left : List ℤ) : Type 0 where
  pub answered : answer ≡ clamp_answer (length numbers) (length before)
  pub plane_left : left ≡ after answer (clamped highest_sample numbers) before

-- curve, lent a plane of numbers and one to fill, answers and leaves the latter so
pub record CurveLeaves (numbers before : List ℤ) (answer : Answer) (left : List ℤ) : Type 0 where
  pub answered : answer ≡ curve_answer numbers (length before)
  pub plane_left : left ≡ after answer (curved numbers) before

-- read, lent a file and room for samples, answers and leaves the room so
pub record ReadLeaves (file before : List ℕ) (answer : ReadAnswer) (left : List ℕ) : Type 0 where
  pub answered : answer ≡ read_answer file (length before)
  pub samples_left : left ≡ samples_after_read file before

-- a call of read: its file is lent as bytes, and it answers and leaves the room so
pub record ReadCalled (file before : List ℕ) (answer : ReadAnswer) (left : List ℕ) : Type 0 where
  pub bytes : Below 256 file
  pub leaves : ReadLeaves file before answer left

-- write, lent a frame and room for its file, answers and leaves the room so
pub record WriteLeaves (f : Frame) (before : List ℕ) (answer : Answer) (left : List ℕ) : Type 0 where
  pub answered : answer ≡ write_answer f (length before)
  pub file_left : left ≡ file_after_write f before
