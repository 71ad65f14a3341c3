-- Document 01, the table "returned: number, place", as the tests of each call in order, those of document 02 among them: a row is that of a
-- test which the tests before it let through. `ReadRows` has the tests of read. Definitions alone. Assumes nothing.
use Rattle.std.specs.Prelude.{◌≡◌, List, [], ◌∷◌, ℕ, ◌+◌, ◌*◌, ◌<◌, ◌≤◌, ℤ, pos, length, get_or}
use Rattle.frame.specs.Sites.{Frame}
use Rattle.answers.specs.Calls.{Returned, success, Clamped}

abbrev pub row : ℕ → ℕ → Returned
row number place = record { number = number; place = place }

-- ---- tests in order

-- which rows a test gives, each with its condition, and what holds where it gives none
pub record Test : Type 1 where
  pub Refuses : Returned → Type 0
  pub Passes : Type 0

-- the row of the first test that gives one; 0, 0 where none does
pub data RowOf : List Test → Returned → Type 1 where
  refused_here : {t : Test} {rest : List Test} {r : Returned} → t.Refuses r → RowOf (t ∷ rest) r
  later : {t : Test} {rest : List Test} {r : Returned} → t.Passes → RowOf rest r → RowOf (t ∷ rest) r
  done : RowOf [] success

-- one row, where P does not hold
abbrev pub unless : Type 0 → Returned → Test
unless P r = record { Refuses = λ q. (q ≡ r) × ¬ P; Passes = P }

-- the row of the first entry that does not meet P, with its position; d stands for one past the end
pub record FirstNot {A : Type 0} (d : A) (P : A → Type 0) (l : List A) (number : ℕ) (r : Returned) : Type 0 where
  pub position : ℕ
  pub inside : position < length l
  pub is_not : ¬ P (get_or l position d)
  pub before : (m : ℕ) → m < position → P (get_or l m d)
  pub returned_is : r ≡ row number position

abbrev pub each : {A : Type 0} → A → (A → Type 0) → List A → ℕ → Test
each d P l number = record { Refuses = FirstNot d P l number; Passes = (k : ℕ) → k < length l → P (get_or l k d) }

-- ---- the tests of develop, write, clamp and curve; `Allowed` says that the other lent buffers have the lengths that they must have

pub record SidesAllowed (f : Frame) : Type 0 where
  pub width_low : 2 ≤ f.width
  pub width_high : f.width ≤ 4096
  pub height_low : 2 ≤ f.height
  pub height_high : f.height ≤ 4096

-- document 02, A2: "11 (place 0) for b above 255, tested after 2; 12 (first position) for a sample more than 64 under b, tested after 5"
unfoldable pub develop_tests : Frame → ℕ → Type 0 → List Test
develop_tests f b Allowed =
    unless (SidesAllowed f) (row 1 0)
    ∷ unless (f.phase ≤ 3) (row 2 0)
    ∷ unless (b ≤ 255) (row 11 0)
    ∷ unless (length f.samples ≡ f.height * f.width) (row 3 0)
    ∷ unless Allowed (row 4 0)
    ∷ each 0 (λ z. z ≤ 1023) f.samples 5
    ∷ each 0 (λ z. b ≤ z + 64) f.samples 12
    ∷ []

-- "The order is 1 to 5."; `FileFits` says that the lent file has the file's length
unfoldable pub write_tests : Frame → Type 0 → List Test
write_tests f FileFits =
    unless (SidesAllowed f) (row 1 0)
    ∷ unless (f.phase ≤ 3) (row 2 0)
    ∷ unless (length f.samples ≡ f.height * f.width) (row 3 0)
    ∷ unless FileFits (row 4 0)
    ∷ each 0 (λ z. z ≤ 1023) f.samples 5
    ∷ []

unfoldable pub clamp_tests : Type 0 → List Test
clamp_tests Allowed = unless Allowed (row 4 0) ∷ []

-- document 02, A4, "13 (first position) for a number in the plane below 0 or above 1,023, tested after 4."
unfoldable pub curve_tests : List ℤ → Type 0 → List Test
curve_tests numbers Allowed = unless Allowed (row 4 0) ∷ each (pos 0) Clamped numbers 13 ∷ []
