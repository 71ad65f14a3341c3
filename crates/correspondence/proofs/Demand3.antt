-- Demand 3, the whole of it: the list of changes, the constant, the measured sample, the range; what document 02's A1 says of the map, and
-- its A2 of the black level. Each is said at any black level b; demand 3 as document 00 has it is the case b = 0. Each is said of what
-- develop's contract promises, with no hypothesis but acceptance and, for the constant, that it keeps the samples in 0 to 1,023. Assumes
-- nothing.
use Rattle.std.specs.Prelude.{◌≡◌, ◌↔◌, List, ℕ, ◌<◌, ◌≤◌, ℤ, pos, negsuc, ◌+ℤ◌, ◌-ℤ◌, ◌≤ℤ◌}
use Rattle.std.proofs.Common.{arith}
use Rattle.toolkit.specs.Raster.{getD_raster}
use Rattle.frame.specs.Sites.{Frame, Colour, red, green, blue, sample, highest_sample, colour}
use Rattle.answers.specs.Given.{Given, given_at}
use Rattle.answers.specs.Calls.{Admitted, NoneUnder, AdmittedAt}
use Rattle.frame.proofs.Sites.{side_low}
use Rattle.answers.proofs.Admission.{sample_high}
use Rattle.method.specs.Gradients.{mosaic}
use Rattle.method.specs.Green.{outcome_at, second_pass_at, chroma_decision_at, decision_at, decision_entry}
use Rattle.method.specs.Planes.{output, less_black, plane, number_at}
use Rattle.correspondence.specs.Comparison.{Accepted, Change, changed_by, row_after, column_after, name_after, code_after, brightened, KeepsRange, SumsAreSamples, NoneBelow, number_for, entry_for, given_changed_by, number_after, entry_after, given_brightened, given_taken_off}
use Rattle.method.proofs.ColourLaws.{same_self}
use Rattle.method.proofs.DecisionLaws.{code_most, zero_at_green}
use Rattle.correspondence.proofs.Acceptance.{accepted_admitted, admitted_accepted}
use Rattle.method.proofs.PlaneLaws.{entry_is_code}
use Rattle.correspondence.proofs.ChangeLists.{green_keeps_name, list_admitted, list_inside, list_colour, list_number, list_entry}
use Rattle.correspondence.proofs.FrameBrightness.{sums_are_samples, brightened_admitted, number_brightened, entry_brightened}
use Rattle.correspondence.proofs.BlackLevel.{sums_keep_range, number_ranged, taken_off_admitted, number_taken_off, entry_taken_off}

-- ---- "Take any accepted frame and any list of these four, in any order and number"

-- "At every point of the first frame the unclamped green that developing gives equals the green at the matching point of the last.
-- Red and blue equal the red and blue there or, where the list trades the names an odd number of times, the blue and red."
-- A1: "Transposing a frame exchanges 2 with 3 and 4 with 5 at matching points; left-right and top-bottom mirroring keep every entry."
pub record Corresponds (gs : List Change) (given : Given) (i j : ℕ) : Type 0 where
  pub row_inside : row_after gs given.frame i j < (changed_by gs given.frame).height
  pub column_inside : column_after gs given.frame i j < (changed_by gs given.frame).width
  pub same_colour : colour (changed_by gs given.frame).phase (row_after gs given.frame i j) (column_after gs given.frame i j)
      ≡ name_after gs (colour given.frame.phase i j)
  pub same_green : number_after gs given green i j ≡ number_for given green i j
  pub same_red : number_after gs given (name_after gs red) i j ≡ number_for given red i j
  pub same_blue : number_after gs given (name_after gs blue) i j ≡ number_for given blue i j
  pub same_decision : entry_after gs given i j ≡ code_after gs (entry_for given i j)

-- "Then the last frame is accepted too.", and every point corresponds
pub every_list_of_changes : (gs : List Change) (given : Given) → Accepted given
    → Accepted (given_changed_by gs given)
    × ((i j : ℕ) → i < given.frame.height → j < given.frame.width → Corresponds gs given i j)
every_list_of_changes gs given accepted =
    (admitted_accepted (given_changed_by gs given) (list_admitted gs given (accepted_admitted given accepted)), point)
  where
    a : Admitted given.frame
    a = (accepted_admitted given accepted).admitted

    point : (i j : ℕ) → i < given.frame.height → j < given.frame.width → Corresponds gs given i j
    point i j hi hj = record {
      row_inside = (list_inside gs given.frame i j hi hj).0;
      column_inside = (list_inside gs given.frame i j hi hj).1;
      same_colour = list_colour gs given.frame a i j hi hj;
      same_green = rw (green_keeps_name gs) at (list_number gs given a green i j hi hj);
      same_red = list_number gs given a red i j hi hj;
      same_blue = list_number gs given a blue i j hi hj;
      same_decision = list_entry gs given.frame a i j hi hj;
    }

-- "Adding to all samples of an accepted frame a constant that keeps them in 0 to 1,023 adds it to all three numbers at every point.";
-- every entry of the map stays
pub every_constant : (k : ℤ) (given : Given) → Accepted given → KeepsRange k given.frame
    → ((c : Colour) (i j : ℕ) → i < given.frame.height → j < given.frame.width
    → number_for (given_brightened k given) c i j ≡ number_for given c i j +ℤ k) ×
    ((i j : ℕ) → i < given.frame.height → j < given.frame.width → entry_for (given_brightened k given) i j
    ≡ entry_for given i j)
every_constant k given accepted keeps =
    let a =
    (accepted_admitted given accepted).admitted in (number_brightened k given a keeps, entry_brightened k given.frame a keeps)

-- document 02, A2, "a brightened one where both frames are accepted": the sums are samples and the frame of them is accepted, exactly when
-- the constant keeps the samples in 0 to 1,023 and number 12 finds none among the sums
pub brightened_accepted : (k : ℤ) (given : Given) → Accepted given
    → (SumsAreSamples k given.frame × Accepted (given_brightened k given))
    ↔ (KeepsRange k given.frame × NoneUnder (brightened k given.frame) given.black)
brightened_accepted k given accepted = (
  λ p. let a =
      accepted_admitted (given_brightened k given) p.1 in (sums_keep_range k given.frame a.admitted p.0, a.none_under),
  λ p. (sums_are_samples k given.frame a p.0, admitted_accepted (given_brightened k given) (brightened_at p.0 p.1)),
)
  where
    a : Admitted given.frame
    a = (accepted_admitted given accepted).admitted

    brightened_at : KeepsRange k given.frame → NoneUnder (brightened k given.frame) given.black
        → AdmittedAt (given_brightened k given)
    brightened_at keeps none = record {
      admitted = brightened_admitted k given.frame a keeps;
      black_low = (accepted_admitted given accepted).black_low;
      none_under = none;
    }

-- at black level 0, where number 12 finds none, it is accepted when the constant keeps the samples in 0 to 1,023
pub brightened_accepted_at_zero : (k : ℤ) (f : Frame) → Accepted (given_at f 0) → KeepsRange k f
    → Accepted (given_at (brightened k f) 0)
brightened_accepted_at_zero k f accepted keeps =
    ((brightened_accepted k (given_at f 0) accepted).1 (keeps, λ n h. omega arith)).1

-- "In every accepted frame the sample measured at a point stands unaltered there in its own colour,"; document 02, A2, "The measured colour
-- now shows as sample less b"
pub measured_sample : (given : Given) → Accepted given → (i j : ℕ) → i < given.frame.height → j < given.frame.width
    → number_for given (colour given.frame.phase i j) i j ≡ pos (sample given.frame i j) -ℤ pos given.black
unfolding number_at plane mosaic output less_black
measured_sample given accepted i j hi hj =
    rw (getD_raster given.frame.height given.frame.width _ i j (pos 0) hi hj, same_self (colour given.frame.phase i j))

-- "and all three numbers lie in −2,046 to 3,069."; document 02, A2, "the range of outputs moves down by b"
pub every_number_in_range : (given : Given) → Accepted given → (c : Colour) (i j : ℕ) → i < given.frame.height
    → j < given.frame.width
    → ((negsuc 2045 -ℤ pos given.black) ≤ℤ number_for given c i j)
    × (number_for given c i j ≤ℤ (pos 3069 -ℤ pos given.black))
unfolding highest_sample
every_number_in_range given accepted =
    let a = (accepted_admitted given accepted).admitted in
    number_ranged given.frame (side_low a.height_allowed) (side_low a.width_allowed) (sample_high given.frame a) given.black

-- ---- the black level: document 02, A2

-- "This must equal what the line got by taking b off beforehand, wherever that was possible.": the numbers at b are those at 0 of the frame
-- that had b taken off its samples, and so are the entries
pub taken_off_beforehand : (given : Given) → Accepted given → NoneBelow given.black given.frame
    → Accepted (given_taken_off given) ×
    ((c : Colour) (i j : ℕ) → i < given.frame.height → j < given.frame.width
    → number_for (given_taken_off given) c i j ≡ number_for given c i j) ×
    ((i j : ℕ) → i < given.frame.height → j < given.frame.width → entry_for (given_taken_off given) i j
    ≡ entry_for given i j)
taken_off_beforehand given accepted none =
    let a = (accepted_admitted given accepted).admitted in (
      admitted_accepted (given_taken_off given) (taken_off_admitted given a none),
      number_taken_off given a none,
      entry_taken_off given a none,
    )

-- ---- the map: document 02, A1

-- "0 measured": at the green sites and at no other
pub entry_zero_exactly_at_green_sites : (given : Given) → Accepted given → (i j : ℕ) → i < given.frame.height
    → j < given.frame.width
    → (entry_for given i j ≡ 0) ↔ (colour given.frame.phase i j ≡ green)
unfolding mosaic decision_entry decision_at chroma_decision_at
entry_zero_exactly_at_green_sites given accepted i j hi hj =
    rw (entry_is_code given.frame i j hi hj)
    (zero_at_green (colour given.frame.phase i j) (outcome_at (mosaic given.frame) i j) (second_pass_at (mosaic given.frame) i j))

-- "6 weak resolved to the mean" is the last code
pub every_entry_at_most_six : (given : Given) → Accepted given → (i j : ℕ) → i < given.frame.height
    → j < given.frame.width → entry_for given i j ≤ 6
unfolding decision_entry
every_entry_at_most_six given accepted i j hi hj =
    rw (entry_is_code given.frame i j hi hj) (code_most (decision_at (mosaic given.frame) i j))
