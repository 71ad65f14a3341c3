-- Document 00, demand 3, the whole of it, over calls of develop: the list of changes, the constant, the measured sample, the range; what
-- document 02, A1, says of the map, and its A2 of the black level. Each is said at any black level b, the same for both calls; demand 3
-- as document 00 has it is the case b = 0. A call may find anything in the buffers that it is lent. No hypothesis but acceptance, for the
-- constant that it keeps the samples in 0 to 1,023, and for the black level taken off beforehand that no sample lies below it. Assumes
-- nothing.
use Rattle.std.specs.Prelude.{◌≡◌, refl, ◌↔◌, ℕ, ◌+◌, ◌*◌, ◌-◌, ◌<◌, ◌≤◌, ℤ, pos, negsuc, ◌+ℤ◌, ◌-ℤ◌, ◌≤ℤ◌}
use Rattle.std.proofs.Common.{sym, ◌∙◌}
use Rattle.std.proofs.Math.Path.{ap}
use mathlib.Core.List.{List, [], ◌∷◌}
use Rattle.std.proofs.Math.ListN.{get_or}
use Rattle.frame.specs.Sites.{Frame, Colour, red, green, blue, sample, colour, highest_sample, side_allowed, phase_allowed}
use Rattle.answers.specs.Given.{Given, given_at}
use Rattle.answers.specs.Calls.{first_failing, in_order, sides_answer, phase_answer, mosaic_answer, samples_answer, highest_black, black_answer, most_under, under_answer, lengths_fit, lengths_allowed, develop_answer, success, returned, NoneUnder}
use Rattle.method.specs.Green.{decision_map}
use Rattle.method.specs.Planes.{number_at, entry_at}
use Rattle.correspondence.specs.Comparison.{Change, left_right, top_bottom, transposing, trading, changed_by, row_after, column_after, name_after, count_transposes, transposes_oddly, exchanged_code, code_after, brightened, KeepsRange, SumsAreSamples, NoneBelow, number_for, entry_for, given_changed, given_changed_by, given_brightened, given_taken_off}
use Rattle.correspondence.proofs.Acceptance.{accepted_by_any}
use Rattle.correspondence.proofs.Demand3 as method
use Rattle.demands.specs.CallsMade.{AcceptedByDevelop, Developed, number_left, entry_left}
use Rattle.demands.proofs.Acceptance.{accepted_defined, defined_accepted, developed_accepted}
use Rattle.demands.proofs.Demand2.{planes_left, decisions_left}

module _ {given : Given} (call : Developed given) where
  -- the number that a call leaves is the method's
  pub left_is : (c : Colour) (i j : ℕ) → number_left call c i j ≡ number_for given c i j
  unfolding number_at
  left_is c i j =
      ap (λ (l : List ℤ). get_or l (i * given.frame.width + j) (pos 0))
      (planes_left given.frame given.black call.before call.answer call.left call.leaves call.succeeds c)

  -- and so is the map, and its entry
  map_is : call.left.map ≡ decision_map given.frame
  map_is = decisions_left given.frame given.black call.before call.answer call.left call.leaves call.succeeds

  pub entry_is : (i j : ℕ) → entry_left call i j ≡ entry_for given i j
  unfolding entry_at
  entry_is i j = ap (λ (l : List ℕ). get_or l (i * given.frame.width + j) 0) map_is

-- ---- "Take any accepted frame and any list of these four, in any order and number: mirroring left to right, mirroring top to bottom,
-- transposing, trading the names red and blue."

-- "At every point of the first frame the unclamped green that developing gives equals the green at the matching point of the last.
-- Red and blue equal the red and blue there or, where the list trades the names an odd number of times, the blue and red.";
-- "the phase following the colours"; document 02, A1: "Transposing a frame exchanges 2 with 3 and 4 with 5 at matching points; left-right
-- and top-bottom mirroring keep every entry."
pub record Corresponds (gs : List Change) {given : Given} (first : Developed given) (last : Developed (given_changed_by gs given)) (i j : ℕ)
    : Type 0 where
  pub row_inside : row_after gs given.frame i j < (changed_by gs given.frame).height
  pub column_inside : column_after gs given.frame i j < (changed_by gs given.frame).width
  pub same_colour : colour (changed_by gs given.frame).phase (row_after gs given.frame i j) (column_after gs given.frame i j) ≡ name_after gs (colour given.frame.phase i j)
  pub same_green : number_left last green (row_after gs given.frame i j) (column_after gs given.frame i j)
      ≡ number_left first green i j
  pub same_red : number_left last (name_after gs red) (row_after gs given.frame i j) (column_after gs given.frame i j)
      ≡ number_left first red i j
  pub same_blue : number_left last (name_after gs blue) (row_after gs given.frame i j) (column_after gs given.frame i j) ≡ number_left first blue i j
  pub same_decision : entry_left last (row_after gs given.frame i j) (column_after gs given.frame i j)
      ≡ code_after gs (entry_left first i j)

-- "Then the last frame is accepted too.", and every point corresponds; document 02, A2, "compared at the same b"
pub every_list_of_changes : (gs : List Change) (given : Given) → AcceptedByDevelop given
    → AcceptedByDevelop (given_changed_by gs given) ×
    ((first : Developed given) (last : Developed (given_changed_by gs given)) (i j : ℕ) → i < given.frame.height
    → j < given.frame.width
    → Corresponds gs first last i j)
every_list_of_changes gs given accepted =
    let changed = method.every_list_of_changes gs given (accepted_defined given accepted) in (
      defined_accepted (given_changed_by gs given) changed.0,
      λ first last i j hi hj.
          let point = changed.1 i j hi hj in
          record {
            row_inside = point.row_inside;
            column_inside = point.column_inside;
            same_colour = point.same_colour;
            same_green = left_is last _ _ _ ∙ point.same_green ∙ sym (left_is first _ _ _);
            same_red = left_is last _ _ _ ∙ point.same_red ∙ sym (left_is first _ _ _);
            same_blue = left_is last _ _ _ ∙ point.same_blue ∙ sym (left_is first _ _ _);
            same_decision = entry_is last _ _ ∙ point.same_decision ∙ ap (code_after gs) (sym (entry_is first _ _));
          },
    )

-- document 02, A1, of one change: mirroring keeps every entry, and so does trading; transposing exchanges 2 with 3 and 4 with 5
module _ (given : Given) (first : Developed given) (i j : ℕ) (hi : i < given.frame.height) (hj : j < given.frame.width) where
  one_change : (g : Change) (last : Developed (given_changed_by (g ∷ []) given)) → Corresponds (g ∷ []) first last i j
  one_change g last = (every_list_of_changes (g ∷ []) given (developed_accepted given first)).1 first last i j hi hj

  pub left_right_keeps_entries : (last : Developed (given_changed left_right given))
      → entry_left last i (given.frame.width - 1 - j) ≡ entry_left first i j
  unfolding changed_by row_after column_after code_after transposes_oddly count_transposes
  left_right_keeps_entries last = (one_change left_right last).same_decision

  pub top_bottom_keeps_entries : (last : Developed (given_changed top_bottom given))
      → entry_left last (given.frame.height - 1 - i) j ≡ entry_left first i j
  unfolding changed_by row_after column_after code_after transposes_oddly count_transposes
  top_bottom_keeps_entries last = (one_change top_bottom last).same_decision

  pub trading_keeps_entries : (last : Developed (given_changed trading given)) → entry_left last i j
      ≡ entry_left first i j
  unfolding changed_by row_after column_after code_after transposes_oddly count_transposes
  trading_keeps_entries last = (one_change trading last).same_decision

  pub transposing_exchanges_entries : (last : Developed (given_changed transposing given))
      → entry_left last j i ≡ exchanged_code (entry_left first i j)
  unfolding changed_by row_after column_after code_after transposes_oddly count_transposes
  transposing_exchanges_entries last = (one_change transposing last).same_decision

-- ---- "Adding to all samples of an accepted frame a constant that keeps them in 0 to 1,023 adds it to all three numbers at every
-- point."; every entry of the map stays

pub every_constant : (k : ℤ) (given : Given) → AcceptedByDevelop given → KeepsRange k given.frame
    → ((first : Developed given) (last : Developed (given_brightened k given)) (c : Colour) (i j : ℕ)
    → i < given.frame.height → j < given.frame.width
    → number_left last c i j ≡ number_left first c i j +ℤ k) ×
    ((first : Developed given) (last : Developed (given_brightened k given)) (i j : ℕ) → i < given.frame.height
    → j < given.frame.width
    → entry_left last i j ≡ entry_left first i j)
every_constant k given accepted keeps =
    let brighter = method.every_constant k given (accepted_defined given accepted) keeps in (
      λ first last c i j hi hj.
          left_is last c i j ∙ brighter.0 c i j hi hj ∙ ap (λ (z : ℤ). z +ℤ k) (sym (left_is first c i j)),
      λ first last i j hi hj. entry_is last i j ∙ brighter.1 i j hi hj ∙ sym (entry_is first i j),
    )

-- document 02, A2, "a brightened one where both frames are accepted": the sums are samples and the frame of them is accepted, exactly when
-- the constant keeps the samples in 0 to 1,023 and number 12 finds none among the sums
pub brightened_accepted : (k : ℤ) (given : Given) → AcceptedByDevelop given
    → (SumsAreSamples k given.frame × AcceptedByDevelop (given_brightened k given))
    ↔ (KeepsRange k given.frame × NoneUnder (brightened k given.frame) given.black)
brightened_accepted k given accepted =
    let brighter = method.brightened_accepted k given (accepted_defined given accepted) in (
      λ p. brighter.0 (p.0, accepted_defined (given_brightened k given) p.1),
      λ p. let q = brighter.1 p in (q.0, defined_accepted (given_brightened k given) q.1),
    )

-- at black level 0, as document 00 has it, when the constant keeps the samples in 0 to 1,023
pub brightened_accepted_at_zero : (k : ℤ) (f : Frame) → AcceptedByDevelop (given_at f 0) → KeepsRange k f
    → AcceptedByDevelop (given_at (brightened k f) 0)
brightened_accepted_at_zero k f accepted keeps =
    defined_accepted (given_at (brightened k f) 0)
    (method.brightened_accepted_at_zero k f (accepted_defined (given_at f 0) accepted) keeps)

-- ---- "In every accepted frame the sample measured at a point stands unaltered there in its own colour,"; document 02, A2, "The measured
-- colour now shows as sample less b"

pub measured_sample : (given : Given) (call : Developed given) (i j : ℕ) → i < given.frame.height
    → j < given.frame.width
    → number_left call (colour given.frame.phase i j) i j ≡ pos (sample given.frame i j) -ℤ pos given.black
measured_sample given call i j hi hj =
    left_is call _ i j ∙ method.measured_sample given (accepted_defined given (developed_accepted given call)) i j hi hj

-- ---- "and all three numbers lie in −2,046 to 3,069."; document 02, A2, "the range of outputs moves down by b"

pub every_number_in_range : (given : Given) (call : Developed given) (c : Colour) (i j : ℕ) → i < given.frame.height
    → j < given.frame.width
    → ((negsuc 2045 -ℤ pos given.black) ≤ℤ number_left call c i j)
    × (number_left call c i j ≤ℤ (pos 3069 -ℤ pos given.black))
every_number_in_range given call c i j hi hj =
    rw (left_is call c i j)
    (method.every_number_in_range given (accepted_defined given (developed_accepted given call)) c i j hi hj)

-- ---- the black level: document 02, A2

-- "This must equal what the line got by taking b off beforehand, wherever that was possible."
pub taken_off_beforehand : (given : Given) → AcceptedByDevelop given → NoneBelow given.black given.frame
    → AcceptedByDevelop (given_taken_off given) ×
    ((call : Developed given) (line : Developed (given_taken_off given)) (c : Colour) (i j : ℕ)
    → i < given.frame.height → j < given.frame.width
    → number_left call c i j ≡ number_left line c i j) ×
    ((call : Developed given) (line : Developed (given_taken_off given)) (i j : ℕ) → i < given.frame.height
    → j < given.frame.width
    → entry_left call i j ≡ entry_left line i j)
taken_off_beforehand given accepted none =
    let taken = method.taken_off_beforehand given (accepted_defined given accepted) none in (
      defined_accepted (given_taken_off given) taken.0,
      λ call line c i j hi hj. left_is call c i j ∙ sym (taken.1 c i j hi hj) ∙ sym (left_is line c i j),
      λ call line i j hi hj. entry_is call i j ∙ sym (taken.2 i j hi hj) ∙ sym (entry_is line i j),
    )

-- "The map of A1 is the same for every b with which the frame is accepted."
pub same_map : (f : Frame) (b b' : ℕ) (call : Developed (given_at f b)) (other : Developed (given_at f b'))
    → call.left.map ≡ other.left.map
same_map f b b' call other = map_is call ∙ sym (map_is other)

-- ---- the map: document 02, A1

-- "0 measured": at the green sites and at no other
pub entry_zero_exactly_at_green_sites : (given : Given) (call : Developed given) (i j : ℕ) → i < given.frame.height
    → j < given.frame.width
    → (entry_left call i j ≡ 0) ↔ (colour given.frame.phase i j ≡ green)
entry_zero_exactly_at_green_sites given call i j hi hj =
    rw (entry_is call i j)
    (method.entry_zero_exactly_at_green_sites given (accepted_defined given (developed_accepted given call)) i j hi hj)

-- "6 weak resolved to the mean" is the last code
pub every_entry_at_most_six : (given : Given) (call : Developed given) (i j : ℕ) → i < given.frame.height
    → j < given.frame.width → entry_left call i j ≤ 6
every_entry_at_most_six given call i j hi hj =
    rw (entry_is call i j)
    (method.every_entry_at_most_six given (accepted_defined given (developed_accepted given call)) i j hi hj)

-- ---- there are accepted frames: that of K1, W = H = 2, p = 0, samples 100 40 61 200, at black level 0 and above it

abbrev pub K1_frame : Frame
K1_frame = record { width = 2; height = 2; phase = 0; samples = 100 ∷ 40 ∷ 61 ∷ 200 ∷ [] }

K1_accepted_by : (b : ℕ) → returned (develop_answer K1_frame b (record { red = 4; green = 4; blue = 4; map = 4; work = 16 })) ≡ success
    → AcceptedByDevelop (given_at K1_frame b)
K1_accepted_by b e = defined_accepted (given_at K1_frame b) (accepted_by_any (given_at K1_frame b) _ e)

pub K1_accepted : AcceptedByDevelop (given_at K1_frame 0)
unfolding develop_answer in_order sides_answer phase_answer mosaic_answer lengths_allowed lengths_fit side_allowed phase_allowed black_answer highest_black samples_answer highest_sample under_answer most_under first_failing
K1_accepted = K1_accepted_by 0 refl

pub K1_accepted_at_100 : AcceptedByDevelop (given_at K1_frame 100)
unfolding develop_answer in_order sides_answer phase_answer mosaic_answer lengths_allowed lengths_fit side_allowed phase_allowed black_answer highest_black samples_answer highest_sample under_answer most_under first_failing
K1_accepted_at_100 = K1_accepted_by 100 refl
