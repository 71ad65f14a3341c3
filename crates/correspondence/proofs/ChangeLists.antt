-- Any list of changes: the last frame is admitted, and its points have the colours, the numbers and the decisions of the first. Assumes
-- nothing.
use Rattle.std.specs.Prelude.{◌≡◌, Bool, true, false, cond, not, List, [], ◌∷◌, ℕ, ◌+◌, ◌%◌, ◌<◌, eqb}
use Rattle.std.proofs.Math.Path.{refl}
use Rattle.std.proofs.Common.{sym, ◌∙◌, ap, arith}
use Rattle.toolkit.specs.Tests.{by_test, eqb_eq, eqb_ne}
use Rattle.frame.specs.Sites.{Frame, Colour, green, colour}
use Rattle.frame.specs.Colours.{trade}
use Rattle.frame.proofs.Colours.{trade_twice}
use Rattle.answers.specs.Given.{Given}
use Rattle.answers.specs.Calls.{Admitted, AdmittedAt}
use Rattle.method.specs.Planes.{entry_at}
use Rattle.correspondence.specs.Comparison.{Change, left_right, top_bottom, transposing, trading, changed, changed_by, row_after, column_after, count_trades, trades_oddly, name_after, count_transposes, transposes_oddly, exchanged_code, code_after, number_for, number_after, given_changed, given_changed_by}
use Rattle.correspondence.proofs.Decisions.{act_code, exchanged_twice}
use Rattle.correspondence.proofs.MosaicChanges.{act_colour}
use Rattle.correspondence.proofs.FrameChanges.{changed_admitted, changed_admitted_at, point_inside, point_colour, point_number, point_entry}

-- one more is odd when it was not
odd_next : (n : ℕ) → eqb ((n + 1) % 2) 1 ≡ not (eqb (n % 2) 1)
odd_next n = by_test (eqb (n % 2) 1) _
    (λ t. let q : n % 2 ≡ 1 = eqb_eq _ _ t in let e : (n + 1) % 2 ≡ 0 = omega arith in rw (t, e))
    (λ t. let q : ¬ (n % 2 ≡ 1) = eqb_ne t in let e : (n + 1) % 2 ≡ 1 = omega arith in rw (t, e))

cond_trade : (b : Bool) (c : Colour) → cond (not b) (trade c) c ≡ cond b (trade (trade c)) (trade c)
cond_trade true c = sym (trade_twice c)
cond_trade false c = refl

-- the name after a list, by its first change
name_step : (g : Change) (gs : List Change) (c : Colour) → name_after (g ∷ gs) c ≡ name_after gs (act_colour g c)
unfolding name_after trades_oddly count_trades
name_step left_right gs c = refl
name_step top_bottom gs c = refl
name_step transposing gs c = refl
name_step trading gs c = rw (odd_next (count_trades gs)) (cond_trade (eqb (count_trades gs % 2) 1) c)

cond_exchange : (b : Bool) (n : ℕ) → cond (not b) (exchanged_code n) n ≡ cond b (exchanged_code (exchanged_code n)) (exchanged_code n)
cond_exchange true n = sym (exchanged_twice n)
cond_exchange false n = refl

-- an entry after a list, by its first change
code_step : (g : Change) (gs : List Change) (n : ℕ) → code_after (g ∷ gs) n ≡ code_after gs (act_code g n)
unfolding code_after transposes_oddly count_transposes
code_step left_right gs n = refl
code_step top_bottom gs n = refl
code_step transposing gs n = rw (odd_next (count_transposes gs)) (cond_exchange (eqb (count_transposes gs % 2) 1) n)
code_step trading gs n = refl

pub green_keeps_name : (gs : List Change) → name_after gs green ≡ green
unfolding name_after
green_keeps_name gs = by_test (trades_oddly gs) _ (λ t. rw t) (λ t. rw t)

pub list_admitted : (gs : List Change) (given : Given) → AdmittedAt given → AdmittedAt (given_changed_by gs given)
unfolding changed_by
list_admitted [] given a = a
list_admitted (g ∷ gs) given a = list_admitted gs (given_changed g given) (changed_admitted_at given a g)

pub list_inside : (gs : List Change) (f : Frame) (i j : ℕ) → i < f.height → j < f.width
    → (row_after gs f i j < (changed_by gs f).height) × (column_after gs f i j < (changed_by gs f).width)
unfolding changed_by row_after column_after
list_inside [] f i j hi hj = (hi, hj)
list_inside (g ∷ gs) f i j hi hj = let p = point_inside g f i j hi hj in list_inside gs (changed g f) _ _ p.0 p.1

pub list_colour : (gs : List Change) (f : Frame) → Admitted f → (i j : ℕ) → i < f.height → j < f.width
    → colour (changed_by gs f).phase (row_after gs f i j) (column_after gs f i j) ≡ name_after gs (colour f.phase i j)
unfolding changed_by row_after column_after
list_colour [] f a i j hi hj = unfold name_after trades_oddly count_trades in refl
list_colour (g ∷ gs) f a i j hi hj =
    let p = point_inside g f i j hi hj in
    list_colour gs (changed g f) (changed_admitted f a g) _ _ p.0 p.1
    ∙ (ap (name_after gs) (point_colour g f i j hi hj a) ∙ sym (name_step g gs (colour f.phase i j)))

pub list_number : (gs : List Change) (given : Given) → Admitted given.frame
    → (c : Colour) (i j : ℕ) → i < given.frame.height → j < given.frame.width
    → number_after gs given (name_after gs c) i j ≡ number_for given c i j
unfolding changed_by row_after column_after
list_number [] given a c i j hi hj = unfold name_after trades_oddly count_trades in refl
list_number (g ∷ gs) given a c i j hi hj =
    let p = point_inside g given.frame i j hi hj in
    rw (name_step g gs c)
    (list_number gs (given_changed g given) (changed_admitted given.frame a g) (act_colour g c) _ _ p.0 p.1
    ∙ point_number g given.frame i j hi hj a given.black c)

pub list_entry : (gs : List Change) (f : Frame) → Admitted f → (i j : ℕ) → i < f.height → j < f.width
    → entry_at (changed_by gs f) (row_after gs f i j) (column_after gs f i j) ≡ code_after gs (entry_at f i j)
unfolding changed_by row_after column_after
list_entry [] f a i j hi hj = unfold code_after transposes_oddly count_transposes in refl
list_entry (g ∷ gs) f a i j hi hj =
    let p = point_inside g f i j hi hj in
    list_entry gs (changed g f) (changed_admitted f a g) _ _ p.0 p.1
    ∙ (ap (code_after gs) (point_entry g f i j hi hj a) ∙ sym (code_step g gs (entry_at f i j)))
