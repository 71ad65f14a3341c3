-- What a change of the frame does at one site: to what stands around it, to its gradients, its green estimates, its first pass and
-- its second. Each law says that a function of the changed surroundings is the changed value of the function. Assumes nothing.
use Rattle.std.specs.Prelude.{◌≡◌, refl, false, ℕ, zero, suc, ◌+◌, ◌*◌, ◌<◌, ◌≤◌, min, max, ltb, eqb, ℤ, pos, negsuc, neg_ℤ, nat_abs, ◌+ℤ◌, ◌*ℤ◌}
use Rattle.std.proofs.Common.{sym, ◌∙◌, ap, arith}
use Rattle.std.proofs.Math.Nat.{min_comm, max_comm}
use Rattle.std.proofs.Math.IntN.{+ℤ_comm, neg_ℤ-neg_ℤ}
use Rattle.toolkit.specs.Tests.{by_test, ltb_lt, ltb_ge, ltb_yes, ltb_no, eqb_ne, eqb_comm}
use Rattle.toolkit.specs.Differences.{as_difference}
use Rattle.toolkit.specs.Orders.{to_naturals}
use Rattle.frame.specs.Sites.{Around}
use Rattle.method.specs.Gradients.{exchanged, apart, taps, six_tap, six_tap_pair, eastbound, east_gradient, west_gradient, FourDirections, gradients}
use Rattle.method.specs.Green.{Direction, horizontal, vertical, diagonal, line_estimate, horizontal_estimate, half, estimate, Outcome, equal, strong_across, strong_down, weak, outcome, first_pass, first_pass_or, sum_about, column_sum, horizontal_sum, vertical_sum, diagonal_sum, least_sum, second_pass}
use Rattle.method.specs.Planes.{straight, diagonally, corners, weighing, corner_gradients}
use Rattle.method.proofs.ColourLaws.{directions_path}
use Rattle.correspondence.specs.Comparison.{Change, left_right, top_bottom, transposing, trading}

-- ---- how a change acts

-- on what stands around a site
abbrev pub act : {X : Type 0} → Change → Around X → Around X
act left_right N r c = N r (neg_ℤ c)
act top_bottom N r c = N (neg_ℤ r) c
act transposing N r c = N c r
act trading N r c = N r c

-- on the four directions
abbrev pub act_directions : {X : Type 0} → Change → FourDirections X → FourDirections X
act_directions left_right d = record { east = d.west; west = d.east; south = d.south; north = d.north }
act_directions top_bottom d = record { east = d.east; west = d.west; south = d.north; north = d.south }
act_directions transposing d = record { east = d.south; west = d.north; south = d.east; north = d.west }
act_directions trading d = d

-- on the four corners, NE, NW, SE and SW
abbrev pub act_corners : {X : Type 0} → Change → FourDirections X → FourDirections X
act_corners left_right d = record { east = d.west; west = d.east; south = d.north; north = d.south }
act_corners top_bottom d = record { east = d.south; west = d.north; south = d.east; north = d.west }
act_corners transposing d = record { east = d.north; west = d.west; south = d.south; north = d.east }
act_corners trading d = d

abbrev swap : Direction → Direction
swap horizontal = vertical
swap vertical = horizontal
swap diagonal = diagonal

abbrev swap_outcome : Outcome → Outcome
swap_outcome equal = equal
swap_outcome strong_across = strong_down
swap_outcome strong_down = strong_across
swap_outcome weak = weak

-- on a direction of green, and on an outcome of the first pass
abbrev pub act_direction : Change → Direction → Direction
act_direction left_right k = k
act_direction top_bottom k = k
act_direction transposing k = swap k
act_direction trading k = k

abbrev pub act_outcome : Change → Outcome → Outcome
act_outcome left_right o = o
act_outcome top_bottom o = o
act_outcome transposing o = swap_outcome o
act_outcome trading o = o

-- ---- gradients

taps_backwards : (a b c d e f : ℤ) → taps a b c d e f ≡ taps f e d c b a
unfolding taps
taps_backwards a b c d e f =
    rw (as_difference a, as_difference b, as_difference c, as_difference d, as_difference e, as_difference f)
    (simp to_naturals (omega arith))

pub apart_comm : (x y : ℤ) → apart x y ≡ apart y x
unfolding apart
apart_comm x y = rw (as_difference x, as_difference y) (simp to_naturals (omega arith))

-- a line read from its other end
pair_mirrored : (Z : Around ℤ) (r : ℤ) → six_tap_pair (act left_right Z) r (pos 0) ≡ six_tap_pair Z r (neg_ℤ (pos 2))
unfolding six_tap_pair six_tap
pair_mirrored Z r = omega (
  arith,
  ap nat_abs (taps_backwards (Z r (pos 2)) (Z r (pos 1)) (Z r (pos 0)) (Z r (negsuc 0)) (Z r (negsuc 1)) (Z r (negsuc 2))),
  ap nat_abs (taps_backwards (Z r (pos 1)) (Z r (pos 0)) (Z r (negsuc 0)) (Z r (negsuc 1)) (Z r (negsuc 2)) (Z r (negsuc 3))),
)

east_mirrored : (Z : Around ℤ) → east_gradient (act left_right Z) ≡ west_gradient Z
unfolding east_gradient west_gradient eastbound
east_mirrored Z =
    omega (
      arith,
      apart_comm (Z (pos 0) (pos 0)) (Z (pos 0) (negsuc 1)),
      pair_mirrored Z (pos 0),
      pair_mirrored Z (neg_ℤ (pos 1)),
      pair_mirrored Z (pos 1),
    )

west_mirrored : (Z : Around ℤ) → west_gradient (act left_right Z) ≡ east_gradient Z
unfolding east_gradient west_gradient eastbound six_tap_pair six_tap
west_mirrored Z = sym (east_mirrored (act left_right Z))

eastbound_flipped : (Z : Around ℤ) (c : ℤ) → eastbound (act top_bottom Z) c ≡ eastbound Z c
unfolding eastbound six_tap_pair six_tap
eastbound_flipped Z c = omega arith

pub gradients_changed : (g : Change) (Z : Around ℤ) → gradients (act g Z) ≡ act_directions g (gradients Z)
unfolding gradients east_gradient west_gradient
gradients_changed left_right Z =
    directions_path (east_mirrored Z) (west_mirrored Z) (eastbound_flipped (exchanged Z) _) (eastbound_flipped (exchanged Z) _)
gradients_changed top_bottom Z =
    directions_path (eastbound_flipped Z _) (eastbound_flipped Z _) (east_mirrored (exchanged Z)) (west_mirrored (exchanged Z))
gradients_changed transposing Z = refl
gradients_changed trading Z = refl

-- ---- green estimates

line_backwards : (l r x ll rr : ℤ) → line_estimate l r x ll rr ≡ line_estimate r l x rr ll
unfolding line_estimate
line_backwards l r x ll rr =
    rw (as_difference l, as_difference r, as_difference x, as_difference ll, as_difference rr) (simp to_naturals (omega arith))

horizontal_mirrored : (Z : Around ℤ) → horizontal_estimate (act left_right Z) ≡ horizontal_estimate Z
unfolding horizontal_estimate
horizontal_mirrored Z = line_backwards _ _ _ _ _

horizontal_flipped : (Z : Around ℤ) → horizontal_estimate (act top_bottom Z) ≡ horizontal_estimate Z
unfolding horizontal_estimate
horizontal_flipped Z = refl

halves : {x y x' y' : ℤ} → x ≡ x' → y ≡ y' → half (x +ℤ y) ≡ half (x' +ℤ y')
halves e f = rw (e, f)

pub estimate_changed : (g : Change) (k : Direction) (Z : Around ℤ) → estimate (act_direction g k) (act g Z) ≡ estimate k Z
unfolding estimate
estimate_changed left_right horizontal Z = horizontal_mirrored Z
estimate_changed left_right vertical Z = horizontal_flipped (exchanged Z)
estimate_changed left_right diagonal Z = halves (horizontal_mirrored Z) (horizontal_flipped (exchanged Z))
estimate_changed top_bottom horizontal Z = horizontal_flipped Z
estimate_changed top_bottom vertical Z = horizontal_mirrored (exchanged Z)
estimate_changed top_bottom diagonal Z = halves (horizontal_flipped Z) (horizontal_mirrored (exchanged Z))
estimate_changed transposing horizontal Z = refl
estimate_changed transposing vertical Z = refl
estimate_changed transposing diagonal Z = ap half (+ℤ_comm (horizontal_estimate (exchanged Z)) (horizontal_estimate Z))
estimate_changed trading k Z = refl

-- ---- the first pass

outcome_swapped : (threshold h v : ℕ) → outcome threshold v h ≡ swap_outcome (outcome threshold h v)
unfolding outcome
outcome_swapped threshold h v = rw (min_comm v h, max_comm v h, eqb_comm v h) (by_test (eqb h v) _ (λ x. rw x)
    (λ x. by_test (ltb (threshold * min h v) (10 * max h v)) _
    (λ y. by_test (ltb h v) _
    (λ z. let q : h < v = ltb_lt _ _ z in rw (x, y, z, ltb_no {m = v} {n = h} (omega arith)))
    (λ z. rw (x, y, z, ltb_yes {m = v} {n = h} (below x z))))
    (λ y. rw (x, y))))
  where
    below : eqb h v ≡ false → ltb h v ≡ false → v < h
    below x z =
        let q : v ≤ h = ltb_ge _ _ z in
        let n : ¬ (h ≡ v) = eqb_ne x in
        omega arith

pub first_pass_changed : (threshold : ℕ) (g : Change) (d : FourDirections ℕ)
    → first_pass threshold (act_directions g d) ≡ act_outcome g (first_pass threshold d)
unfolding first_pass
first_pass_changed threshold left_right d = ap (λ (h : ℕ). outcome threshold h (d.south + d.north)) (omega arith)
first_pass_changed threshold top_bottom d = ap (λ (v : ℕ). outcome threshold (d.east + d.west) v) (omega arith)
first_pass_changed threshold transposing d = outcome_swapped threshold (d.east + d.west) (d.south + d.north)
first_pass_changed threshold trading d = refl

pub first_pass_or_changed : (g : Change) (o : Outcome) (k : Direction)
    → first_pass_or (act_outcome g o) (act_direction g k) ≡ act_direction g (first_pass_or o k)
first_pass_or_changed left_right o k = refl
first_pass_or_changed top_bottom o k = refl
first_pass_or_changed transposing equal k = refl
first_pass_or_changed transposing strong_across k = refl
first_pass_or_changed transposing strong_down k = refl
first_pass_or_changed transposing weak k = refl
first_pass_or_changed trading o k = refl

-- ---- the second pass

pub act_direction_twice : (g : Change) (k : Direction) → act_direction g (act_direction g k) ≡ k
act_direction_twice left_right k = refl
act_direction_twice top_bottom k = refl
act_direction_twice transposing horizontal = refl
act_direction_twice transposing vertical = refl
act_direction_twice transposing diagonal = refl
act_direction_twice trading k = refl

-- a sum about 0 is the same from its other end
sum_backwards : (n : ℕ) (f f' : ℤ → ℕ) → ((t : ℤ) → f' t ≡ f (neg_ℤ t)) → sum_about n f' ≡ sum_about n f
unfolding sum_about
sum_backwards zero f f' e = e (pos 0)
sum_backwards (suc n) f f' e = omega (arith, e (negsuc n), e (pos (suc n)), sum_backwards n f f' e)

double_neg : (t : ℤ) → neg_ℤ (pos 2 *ℤ t) ≡ pos 2 *ℤ neg_ℤ t
double_neg t = rw (as_difference t) (simp to_naturals (omega arith))

column_sum_mirrored : (reach : ℕ) (r : Around ℤ) → column_sum reach (act left_right r) ≡ column_sum reach r
unfolding column_sum
column_sum_mirrored reach r = sum_backwards reach _ _ (λ t. ap (λ (c : ℤ). apart (r (pos 0) (pos 0)) (r (pos 0) c)) (double_neg t))

column_sum_flipped : (reach : ℕ) (r : Around ℤ) → column_sum reach (act top_bottom r) ≡ column_sum reach r
unfolding column_sum
column_sum_flipped reach r = refl

least_sum_swapped : (FH FV FD : ℕ) → least_sum FV FH FD ≡ swap (least_sum FH FV FD)
unfolding least_sum
least_sum_swapped FH FV FD = by_test (ltb FH FV) _
    (λ x.
    let q : FH < FV = ltb_lt _ _ x in
    rw (x, ltb_no {m = FV} {n = FH} (omega arith)) (by_test (ltb FH FD) _ (λ y. rw y) (λ y. rw y)))
    (λ x. rw x (by_test (ltb FV FH) _ (λ y. rw y (by_test (ltb FV FD) _ (λ z. rw z) (λ z. rw z))) (λ y. rw y)))

pub second_pass_changed : (reach : ℕ) (g : Change) (r : Direction → Around ℤ)
    → second_pass reach (λ k. act g (r (act_direction g k))) ≡ act_direction g (second_pass reach r)
unfolding second_pass horizontal_sum vertical_sum diagonal_sum
second_pass_changed reach left_right r =
    rw (
      column_sum_mirrored reach (r horizontal),
      column_sum_flipped reach (exchanged (r vertical)),
      column_sum_mirrored reach (r diagonal),
      column_sum_flipped reach (exchanged (r diagonal)),
    )
second_pass_changed reach top_bottom r =
    rw (
      column_sum_flipped reach (r horizontal),
      column_sum_mirrored reach (exchanged (r vertical)),
      column_sum_flipped reach (r diagonal),
      column_sum_mirrored reach (exchanged (r diagonal)),
    )
second_pass_changed reach transposing r =
    ap (λ (s : ℕ). least_sum (2 * column_sum reach (exchanged (r vertical))) (2 * column_sum reach (r horizontal)) s) (omega arith)
    ∙ least_sum_swapped _ _ _
second_pass_changed reach trading r = refl

-- ---- neighbours

pub straight_changed : {X : Type 0} (k : ℕ) (g : Change) (N : Around X) → straight k (act g N) ≡ act_directions g (straight k N)
unfolding straight
straight_changed k left_right N = directions_path refl (ap (N (pos 0)) (neg_ℤ-neg_ℤ (pos k))) refl refl
straight_changed k top_bottom N = directions_path refl refl refl (ap (λ (r : ℤ). N r (pos 0)) (neg_ℤ-neg_ℤ (pos k)))
straight_changed k transposing N = refl
straight_changed k trading N = refl

pub corners_changed : {X : Type 0} (g : Change) (N : Around X) → corners (act g N) ≡ act_corners g (corners N)
unfolding corners diagonally
corners_changed left_right N = refl
corners_changed top_bottom N = refl
corners_changed transposing N = refl
corners_changed trading N = refl

pub weighing_changed : (g : Change) (d : FourDirections ℕ) → weighing (act_directions g d) ≡ act_directions g (weighing d)
unfolding weighing
weighing_changed g d = refl

pub corner_gradients_changed : (g : Change) (d : FourDirections ℕ) → corner_gradients (act_directions g d) ≡ act_corners g (corner_gradients d)
unfolding corner_gradients
corner_gradients_changed left_right d = refl
corner_gradients_changed top_bottom d = refl
corner_gradients_changed transposing d = directions_path (omega arith) (omega arith) (omega arith) (omega arith)
corner_gradients_changed trading d = refl
