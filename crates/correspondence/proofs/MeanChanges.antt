-- A weighted mean is the same when its four values and gradients change places together. Assumes nothing.
use Rattle.std.specs.Prelude.{◌≡◌, refl, ℕ, ℤ}
use Rattle.std.proofs.Common.{◌∙◌, ap, ap₂, arith}
use Rattle.toolkit.specs.Differences.{as_difference}
use Rattle.toolkit.specs.Orders.{to_naturals}
use Rattle.method.specs.Gradients.{FourDirections}
use Rattle.method.specs.Planes.{inner_round, count_zeros, weight, weights, sum_of_four, weighted_sum, total, weighted_mean, straight_gradients, corner_gradients, mean_under}
use Rattle.method.proofs.ColourLaws.{directions_path}
use Rattle.correspondence.specs.Comparison.{Change, left_right, top_bottom, transposing, trading}
use Rattle.correspondence.proofs.SiteChanges.{act_directions, act_corners, weighing_changed, corner_gradients_changed}

-- ---- two changes of places make all others

-- the first two exchanged
abbrev swapped : {X : Type 0} → FourDirections X → FourDirections X
swapped d = record { east = d.west; west = d.east; south = d.south; north = d.north }

-- each in the place before it
abbrev rotated : {X : Type 0} → FourDirections X → FourDirections X
rotated d = record { east = d.west; west = d.south; south = d.north; north = d.east }

same_weight : {z z' : ℕ} (x : ℕ) {p p' : ℕ} → z ≡ z' → p ≡ p' → weight z x p ≡ weight z' x p'
same_weight x e f = rw (e, f)

weights_swapped : (d : FourDirections ℕ) → weights (swapped d) ≡ swapped (weights d)
unfolding weights count_zeros
weights_swapped d = directions_path
    (same_weight _ (omega arith) (omega arith)) (same_weight _ (omega arith) (omega arith))
    (same_weight _ (omega arith) (omega arith)) (same_weight _ (omega arith) (omega arith))

weights_rotated : (d : FourDirections ℕ) → weights (rotated d) ≡ rotated (weights d)
unfolding weights count_zeros
weights_rotated d = directions_path
    (same_weight _ (omega arith) (omega arith)) (same_weight _ (omega arith) (omega arith))
    (same_weight _ (omega arith) (omega arith)) (same_weight _ (omega arith) (omega arith))

sum_swapped : (a b c d : ℤ) → sum_of_four b a c d ≡ sum_of_four a b c d
unfolding sum_of_four
sum_swapped a b c d = rw (as_difference a, as_difference b, as_difference c, as_difference d) (simp to_naturals (omega arith))

sum_rotated : (a b c d : ℤ) → sum_of_four b c d a ≡ sum_of_four a b c d
unfolding sum_of_four
sum_rotated a b c d = rw (as_difference a, as_difference b, as_difference c, as_difference d) (simp to_naturals (omega arith))

mean_swapped : (v : FourDirections ℤ) (d : FourDirections ℕ) → weighted_mean (swapped v) (swapped d) ≡ weighted_mean v d
unfolding weighted_mean weighted_sum total
mean_swapped v d = rw (weights_swapped d) (ap₂ inner_round (sum_swapped _ _ _ _) (omega arith))

mean_rotated : (v : FourDirections ℤ) (d : FourDirections ℕ) → weighted_mean (rotated v) (rotated d) ≡ weighted_mean v d
unfolding weighted_mean weighted_sum total
mean_rotated v d = rw (weights_rotated d) (ap₂ inner_round (sum_rotated _ _ _ _) (omega arith))

-- E with S, W with N
mean_pairs : (v : FourDirections ℤ) (d : FourDirections ℕ) → weighted_mean (rotated (rotated v)) (rotated (rotated d)) ≡ weighted_mean v d
mean_pairs v d = mean_rotated (rotated v) (rotated d) ∙ mean_rotated v d

-- S with N
mean_last : (v : FourDirections ℤ) (d : FourDirections ℕ)
    → weighted_mean (act_directions top_bottom v) (act_directions top_bottom d) ≡ weighted_mean v d
mean_last v d = mean_pairs (swapped (rotated (rotated v))) (swapped (rotated (rotated d)))
    ∙ (mean_swapped (rotated (rotated v)) (rotated (rotated d)) ∙ mean_pairs v d)

-- ---- the changes of a frame

pub mean_directions : (g : Change) (v : FourDirections ℤ) (d : FourDirections ℕ)
    → weighted_mean (act_directions g v) (act_directions g d) ≡ weighted_mean v d
mean_directions left_right v d = mean_swapped v d
mean_directions top_bottom v d = mean_last v d
mean_directions transposing v d = mean_pairs v d
mean_directions trading v d = refl

pub mean_corners : (g : Change) (v : FourDirections ℤ) (d : FourDirections ℕ)
    → weighted_mean (act_corners g v) (act_corners g d) ≡ weighted_mean v d
mean_corners left_right v d = mean_swapped (act_directions top_bottom v) (act_directions top_bottom d) ∙ mean_last v d
mean_corners top_bottom v d = mean_pairs v d
mean_corners transposing v d =
    mean_rotated (swapped (rotated (rotated (rotated v)))) (swapped (rotated (rotated (rotated d))))
    ∙ (mean_swapped (rotated (rotated (rotated v))) (rotated (rotated (rotated d)))
    ∙ (mean_rotated (rotated (rotated v)) (rotated (rotated d)) ∙ mean_pairs v d))
mean_corners trading v d = refl

-- ---- the means of what stands around a site

pub straight_mean_changed : (g : Change) (d : FourDirections ℕ) (v : FourDirections ℤ)
    → mean_under straight_gradients (act_directions g d) (act_directions g v) ≡ mean_under straight_gradients d v
unfolding mean_under
straight_mean_changed g d v = ap (weighted_mean (act_directions g v)) (weighing_changed g d) ∙ mean_directions g v _

pub corner_mean_changed : (g : Change) (d : FourDirections ℕ) (v : FourDirections ℤ)
    → mean_under corner_gradients (act_directions g d) (act_corners g v) ≡ mean_under corner_gradients d v
unfolding mean_under
corner_mean_changed g d v =
    ap (weighted_mean (act_corners g v)) (ap corner_gradients (weighing_changed g d) ∙ corner_gradients_changed g _) ∙ mean_corners g v _
