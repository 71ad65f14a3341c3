-- The trial differences, from a site's gradients and its two estimates. Assumes nothing.
use Rattle.std.specs.Prelude.{◌≡◌, refl, List, ℕ, ◌+◌, ◌<◌, ◌≤◌, ℤ, pos, nat_abs, ◌+ℤ◌, ◌-ℤ◌, ◌*ℤ◌, get_or, ◌≤ℤ◌, ◌<ℤ◌}
use Rattle.std.proofs.Common.{sym, ◌∙◌, ap, arith}
use Rattle.toolkit.specs.Differences.{as_difference}
use Rattle.toolkit.specs.Orders.{to_naturals}
use Rattle.toolkit.specs.Rounding.{floor_div, floor_low, floor_high, floor_is}
use Rattle.frame.specs.Sites.{Around}
use Rattle.method.specs.Settings.{threshold}
use Rattle.method.specs.Gradients.{FourDirections}
use Rattle.method.specs.Four.{directions, sizes}
use Rattle.method.specs.Green.{Direction, horizontal, vertical, diagonal, Outcome, estimate, half, first_pass, first_pass_or, less_eight}
use Rattle.records.specs.Quantities.{first_code}
use Rattle.half_rows.specs.Sources.{four_entries, GradientsFit}
use Rattle.first_pass.specs.declared.FirstPass.{FirstPass}
use Rattle.first_pass.specs.declared.FirstPass.TheVariants.{Equal, Across, Down, Weak}
use Rattle.first_pass.specs.Outcomes.{outcome_of, settled}

-- the difference of a direction, from those across and down
abbrev pub own : Direction → ℤ → ℤ → ℤ
own horizontal a b = a
own vertical a b = b
own diagonal a b = half (a +ℤ b)

-- that of the first pass's direction where it has one
unfoldable pub tried : Direction → FourDirections ℕ → ℤ → ℤ → ℤ
tried k g a b = own (first_pass_or (first_pass threshold g) k) a b

-- at site k of a row, from what the buffers hold
abbrev pub site_trial : Direction → List ℤ → ℕ → ℕ → List ℤ → List ℤ → List ℤ → ℕ → ℤ
site_trial d work east south n a b k =
    tried d (sizes (directions (four_entries work east south n k))) (get_or a (k + 4) (pos 0)) (get_or b (k + 4) (pos 0))

-- the code of the outcome there, from its gradients
abbrev pub site_code : List ℤ → ℕ → ℕ → List ℤ → ℕ → ℕ
site_code work east south n k = first_code (first_pass threshold (sizes (directions (four_entries work east south n k))))

-- what a row of trials reads
pub record TrialReads (east south count : ℕ) (work n a b : List ℤ) : Type 0 where
  pub gradients : GradientsFit count east south work n
  pub across_small : (k : ℕ) → k < count → nat_abs (get_or a (k + 4) (pos 0)) ≤ 8184
  pub down_small : (k : ℕ) → k < count → nat_abs (get_or b (k + 4) (pos 0)) ≤ 8184

-- the code's choice
pub settled_is : (k : Direction) (o : FirstPass) (g : FourDirections ℕ) (a b : ℤ) → outcome_of o ≡ first_pass threshold g
    → settled o a b (own k a b) ≡ tried k g a b
unfolding tried
settled_is k o g a b e = go k o ∙ ap (λ (x : Outcome). own (first_pass_or x k) a b) e
  where
    go : (k : Direction) (o : FirstPass) → settled o a b (own k a b) ≡ own (first_pass_or (outcome_of o) k) a b
    go k Equal = refl
    go k Across = refl
    go k Down = refl
    go k Weak = refl

-- half of a sum, less 8·X
half_low : (g v X q : ℤ) → (q *ℤ pos 2) ≤ℤ (g +ℤ v) → ((q -ℤ pos 8 *ℤ X) *ℤ pos 2) ≤ℤ ((g -ℤ pos 8 *ℤ X) +ℤ (v -ℤ pos 8 *ℤ X))
half_low g v X q = rw (as_difference g, as_difference v, as_difference X, as_difference q) (simp to_naturals (omega arith))

half_high : (g v X q : ℤ) → (g +ℤ v) <ℤ (q *ℤ pos 2 +ℤ pos 2)
    → ((g -ℤ pos 8 *ℤ X) +ℤ (v -ℤ pos 8 *ℤ X)) <ℤ ((q -ℤ pos 8 *ℤ X) *ℤ pos 2 +ℤ pos 2)
half_high g v X q = rw (as_difference g, as_difference v, as_difference X, as_difference q) (simp to_naturals (omega arith))

half_less : (g v X : ℤ) → less_eight (half (g +ℤ v)) X ≡ half (less_eight g X +ℤ less_eight v X)
unfolding half less_eight
half_less g v X =
    sym (floor_is ((g -ℤ pos 8 *ℤ X) +ℤ (v -ℤ pos 8 *ℤ X)) (floor_div (g +ℤ v) 2 -ℤ pos 8 *ℤ X) 2 (omega arith)
    (half_low g v X (floor_div (g +ℤ v) 2) (floor_low (g +ℤ v) 2 (omega arith)))
    (half_high g v X (floor_div (g +ℤ v) 2) (floor_high (g +ℤ v) 2 (omega arith))))

-- an estimate less 8·X, from those across and down
pub own_is : (d : Direction) (Z : Around ℤ) (X : ℤ)
    → less_eight (estimate d Z) X ≡ own d (less_eight (estimate horizontal Z) X) (less_eight (estimate vertical Z) X)
unfolding estimate
own_is horizontal Z X = refl
own_is vertical Z X = refl
own_is diagonal Z X = half_less _ _ X
