-- A constant added to the four values is added to their mean, so that a mean of signed values is one of naturals. Assumes nothing.
use Rattle.std.specs.Prelude.{◌≡◌, ◌&&◌, List, [], ◌∷◌, ℕ, ◌+◌, ◌*◌, ◌≤◌, T, leb, get_or, ℤ, pos, nat_abs, ◌+ℤ◌, ◌-ℤ◌, ◌*ℤ◌, ◌≤ℤ◌}
use Rattle.std.proofs.Common.{◌∙◌, ap, zero-le, arith, leb→le, le→leb}
use Rattle.toolkit.specs.Bounds.{and_l, and_r}
use Rattle.toolkit.specs.Differences.{as_difference}
use Rattle.toolkit.specs.Orders.{to_naturals}
use Rattle.toolkit.specs.Naturals.{not_negative, lift_from, lift_most}
use Rattle.toolkit.specs.Rounding.{round_half_up, round_shift}
use Rattle.method.specs.Gradients.{FourDirections}
use Rattle.method.specs.Planes.{inner_round, weights, times, sum_of_four, weighted_sum, total, weighted_mean}
use Rattle.method.proofs.MeanLaws.{total_above}
use Rattle.method.specs.Four.{directions, sizes}
use Rattle.method.specs.Sizes.{AtMost, Naturals}
use Rattle.method.proofs.Sizes.{mean_size}
use Rattle.means.specs.Naturals.{numbers, signed, unsigned, NaturalMeanFits}

abbrev pub lifted_values : List ℤ → ℤ → List ℤ
lifted_values v k = (get_or v 0 (pos 0) +ℤ k) ∷ (get_or v 1 (pos 0) +ℤ k) ∷ (get_or v 2 (pos 0) +ℤ k) ∷ (get_or v 3 (pos 0) +ℤ k) ∷ []

sum_lifted : (x y z u k : ℤ) (a b c d : ℕ)
    → sum_of_four (times a (x +ℤ k)) (times b (y +ℤ k)) (times c (z +ℤ k)) (times d (u +ℤ k)) ≡
    sum_of_four (times a x) (times b y) (times c z) (times d u) +ℤ k *ℤ pos (a + b + c + d)
unfolding sum_of_four times
sum_lifted x y z u k a b c d =
    rw (as_difference x, as_difference y, as_difference z, as_difference u, as_difference k) (simp to_naturals (omega arith))

pub mean_lifted : (v : List ℤ) (g : FourDirections ℕ) (k : ℤ)
    → weighted_mean (directions (lifted_values v k)) g ≡ weighted_mean (directions v) g +ℤ k
unfolding weighted_mean inner_round weighted_sum total
mean_lifted v g k =
    ap (λ (z : ℤ). round_half_up z (total (weights g))) (sum_lifted _ _ _ _ k _ _ _ _)
    ∙ round_shift (weighted_sum (directions v) (weights g)) k (total (weights g)) (total_above g)

-- what may be lifted
pub record LiftFits (v : List ℤ) (reach : ℤ) : Type 0 where
  pub values : AtMost 32767 (sizes (directions v))
  pub reach_most : nat_abs reach ≤ 32767

-- values from −reach to reach and gradients from 0 to `gradient`: 8,192 with 40,928; 4,096 with 81,856; 32,767 with 32,767
pub record LiftedMeanFits (v g : List ℤ) (reach : ℤ) : Type 0 where
  pub gradient : ℕ
  pub reach_from : pos 0 ≤ℤ reach
  pub reach_most : nat_abs reach ≤ 32767
  pub values : AtMost (nat_abs reach) (sizes (directions v))
  pub gradients : Naturals gradient g
  pub gradient_most : gradient ≤ 81856
  pub room : (2 * nat_abs reach + 1) * (gradient * (gradient * gradient)) ≤ 4600000000000000000

-- the record, from bounds that are literals: `lifted_mean_fits 8192 40920 values gradients tt`
pub lifted_mean_fits : {v g : List ℤ} (reach gradient : ℕ) → AtMost reach (sizes (directions v)) → Naturals gradient g
    → T (leb reach 32767 && (leb gradient 81856 && leb ((2 * reach + 1) * (gradient * (gradient * gradient))) 4600000000000000000))
    → LiftedMeanFits v g (pos reach)
lifted_mean_fits reach gradient values gradients t = record {
  gradient = gradient;
  reach_from = record { le = le→leb 0 reach zero-le };
  reach_most = leb→le _ _ (and_l (leb reach 32767) _ t);
  values = values;
  gradients = gradients;
  gradient_most = leb→le _ _ (and_l (leb gradient 81856) _ (and_r (leb reach 32767) _ t));
  room = leb→le _ _ (and_r (leb gradient 81856) _ (and_r (leb reach 32767) _ t));
}

-- a lifted mean, and the mean itself
lift_off : (m : ℕ) (z k : ℤ) → pos m ≡ z +ℤ k → pos m -ℤ k ≡ z
lift_off m z k = rw (as_difference z, as_difference k) (simp to_naturals (omega arith))

lifted_most : (m : ℕ) (z k : ℤ) → pos m ≡ z +ℤ k → nat_abs z ≤ nat_abs k → nat_abs k ≤ 32767 → m ≤ 65534
lifted_most m z k = rw (as_difference z, as_difference k) (simp to_naturals (omega arith))

-- ---- the lifted values and the gradients, as naturals
module _ (v g : List ℤ) (k : ℤ) (r : LiftedMeanFits v g k) where
  pub lifted_naturals : Naturals (2 * nat_abs k) (lifted_values v k)
  lifted_naturals = record {
    most = record {
      east_most = lift_most (get_or v 0 (pos 0)) k r.values.east_most;
      west_most = lift_most (get_or v 1 (pos 0)) k r.values.west_most;
      south_most = lift_most (get_or v 2 (pos 0)) k r.values.south_most;
      north_most = lift_most (get_or v 3 (pos 0)) k r.values.north_most;
    };
    east_from = lift_from (get_or v 0 (pos 0)) k r.reach_from r.values.east_most;
    west_from = lift_from (get_or v 1 (pos 0)) k r.reach_from r.values.west_most;
    south_from = lift_from (get_or v 2 (pos 0)) k r.reach_from r.values.south_most;
    north_from = lift_from (get_or v 3 (pos 0)) k r.reach_from r.values.north_most;
  }

  pub natural_mean_fits : NaturalMeanFits (unsigned (lifted_values v k)) (unsigned g)
  natural_mean_fits = record {
    value = 2 * nat_abs k;
    gradient = r.gradient;
    values = lifted_naturals.most;
    gradients = r.gradients.most;
    value_most = omega (arith, r.reach_most);
    gradient_most = r.gradient_most;
    room = r.room;
  }

  -- the mean itself
  abbrev mean : ℤ
  mean = weighted_mean (directions v) (sizes (directions g))

  pub mean_most : nat_abs mean ≤ nat_abs k
  mean_most = mean_size (nat_abs k) (directions v) (sizes (directions g)) r.values

  -- m is the mean of the lifted values
  module _ {m : ℕ} (e : pos m ≡ weighted_mean (signed (numbers (unsigned (lifted_values v k)))) (numbers (unsigned g))) where
    above_mean : pos m ≡ mean +ℤ k
    above_mean =
        let n = lifted_naturals in
        e
        ∙ rw (
          not_negative (get_or v 0 (pos 0) +ℤ k) n.east_from,
          not_negative (get_or v 1 (pos 0) +ℤ k) n.west_from,
          not_negative (get_or v 2 (pos 0) +ℤ k) n.south_from,
          not_negative (get_or v 3 (pos 0) +ℤ k) n.north_from,
        ) (mean_lifted v (sizes (directions g)) k)

    pub result_most : m ≤ 65534
    result_most = lifted_most m mean k above_mean mean_most r.reach_most

    pub result_is : pos m -ℤ k ≡ mean
    result_is = lift_off m mean k above_mean
