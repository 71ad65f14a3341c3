-- The mean of four values that are read from buffers. Assumes nothing.
use Rattle.std.specs.Prelude.{◌≡◌, List, [], ◌∷◌, ℕ, ℤ}
use Rattle.std.proofs.Common.{◌∙◌}
use Rattle.method.specs.Gradients.{FourDirections}
use Rattle.method.specs.Four.{directions, sizes, listed}
use Rattle.method.specs.Planes.{weighted_mean, weighing, straight_gradients, mean_under}
use Rattle.method.specs.Sizes.{AtMost}

module _ {e w s n e' w' s' n' : ℤ} (pe : e ≡ e') (pw : w ≡ w') (ps : s ≡ s') (pn : n ≡ n') where
  pub read_most : {m : ℕ} → AtMost m (sizes (directions (e' ∷ w' ∷ s' ∷ n' ∷ []))) → AtMost m (sizes (directions (e ∷ w ∷ s ∷ n ∷ [])))
  read_most h = rw (pe, pw, ps, pn) h

  pub read_mean : {z : ℤ} {g g' : List ℤ} → g ≡ g' → z ≡ weighted_mean (directions (e ∷ w ∷ s ∷ n ∷ [])) (sizes (directions g))
      → z ≡ weighted_mean (directions (e' ∷ w' ∷ s' ∷ n' ∷ [])) (sizes (directions g'))
  read_mean pg h = h ∙ rw (pe, pw, ps, pn, pg)

  -- under gradients that are the weighing of d
  pub read_mean_under : {z : ℤ} {g : List ℤ} (d : FourDirections ℕ) → g ≡ listed (weighing d)
      → z ≡ weighted_mean (directions (e ∷ w ∷ s ∷ n ∷ [])) (sizes (directions g))
      → z ≡ mean_under straight_gradients d (directions (e' ∷ w' ∷ s' ∷ n' ∷ []))
  unfolding mean_under
  read_mean_under d pg h = read_mean pg h
