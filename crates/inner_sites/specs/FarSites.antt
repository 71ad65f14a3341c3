-- Document 02, A3: a site far from every edge, and what is said of it. Definitions alone. Assumes nothing.
use Rattle.std.specs.Prelude.{◌≡◌, ℕ, ◌+◌, ◌-◌, ◌≤◌, ℤ, pos, nat_abs, ◌+ℤ◌}
use Rattle.frame.specs.Sites.{Frame, sample, colour, reflect}
use Rattle.frame.specs.InnerSites.{margin}
use Rattle.method.specs.Settings.{reach}
use Rattle.inner_sites.specs.Distances.{gradient_distance, second_pass_distance, enhancement_distance, corner_distance, neighbour_distance, differences_off, finals_off, greens_off, trials_off, reading_distance}

-- "a site 20 or more rows and columns from every edge"
pub record FarFromEdges (f : Frame) (i j : ℕ) : Type 0 where
  pub rows_above : margin ≤ i
  pub rows_below : margin ≤ f.height - 1 - i
  pub columns_west : margin ≤ j
  pub columns_east : margin ≤ f.width - 1 - j

-- x lies at most d from i
pub record Near (d i x : ℕ) : Type 0 where
  pub not_before : i ≤ x + d
  pub not_behind : x ≤ i + d

-- "every position read for it lies in the frame": what a step reads around the site (x,y), d rows and columns off or less, stands where it
-- is written
abbrev pub ReadAsWritten : Frame → ℕ → ℕ → ℕ → Type 0
ReadAsWritten f d x y =
    (r c : ℤ) → nat_abs r ≤ d → nat_abs c ≤ d
    → (pos (reflect f.height (pos x +ℤ r)) ≡ pos x +ℤ r) × (pos (reflect f.width (pos y +ℤ c)) ≡ pos y +ℤ c)

-- so it is at every site (x,y) whose answer is read for the three numbers of (i,j), off rows and columns away or less
abbrev pub StepAsWritten : Frame → ℕ → ℕ → ℕ → ℕ → Type 0
StepAsWritten f off d i j = (x y : ℕ) → Near off i x → Near off j y → ReadAsWritten f d x y

-- every step from the three numbers of (i,j) back to the samples
pub record StepsAsWritten (f : Frame) (i j : ℕ) : Type 0 where
  -- a green site reads the differences of its four direct neighbours
  pub neighbours : StepAsWritten f 0 neighbour_distance i j
  -- the difference of the other colour reads the final differences at the corners
  pub corners : StepAsWritten f differences_off corner_distance i j
  -- the final difference reads D two off
  pub enhancement : StepAsWritten f finals_off enhancement_distance i j
  -- D reads the trial differences as far as t reaches
  pub second_pass : StepAsWritten f greens_off (second_pass_distance reach) i j
  -- the trial differences, and every mean, read the samples that gradients and estimates are formed of
  pub gradients : StepAsWritten f (trials_off reach) gradient_distance i j
  -- all of it
  pub samples : ReadAsWritten f (reading_distance reach) i j

-- samples and colours about (i,j) of one frame and (i',j') of another are the same, as far as is read
pub record SameWindow (f f' : Frame) (i j i' j' : ℕ) : Type 0 where
  pub samples : (x y x' y' : ℕ) → x + i' ≡ x' + i → y + j' ≡ y' + j → Near (reading_distance reach) i x → Near (reading_distance reach) j y
      → sample f x y ≡ sample f' x' y'
  pub colours : (x y x' y' : ℕ) → x + i' ≡ x' + i → y + j' ≡ y' + j → Near (reading_distance reach) i x → Near (reading_distance reach) j y
      → colour f.phase x y ≡ colour f'.phase x' y'
