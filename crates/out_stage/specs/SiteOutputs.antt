-- The differences and the outputs of a site by its colour: red and blue by one law each. Assumes nothing.
use Rattle.std.specs.Prelude.{◌≡◌, refl, false, ℕ, pos, ◌+ℤ◌, ◌-ℤ◌, ◌*ℤ◌}
use Rattle.std.proofs.Math.Path.{sym}
use Rattle.std.proofs.Common.{◌∙◌, true≢false}
use Rattle.frame.specs.Sites.{Frame, Colour, red, green, blue}
use Rattle.frame.specs.Colours.{trade, is_green}
use Rattle.frame.proofs.Colours.{trade_twice}
use Rattle.method.specs.Gradients.{Mosaic, mosaic, around_in, gradients_at}
use Rattle.method.proofs.ColourLaws.{same_self}
use Rattle.method.specs.Planes.{straight_gradients, mean_under, straight, same, final_difference, chroma_site_difference, colour_difference, green_quarters, quarters, final_round, output}
use Rattle.records.specs.Quantities.{others}

same_green : (c : Colour) → same c green ≡ is_green c
same_green red = refl
same_green green = refl
same_green blue = refl

module _ (m : Mosaic) (c : Colour) (i j : ℕ) where
  -- of its own colour
  pub own_difference : m.colour_at i j ≡ c → final_difference m i j ≡ chroma_site_difference m c i j
  unfolding chroma_site_difference
  own_difference e = sym (rw (e, same_self c))

  -- at a green site
  pub mean_difference : m.colour_at i j ≡ green
      → mean_under straight_gradients (gradients_at m i j) (straight 1 (around_in m (chroma_site_difference m c) i j)) ≡ colour_difference m c i j
  unfolding colour_difference
  mean_difference e = sym (rw e)

  -- "A measured colour is output as measured."
  pub measured_output : m.colour_at i j ≡ c → m.sample_at i j ≡ output m c i j
  unfolding output
  measured_output e = sym (rw (e, same_self c))

-- of the colour that a red or blue site does not measure
pub other_difference : (f : Frame) (c : Colour) (i j : ℕ) → (mosaic f).colour_at i j ≡ trade c → others f i j ≡ chroma_site_difference (mosaic f) c i j
unfolding others
other_difference f c i j e = rw (e, trade_twice c)

-- green at a red or blue site
pub green_output : (m : Mosaic) (i j : ℕ) → is_green (m.colour_at i j) ≡ false
    → final_round (final_difference m i j +ℤ pos 4 *ℤ m.sample_at i j) ≡ output m green i j
unfolding output quarters green_quarters
green_output m i j e = sym (rw (same_green (m.colour_at i j) ∙ e))

-- the other of red and blue there
pub other_output : (m : Mosaic) (c : Colour) (i j : ℕ) → is_green c ≡ false → m.colour_at i j ≡ trade c
    → final_round (final_difference m i j +ℤ pos 4 *ℤ m.sample_at i j -ℤ chroma_site_difference m c i j) ≡ output m c i j
unfolding output quarters green_quarters colour_difference
other_output m red i j h e = sym (rw e)
other_output m green i j h e = absurd (true≢false h)
other_output m blue i j h e = sym (rw e)

-- red or blue at a green site
pub missing_output : (m : Mosaic) (c : Colour) (i j : ℕ) → is_green c ≡ false → m.colour_at i j ≡ green
    → final_round (pos 4 *ℤ m.sample_at i j -ℤ colour_difference m c i j) ≡ output m c i j
unfolding output quarters green_quarters
missing_output m red i j h e = sym (rw e)
missing_output m green i j h e = absurd (true≢false h)
missing_output m blue i j h e = sym (rw e)
