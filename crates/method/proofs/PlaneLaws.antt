-- The planes and the map at a site, and the final difference of equal shares and differences. Assumes nothing.
use Rattle.std.specs.Prelude.{◌≡◌, refl, ℕ, ◌<◌, ℤ, pos}
use Rattle.toolkit.specs.Raster.{getD_raster}
use Rattle.frame.specs.Sites.{Frame, Colour}
use Rattle.method.specs.Gradients.{mosaic}
use Rattle.method.specs.Green.{decision_entry, decision_map}
use Rattle.method.specs.Planes.{fused, output, less_black, plane, number_at, entry_at}

pub same_fused : {share share' : ℕ} {D D' M M' : ℤ} → share ≡ share' → D ≡ D' → M ≡ M' → fused share D M ≡ fused share' D' M'
same_fused e d m = rw (e, d, m) refl

-- the number at (i,j) is the output there, less the black level
pub number_is_output : (f : Frame) (b : ℕ) (c : Colour) (i j : ℕ) → i < f.height → j < f.width
    → number_at f b c i j ≡ less_black b (output (mosaic f) c i j)
unfolding number_at plane
number_is_output f b c i j hi hj = getD_raster f.height f.width (λ i j. less_black b (output (mosaic f) c i j)) i j (pos 0) hi hj

-- the entry at (i,j) is the code of the decision there
pub entry_is_code : (f : Frame) (i j : ℕ) → i < f.height → j < f.width → entry_at f i j ≡ decision_entry (mosaic f) i j
unfolding entry_at decision_map
entry_is_code f i j hi hj = getD_raster f.height f.width (decision_entry (mosaic f)) i j 0 hi hj
