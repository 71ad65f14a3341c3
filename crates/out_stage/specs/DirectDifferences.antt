-- What the row of means reads are the differences of a green site's direct neighbours, so that each mean is a difference of the site.
-- Assumes nothing.
use Rattle.std.specs.Prelude.{◌≡◌, refl, ℕ, ◌+◌, ◌*◌, ◌-◌, ◌/◌, ◌%◌, ◌<◌, ◌≤◌, ℤ, pos, neg_ℤ, nat_abs, ◌+ℤ◌}
use Rattle.std.proofs.Common.{◌∙◌, arith, lit≤}
use Rattle.std.proofs.Math.Path.{ap}
use Rattle.std.proofs.Math.Nat.{le_trans}
use Rattle.std.proofs.Math.IntN.{sub_ℕ}
use Rattle.toolkit.specs.Orders.{to_naturals}
use Rattle.frame.specs.Sites.{Frame, highest_sample, Colour, colour, around}
use Rattle.frame.specs.Colours.{trade}
use Rattle.method.specs.Gradients.{FourDirections, mosaic, around_in, gradients_at}
use Rattle.method.specs.Four.{sizes}
use Rattle.method.proofs.ColourLaws.{directions_path}
use Rattle.method.specs.Planes.{straight_gradients, mean_under, straight, chroma_site_difference, colour_difference}
use Rattle.method.specs.Sizes.{AtMost}
use Rattle.method.proofs.Sizes.{around_size, final_difference_size, chroma_site_difference_size}
use Rattle.positions.specs.Taken.{Taken}
use Rattle.positions.specs.HalfRows.{chroma_start, half_count}
use Rattle.records.specs.Layout.{record_size, final_part, other_part}
use Rattle.records.specs.Quantities.{finals, others}
use Rattle.records.specs.SiteColours.{row_colour, second_half_green}
use Rattle.out_stage.specs.RowColours.{beside_colour, off_colour}
use Rattle.out_stage.specs.SiteOutputs.{mean_difference}

-- ---- sizes
module _ (f : Frame) (t : Taken f) (i j : ℕ) (hi : i < f.height) (hj : j < f.width) where
  pub finals_size : nat_abs (finals f i j) ≤ 4096
  unfolding finals highest_sample
  finals_size = le_trans (final_difference_size f t.tall t.wide t.ranged i j hi hj) (lit≤ tt)

  pub others_size : nat_abs (others f i j) ≤ 4096
  unfolding others highest_sample
  others_size = le_trans (chroma_site_difference_size f t.tall t.wide t.ranged _ i j hi hj) (lit≤ tt)

-- ---- the entries beside green site k in a half row that starts at column c
pub east_step : (c d k : ℕ) → c ≡ d → c ≤ 1 → sub_ℕ (c + 2 * (k + 4 - c + 1)) 8 ≡ pos (1 - d + 2 * k) +ℤ pos 1
east_step c d k e l = simp to_naturals (omega arith)

pub west_step : (c d k : ℕ) → c ≡ d → c ≤ 1 → sub_ℕ (c + 2 * (k + 4 - c)) 8 ≡ pos (1 - d + 2 * k) +ℤ neg_ℤ (pos 1)
west_step c d k e l = simp to_naturals (omega arith)

pub beside_room : (W c k : ℕ) → c ≤ 1 → k < W - half_count W c → k + 4 - c + 1 < half_count W c + 4 + 1
unfolding half_count
beside_room W c k l h = omega arith

pub green_column : (c k : ℕ) → c ≤ 1 → ¬ ((1 - c + 2 * k) % 2 ≡ c)
green_column c k l e = omega arith

-- a part of a record holds the differences of half a row
pub final_room : (W n s r : ℕ) → 2 ≤ W → n ≤ (W + 1) / 2 → r * record_size W + record_size W ≤ s → r * record_size W + final_part W + n ≤ s
final_room W n s r w l h = omega arith

pub other_room : (W n s r : ℕ) → 2 ≤ W → n ≤ (W + 1) / 2 → r * record_size W + record_size W ≤ s → r * record_size W + other_part W + n ≤ s
other_room W n s r w l h = omega arith

-- the four numbers that stand beside a site: of q in its own row, of q' in the rows one off
abbrev pub four_beside : Frame → (ℕ → ℕ → ℤ) → (ℕ → ℕ → ℤ) → ℕ → ℕ → FourDirections ℤ
four_beside f q q' i j = record {
  east = around f.height f.width q i j (pos 0) (pos 1);
  west = around f.height f.width q i j (pos 0) (neg_ℤ (pos 1));
  south = around f.height f.width q' i j (pos 1) (pos 0);
  north = around f.height f.width q' i j (neg_ℤ (pos 1)) (pos 0);
}

pub four_beside_size : (f : Frame) → Taken f → (q q' : ℕ → ℕ → ℤ) (i j : ℕ) → ((a b : ℕ) → a < f.height → b < f.width → nat_abs (q a b) ≤ 4096)
    → ((a b : ℕ) → a < f.height → b < f.width → nat_abs (q' a b) ≤ 4096) → AtMost 4096 (sizes (four_beside f q q' i j))
unfolding mosaic
four_beside_size f t q q' i j h h' = record {
  east_most = around_size f t.tall t.wide 4096 q h i j (pos 0) (pos 1);
  west_most = around_size f t.tall t.wide 4096 q h i j (pos 0) (neg_ℤ (pos 1));
  south_most = around_size f t.tall t.wide 4096 q' h' i j (pos 1) (pos 0);
  north_most = around_size f t.tall t.wide 4096 q' h' i j (neg_ℤ (pos 1)) (pos 0);
}

-- of which the mean at a green site is a difference of the site: the neighbours' colours tell which difference each of them gives
module _ (f : Frame) (t : Taken f) (c : Colour) (q q' : ℕ → ℕ → ℤ) (i j : ℕ) (green_site : ¬ (j % 2 ≡ chroma_start f.phase i))
    (beside : (a b : ℕ) → colour f.phase a b ≡ row_colour f.phase i → q a b ≡ chroma_site_difference (mosaic f) c a b)
    (off : (a b : ℕ) → colour f.phase a b ≡ trade (row_colour f.phase i) → q' a b ≡ chroma_site_difference (mosaic f) c a b) where
  beside_straight : four_beside f q q' i j ≡ straight 1 (around_in (mosaic f) (chroma_site_difference (mosaic f) c) i j)
  unfolding straight around mosaic
  beside_straight = directions_path
      (beside _ _ (beside_colour f.height f.width f.phase i j t.tall t.wide green_site (pos 1) refl))
      (beside _ _ (beside_colour f.height f.width f.phase i j t.tall t.wide green_site (neg_ℤ (pos 1)) refl))
      (off _ _ (off_colour f.height f.width f.phase i j t.tall t.wide green_site (pos 1) refl))
      (off _ _ (off_colour f.height f.width f.phase i j t.tall t.wide green_site (neg_ℤ (pos 1)) refl))

  pub mean_beside : mean_under straight_gradients (gradients_at (mosaic f) i j) (four_beside f q q' i j) ≡ colour_difference (mosaic f) c i j
  unfolding mosaic
  mean_beside = ap (mean_under straight_gradients (gradients_at (mosaic f) i j)) beside_straight
      ∙ mean_difference (mosaic f) c i j (second_half_green f.phase i j green_site)
