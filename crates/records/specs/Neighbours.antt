-- E of a site is W two columns east, and S is N two rows down, also where that is no site of the frame. Assumes nothing.
use Rattle.std.specs.Prelude.{◌≡◌, ℕ, ◌+◌, ◌≤◌, ℤ, pos, neg_ℤ, ◌+ℤ◌}
use Rattle.std.proofs.Math.Path.{sym, ap}
use Rattle.std.proofs.Common.{arith}
use Rattle.std.proofs.Math.IntN.{sub_ℕ}
use Rattle.toolkit.specs.Orders.{to_naturals}
use Rattle.frame.specs.Sites.{Frame, around, reflect}
use Rattle.method.specs.Gradients.{Mosaic, mosaic, samples_around, exchanged, gradients, gradients_at, east_gradient, west_gradient}
use Rattle.positions.specs.HalfRows.{chroma_start, in_halves}
use Rattle.positions.specs.HalfRowLaws.{chroma_even}
use Rattle.records.specs.Quantities.{norths, souths}
use Rattle.records.specs.GradientAlike.{eastbound_alike}

two_back : (j n : ℕ) → pos (j + 2) +ℤ (neg_ℤ (pos 2) +ℤ sub_ℕ n 2) ≡ pos j +ℤ (pos 0 +ℤ sub_ℕ n 2)
two_back j n = simp to_naturals (omega arith)

module _ (m : Mosaic) (i j : ℕ) where
  pub east_is_west : (gradients_at m i j).east ≡ (gradients_at m i (j + 2)).west
  unfolding gradients_at gradients west_gradient east_gradient around
  east_is_west =
      sym (eastbound_alike (samples_around m i (j + 2)) (samples_around m i j) (neg_ℤ (pos 2)) (pos 0)
      (one (neg_ℤ (pos 1))) (one (pos 0)) (one (pos 1)))
    where
      one : (r : ℤ) (n : ℕ) → n ≤ 6 → samples_around m i (j + 2) r (neg_ℤ (pos 2) +ℤ sub_ℕ n 2) ≡ samples_around m i j r (pos 0 +ℤ sub_ℕ n 2)
      one r n l = ap (λ (x : ℤ). m.sample_at (reflect m.height (pos i +ℤ r)) (reflect m.width x)) (two_back j n)

  pub south_is_north : (gradients_at m i j).south ≡ (gradients_at m (i + 2) j).north
  unfolding gradients_at gradients west_gradient east_gradient around
  south_is_north =
      sym (eastbound_alike (exchanged (samples_around m (i + 2) j)) (exchanged (samples_around m i j)) (neg_ℤ (pos 2)) (pos 0)
      (one (neg_ℤ (pos 1))) (one (pos 0)) (one (pos 1)))
    where
      one : (r : ℤ) (n : ℕ) → n ≤ 6 → samples_around m (i + 2) j (neg_ℤ (pos 2) +ℤ sub_ℕ n 2) r ≡ samples_around m i j (pos 0 +ℤ sub_ℕ n 2) r
      one r n l = ap (λ (x : ℤ). m.sample_at (reflect m.height x) (reflect m.width (pos j +ℤ r))) (two_back i n)

-- rows two apart start their halves at the same column
pub start_two_down : (p i : ℕ) → chroma_start p i ≡ chroma_start p (i + 2)
start_two_down p i = chroma_even p (i + 2) i (omega arith)

-- N two rows down is S, in halves
pub south_from_north : (f : Frame) (i k : ℕ) → in_halves f (norths f) (i + 2) k ≡ in_halves f (souths f) i k
unfolding in_halves norths souths
south_from_north f i k = rw (sym (start_two_down f.phase i)) (ap pos (sym (south_is_north (mosaic f) i _)))
