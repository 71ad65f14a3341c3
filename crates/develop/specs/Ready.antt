-- A frame, a black level and lengths for which develop answers Ok: the sweep takes the first two, and every buffer has its room. Assumes
-- nothing.
use Rattle.std.specs.Prelude.{◌≡◌, ℕ, ◌*◌, ◌≤◌, leb, eqb}
use Rattle.std.proofs.Common.{arith}
use Rattle.toolkit.specs.Tests.{is_true, leb_le, eqb_eq, and_true}
use Rattle.frame.specs.Sites.{Frame, highest_sample}
use Rattle.answers.specs.Calls.{highest_black, lengths_fit, lengths_allowed, develop_answer, Admitted, no_refusal}
use Rattle.answers.specs.declared.Lengths.{Lengths}
use Rattle.frame.proofs.Sites.{side_low, side_high, phase_high}
use Rattle.answers.proofs.Admission.{sample_high, done_admitted}
use Rattle.positions.specs.Taken.{Taken}

pub record Ready (f : Frame) (b : ℕ) (l : Lengths) : Type 0 where
  pub taken : Taken f
  pub black_low : b ≤ 255
  pub red_size : l.red ≡ f.height * f.width
  pub green_size : l.green ≡ f.height * f.width
  pub blue_size : l.blue ≡ f.height * f.width
  pub map_size : l.map ≡ f.height * f.width
  pub work_size : f.height * (4 * f.width) ≤ l.work

pub admitted_taken : (f : Frame) → Admitted f → Taken f
unfolding highest_sample
admitted_taken f a = record {
  wide = side_low a.width_allowed;
  narrow = side_high a.width_allowed;
  tall = side_low a.height_allowed;
  low = side_high a.height_allowed;
  phase_small = phase_high a.phase_is_allowed;
  full = a.samples_count;
  ranged = sample_high f a;
}

pub done_ready : (f : Frame) (b : ℕ) (l : Lengths) → develop_answer f b l ≡ no_refusal → Ready f b l
unfolding lengths_allowed lengths_fit highest_black
done_ready f b l e =
    let n : ℕ = f.height * f.width in
    let done = done_admitted f b l e in
    let red = and_true (eqb l.red n) _ (is_true _ done.0) in
    let green = and_true (eqb l.green n) _ red.1 in
    let blue = and_true (eqb l.blue n) _ green.1 in
    let map = and_true (eqb l.map n) (leb (4 * n) l.work) blue.1 in
    let work : 4 * (f.height * f.width) ≤ l.work = leb_le _ _ map.1 in
    record {
      taken = admitted_taken f done.1.admitted;
      black_low = done.1.black_low;
      red_size = eqb_eq _ _ red.0;
      green_size = eqb_eq _ _ green.0;
      blue_size = eqb_eq _ _ blue.0;
      map_size = eqb_eq _ _ map.0;
      work_size = omega arith;
    }
