-- The end of the sweep: every row of the planes and of the map is stored. Assumes nothing.
use Rattle.std.specs.Prelude.{◌≡◌, List, ℕ, ◌+◌, ◌*◌, ◌/◌, ◌%◌, ◌≤◌, ℤ, length, get_or}
use Rattle.std.proofs.Common.{subst, div-add-mod', mod-lt, div-lt_iff_lt-mul, arith}
use Rattle.toolkit.specs.Raster.{raster}
use Rattle.toolkit.specs.Tables.{is_tabulate}
use Rattle.frame.specs.Sites.{Frame, Colour}
use Rattle.method.specs.Green.{decision_map}
use Rattle.method.specs.Planes.{plane}
use Rattle.positions.specs.Taken.{Taken}
use Rattle.records.specs.Held.{Stands}
use Rattle.records.specs.TurnLaws.{held_part}
use Rattle.records.specs.Quantities.{outputs, decisions}
use Rattle.records.specs.Stages.{PlaneSize}
use Rattle.sweep.specs.Invariant.{Sweep, Shown}

held_all : {A : Type 0} {d : A} (H W : ℕ) (q : ℕ → ℕ → A) (buffer : List A) → 2 ≤ W → length buffer ≡ H * W
    → Stands d (λ (r : ℕ). r) W 0 (λ r. W) 0 H q buffer → buffer ≡ raster H W q
unfolding raster
held_all {A} {d} H W q buffer wide size h = is_tabulate (H * W) (λ (k : ℕ). q (k / W) (k % W)) buffer d size (λ k l.
    let e : k / W * W + 0 + k % W ≡ k = omega (arith, div-add-mod' k W) in
    subst (λ (x : ℕ). get_or buffer x d ≡ q (k / W) (k % W)) e
    (h.row (k / W) (omega arith) ((div-lt_iff_lt-mul {k = W} {x = k} {y = H} (omega arith)).1 l) (k % W) (mod-lt k (omega arith))))

shown_all : (f : Frame) (black t : ℕ) (c : Colour) (buffer : List ℤ) → Taken f → t ≡ f.height + 20 → PlaneSize f buffer
    → Shown f black t c buffer → buffer ≡ plane f black c
unfolding plane outputs
shown_all f black t c buffer taken e size h =
    held_all f.height f.width (outputs f black c) buffer taken.wide size (held_part h (omega arith) (omega arith))

pub sweep_all : (f : Frame) (black t : ℕ) (tops work red green blue : List ℤ) (map : List ℕ) → t ≡ f.height + 20
    → Sweep f black t t t t t tops work red green blue map
    → (red ≡ plane f black Colour.red) × (green ≡ plane f black Colour.green) × (blue ≡ plane f black Colour.blue) × (map ≡ decision_map f)
unfolding decision_map decisions
sweep_all f black t tops work red green blue map e s = (
  shown_all f black t Colour.red red s.buffers.taken e s.red_size s.reds,
  shown_all f black t Colour.green green s.buffers.taken e s.green_size s.greens_shown,
  shown_all f black t Colour.blue blue s.buffers.taken e s.blue_size s.blues,
  held_all f.height f.width (decisions f) map s.buffers.taken.wide s.map_size (held_part s.decided (omega arith) (omega arith)),
)
