-- A turn of a stage of the sweep: step t of a stage that is L rows behind. Definitions alone. Assumes nothing.
use Rattle.std.specs.Prelude.{◌≡◌, List, ℕ, ◌+◌, ◌*◌, ◌-◌, ◌<◌, ◌≤◌, ℤ, pos}
use Rattle.toolkit.specs.Writes.{Wrote}
use Rattle.positions.specs.Rings.{place_in_ring}

-- row t − L is stored at its place, where it is one of the H rows, and else nothing is changed
pub record Turned {A : Type 0} (d : A) (place : ℕ → ℕ) (H L t s o : ℕ) (n : ℕ → ℕ) (q : ℕ → ℕ → A) (old new : List A) : Type 0 where
  pub here : L ≤ t → t < H + L → Wrote d (place (t - L) * s + o) (n (t - L)) (q (t - L)) old new
  pub early : t < L → new ≡ old
  pub late : H + L ≤ t → new ≡ old

-- each row has a place of its own
abbrev pub Turn : ℕ → ℕ → ℕ → ℕ → ℕ → (ℕ → ℕ) → (ℕ → ℕ → ℤ) → List ℤ → List ℤ → Type 0
Turn = Turned (pos 0) (λ (r : ℕ). r)

-- the same in the map
abbrev pub MapTurn : ℕ → ℕ → ℕ → ℕ → ℕ → (ℕ → ℕ) → (ℕ → ℕ → ℕ) → List ℕ → List ℕ → Type 0
MapTurn = Turned 0 (λ (r : ℕ). r)

-- the rows share the places of a ring
abbrev pub RingTurn : ℕ → ℕ → ℕ → ℕ → ℕ → (ℕ → ℕ) → (ℕ → ℕ → ℤ) → List ℤ → List ℤ → Type 0
RingTurn = Turned (pos 0) place_in_ring
