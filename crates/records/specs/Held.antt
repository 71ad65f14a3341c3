-- What the rows of a buffer hold. Definitions alone. Assumes nothing.
use Rattle.std.specs.Prelude.{◌≡◌, List, ℕ, ◌+◌, ◌*◌, ◌<◌, ◌≤◌, ℤ, pos, get_or}
use Rattle.positions.specs.Rings.{place_in_ring}

-- the rows from lo to hi − 1 hold q: row r stands from place r · s + o on, and has n r entries
pub record Stands {A : Type 0} (d : A) (place : ℕ → ℕ) (s o : ℕ) (n : ℕ → ℕ) (lo hi : ℕ) (q : ℕ → ℕ → A) (buffer : List A) : Type 0 where
  pub row : (r : ℕ) → lo ≤ r → r < hi → (k : ℕ) → k < n r → get_or buffer (place r * s + o + k) d ≡ q r k

-- each row has a place of its own
abbrev pub Held : ℕ → ℕ → (ℕ → ℕ) → ℕ → ℕ → (ℕ → ℕ → ℤ) → List ℤ → Type 0
Held = Stands (pos 0) (λ (r : ℕ). r)

-- the same in the map
abbrev pub MapHeld : ℕ → ℕ → (ℕ → ℕ) → ℕ → ℕ → (ℕ → ℕ → ℕ) → List ℕ → Type 0
MapHeld = Stands 0 (λ (r : ℕ). r)

-- the rows share the places of a ring
abbrev pub Kept : ℕ → ℕ → (ℕ → ℕ) → ℕ → ℕ → (ℕ → ℕ → ℤ) → List ℤ → Type 0
Kept = Stands (pos 0) place_in_ring
