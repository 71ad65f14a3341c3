-- What develop is given to develop: a frame, and the black level to develop it at. Definitions alone. Assumes nothing.
use Rattle.std.specs.Prelude.{ℕ}
use Rattle.frame.specs.Sites.{Frame}

pub record Given : Type 0 where
  pub frame : Frame
  pub black : ℕ

abbrev pub given_at : Frame → ℕ → Given
given_at f b = record { frame = f; black = b }
