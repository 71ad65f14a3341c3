-- What is known once write has made its tests. Definitions alone. Assumes nothing.
use Rattle.std.specs.Prelude.{◌≡◌, List, ℕ, ◌*◌, ◌≤◌, length}
use Rattle.frame.specs.declared.Shape.{Shape}
use Rattle.frame_file.specs.Lists.{Below}
use Rattle.frame_file.specs.FrameFile.{block_count}

-- a frame that is admitted, and a file of its length
pub record Ready (shape : Shape) (mosaic : List ℕ) (file_length : ℕ) : Type 0 where
  pub phase_small : shape.phase ≤ 3
  pub count : length mosaic ≡ shape.height * shape.width
  pub most : length mosaic ≤ 16777216
  pub samples_small : Below 1024 mosaic
  pub size : file_length ≡ 512 * block_count (length mosaic)
