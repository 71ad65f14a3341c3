-- Laws of the count of blocks, for m samples. Assumes nothing.
use Rattle.std.specs.Prelude.{ℕ, ◌*◌, ◌-◌, ◌≤◌, ◌<◌}
use Rattle.std.proofs.Common.{arith}
use Rattle.frame_file.specs.FrameFile.{block_count}

pub some_blocks : (m : ℕ) → 1 ≤ block_count m
unfolding block_count
some_blocks m = omega arith

pub block_count_most : (m : ℕ) → m ≤ 16777216 → block_count m ≤ 41945
unfolding block_count
block_count_most m h = omega arith

-- the later blocks have place for all samples
pub blocks_hold : (m : ℕ) → m ≤ 400 * (block_count m - 1)
unfolding block_count
blocks_hold m = omega arith

-- each of them starts at a sample or at the end
pub block_starts : (m n : ℕ) → n < block_count m → 400 * (n - 1) ≤ m
unfolding block_count
block_starts m n h = omega arith

-- a block that starts at a sample is one of them
pub block_inside : (m n : ℕ) → 1 ≤ n → 400 * (n - 1) < m → n < block_count m
unfolding block_count
block_inside m n h l = omega arith

pub block_after_header : (m i : ℕ) → 400 * i < m → i < block_count m - 1
unfolding block_count
block_after_header m i h = omega arith
