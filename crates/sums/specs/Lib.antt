pub mod Sums
pub mod Gaps
pub mod Nearby
pub mod Sizes
pub mod Steps
pub mod Widening
pub mod Room
