pub mod Blocks
pub mod Files
pub mod Answers
