pub mod Leaves
pub mod LentBytes
