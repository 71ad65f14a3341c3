pub mod Loads
pub mod Invariant
pub mod Reads
pub mod Steps
pub mod End
