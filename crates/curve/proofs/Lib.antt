pub mod EveryEntry
pub mod Plane
