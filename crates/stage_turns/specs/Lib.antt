pub mod Distances
pub mod RowsDue
pub mod Turned
