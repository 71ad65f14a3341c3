pub mod Picked
pub mod Choices
pub mod Across
pub mod Forming
pub mod Resolving
pub mod Picking
pub mod MapRows
