pub mod Admission
pub mod Order
pub mod Clamped
