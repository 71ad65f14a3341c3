pub mod Naturals
pub mod Products
pub mod Zeros
pub mod Lifts
pub mod Listed
