pub mod CallsMade
pub mod Conditions
pub mod Rows
pub mod ReadRows
pub mod ToneCurve
