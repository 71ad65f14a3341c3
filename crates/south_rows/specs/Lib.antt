pub mod SevenRows
pub mod SevenRowLaws
pub mod NorthRows
pub mod Lent
