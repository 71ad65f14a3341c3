pub mod RowSums
pub mod EastRows
pub mod SumLaws
pub mod EastLaws
pub mod LineLaws
