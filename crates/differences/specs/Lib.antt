pub mod Rows
pub mod EnhanceRow
pub mod DiagonalRow
