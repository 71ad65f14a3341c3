pub mod ShapeTest
pub mod InOrder
pub mod Allowed
pub mod Extremes
