pub mod Tests
pub mod Samples
pub mod Readings
