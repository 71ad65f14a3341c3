pub mod BlockTest
