pub mod Roundings
