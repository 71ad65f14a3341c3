mod Lines
pub mod NeverEmpty
