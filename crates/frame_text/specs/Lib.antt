pub mod Composes
pub mod PlanesText
pub mod Room
pub mod Reads
pub mod Buffers
pub mod Composing
pub mod Developed
pub mod TextLeft
