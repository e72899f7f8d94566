pub mod Samples
pub mod SoFar
pub mod Heads
pub mod Pieces
pub mod Turns
