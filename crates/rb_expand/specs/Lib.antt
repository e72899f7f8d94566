pub mod Pieces
pub mod Expanded
pub mod Cut
