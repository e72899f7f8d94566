pub mod Parts
pub mod Desks
pub mod Boards
