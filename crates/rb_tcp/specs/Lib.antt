pub mod Left
pub mod LineState
pub mod Bounded
