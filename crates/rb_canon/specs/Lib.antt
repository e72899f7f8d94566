pub mod Values
pub mod Layout
pub mod Views
pub mod Puts
