pub mod Seeking
pub mod Cutting
pub mod Words
pub mod Found
pub mod Routed
pub mod Finding
mod RouterRows
