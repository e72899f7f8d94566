pub mod Answer
pub mod Children
pub mod Explaining
pub mod Stores
