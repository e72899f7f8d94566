pub mod Light
pub mod Matching
pub mod Values
pub mod Causes
pub mod Truths
