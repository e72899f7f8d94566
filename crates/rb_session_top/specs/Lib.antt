pub mod Words
pub mod Sights
pub mod Stories
pub mod Sessions
