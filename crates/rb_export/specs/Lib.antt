pub mod Groups
pub mod Policies
pub mod Slots
pub mod Words
pub mod Jobs
pub mod Exports
