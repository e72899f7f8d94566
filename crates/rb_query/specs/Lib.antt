pub mod Statuses
pub mod Queries
