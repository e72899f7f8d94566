pub mod Checks
pub mod Upcoming
