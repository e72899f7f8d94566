pub mod Parts
pub mod OneLog
pub mod Statuses
pub mod Steady
