mod Lists
mod Numbered
mod Claimed
mod Reported
mod Logged
pub mod Records
mod Withdrawn
mod Ticked
pub mod WorkPrograms
pub mod Worked
mod Stopped
mod OneTask
mod Pumps
mod PumpRows
mod WorkedOn
