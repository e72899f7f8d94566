pub mod Grouping
mod Thousands
mod Slotted
mod Pushed
