pub mod KeptOnce
pub mod Stopping
pub mod Filtering
pub mod Lawful
pub mod Marking
