pub mod Meaning
pub mod Scan
pub mod Marking
