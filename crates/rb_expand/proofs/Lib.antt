mod Rows
pub mod Cutting
