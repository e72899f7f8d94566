pub mod Stores
pub mod Tables
pub mod Passing
