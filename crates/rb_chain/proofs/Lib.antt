pub mod Undos
pub mod NextLaws
pub mod Steps
pub mod Asks
mod Firsts
mod ChainLaws
