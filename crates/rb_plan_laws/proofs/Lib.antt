pub mod Firsts
pub mod Included
