mod Permitted
mod Putting
mod Readings
pub mod ProjectShows
pub mod Shows
pub mod States
