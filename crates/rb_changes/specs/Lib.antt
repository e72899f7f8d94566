pub mod Dues
pub mod Firing
pub mod Openings
pub mod Places
pub mod PolicyFiles
pub mod Unchanged
