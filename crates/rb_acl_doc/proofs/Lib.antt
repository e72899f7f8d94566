pub mod Walks
pub mod Foremost
pub mod Ends
pub mod Structure
pub mod Documents
pub mod Numbered
mod Told
