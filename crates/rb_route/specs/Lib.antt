pub mod Routes
pub mod Router
