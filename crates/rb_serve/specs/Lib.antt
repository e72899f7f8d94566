pub mod Crews
pub mod Doors
pub mod Ends
pub mod Passes
pub mod Roles
pub mod Served
pub mod Serving
pub mod Words
