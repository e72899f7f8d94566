pub mod Texts
pub mod Forms
pub mod Keys
pub mod Telling
pub mod Policies
pub mod Patterns
pub mod Reading
pub mod Laws
