pub mod Aborting
pub mod Asking
pub mod Claiming
pub mod Naming
pub mod Refusing
pub mod RunLaws
pub mod Ticking
