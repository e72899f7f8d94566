pub mod Writable
pub mod Trees
pub mod Laws
