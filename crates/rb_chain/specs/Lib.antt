pub mod Forms
pub mod Chains
pub mod Nexts
pub mod Laws
pub mod Following
