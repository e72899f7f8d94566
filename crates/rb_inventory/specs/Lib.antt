pub mod Tags
pub mod Attributes
pub mod Listings
pub mod ListingsView
pub mod Inventories
pub mod Laws
