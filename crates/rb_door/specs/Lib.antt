pub mod Exchanges
pub mod Serving
pub mod Guests
pub mod Doors
pub mod Laws
pub mod Standing
pub mod Answering
