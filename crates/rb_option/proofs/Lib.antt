pub mod Parts
pub mod Pairing
pub mod Settled
