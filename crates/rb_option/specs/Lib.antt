pub mod Parting
pub mod Settled
pub mod Arguments
pub mod Laws
