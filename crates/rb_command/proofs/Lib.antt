pub mod FaultLines
pub mod Decimals
