pub mod Forms
pub mod Keys
pub mod Rules
pub mod Manifests
pub mod Laws
