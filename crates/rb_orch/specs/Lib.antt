pub mod Drawing
pub mod Bounding
pub mod Ranking
pub mod Tiering
pub mod Picking
pub mod Laws
