pub mod ReadJobs
pub mod ShapedJobs
pub mod Laws
