pub mod Accepted
pub mod ReadFile
pub mod Counts
pub mod Mirror
