pub mod Opened
pub mod ReadBytes
