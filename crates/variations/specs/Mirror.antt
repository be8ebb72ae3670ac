pub mod SourceBytes
pub mod Positions
