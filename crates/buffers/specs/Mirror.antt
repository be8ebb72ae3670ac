pub mod Buffers
pub mod WriteBytes
