pub mod Stripping
pub mod PackedKeys
pub mod Constants
pub mod RowTests
