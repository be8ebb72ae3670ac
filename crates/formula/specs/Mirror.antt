pub mod PackedTable
pub mod Bytes
pub mod Ranges
