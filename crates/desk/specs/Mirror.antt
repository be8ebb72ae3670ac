pub mod Desk
pub mod Masks
pub mod Bytes
pub mod Moves
