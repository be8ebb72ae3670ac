pub mod Node
pub mod Shape
pub mod Walk
