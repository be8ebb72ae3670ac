pub mod Lent
pub mod Outcome
pub mod Mirror
