pub mod Formula
pub mod Sequent
