pub mod Sequent
pub mod File
pub mod Hypotheses
-- what mirrors the code
pub mod Mirror
