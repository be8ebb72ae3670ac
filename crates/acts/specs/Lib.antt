pub mod Acts
pub mod Outcomes
-- what mirrors the code
pub mod Mirror
