-- what mirrors the code
pub mod Mirror
