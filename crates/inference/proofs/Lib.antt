-- What the crate proves, from the ground up.
--   SourceLaws    sources weighed
--   InferLaws     formulas inferred
pub mod SourceLaws
pub mod InferLaws
