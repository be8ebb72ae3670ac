-- What a reader must believe of a source's answers; the entries themselves are in crate keys.
pub mod Answers
-- what the code does on bytes
pub mod Mirror
