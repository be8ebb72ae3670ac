-- What a reader must believe of keys: document 01's "Substitutes" on trees, and what it means that they are right.
pub mod Strip
pub mod Keys
pub mod Substitutes
pub mod Sound
-- what the code does on bytes
pub mod Mirror
