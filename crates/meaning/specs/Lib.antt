-- What a reader must believe of the meaning of formulas, from the ground up.
pub mod Defined
pub mod Value
pub mod Sets
pub mod Operators
pub mod Fold
pub mod Valuation
pub mod Meaning
pub mod Refutes
