-- What the crate proves. The theorem for callers: LentAre (what is lent is read just if it is the encoding of formulas).
--   LentAre         formulas and lists that are lent
--   BufferLaws      a lent predicate, and the formulas of a list, one more at a time
--   Finishes        what is written is the file; Room: too much is 14
pub mod LentAre
pub mod BufferLaws
pub mod Finishes
pub mod Room
