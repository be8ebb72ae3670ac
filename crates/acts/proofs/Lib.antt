-- What the crate proves. The theorems for callers: ActsKeep and ChangedIs.
--   ActsKeep      acts lose nothing, and give accepted sequents where there is room
--   ChangedIs     when an act answers "changed"; an accepted sequent that does not differ is the same
--   ViewLaws      views differ just if their sequents do
--   Ranges        the parts of an opened sequent
--   AnswerLaws    buffers read one after the other: the first refusal is the answer
--   FlagLaws      an act on one flag
--   RewriteLaws   rewrite, of lists that are read; ModifyLaws: modify
pub mod ActsKeep
pub mod ChangedIs
pub mod Ranges
pub mod ViewLaws
pub mod AnswerLaws
pub mod FlagLaws
pub mod RewriteLaws
pub mod ModifyLaws
