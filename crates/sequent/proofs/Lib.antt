-- What the crate proves. The theorems for callers: FileIs (a file is read just if it is the encoding of an accepted sequent).
--   Predicates      hypotheses that are predicates, one by one
--   SeenIs          what holds of what was read; one predicate
--   FileRead, FileBack, FileIs   encode, then read; read, then encode
--   HypothesesLaws  one more hypothesis; OpenLaws: the whole file
--   CountLaws       the ones of the masks are the counts that reading answers
pub mod Predicates
pub mod SeenIs
pub mod FileRead
pub mod FileBack
pub mod FileIs
pub mod HypothesesLaws
pub mod OpenLaws
pub mod CountLaws
