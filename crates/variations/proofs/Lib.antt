-- The map of what the crate proves. For callers: Answering (what the code answers is what the entries of crate keys say).

-- Laws: what the functions need of a relation's place and the first key
pub mod Laws
-- LiteralIs: which literal a side is, by its bytes
pub mod LiteralIs
-- SourceIs: a relational source's sides, conditions and shape on bytes are those of the tree
pub mod SourceIs
-- KeyAnswers: a row's answer is that of the entry at its position
pub mod KeyAnswers
-- Answering: a source answers, position by position and as a whole, what its entries say
pub mod Answering
