-- The map of what the crate proves. For callers: Soundness and Typing (the lists are right), TableIs and RowIs (the table and a row's test are the lists'), StripIs.

-- Laws: what the functions need of stripping
pub mod Laws
-- TableIs: the packed table is the lists, group by group and column by column
pub mod TableIs
-- RowIs: a row's test on bytes is the test whether its key is the predicate asked
pub mod RowIs
-- Standing: a formula that stands in a buffer, its first byte, operands and range
pub mod Standing
-- StripIs: stripping on bytes is stripping on trees, and keeps acceptance
pub mod StripIs
-- SideTypes: the types of the sides of a relation
pub mod SideTypes
-- Worlds: every row of every list is right in each order of two numbers and 0, and each inclusion of two sets
pub mod Worlds
-- Holds: so the keys of one relation have the values of their entries
pub mod Holds
-- Soundness: where an accepted source has its start value, each substitute has the value listed
pub mod Soundness
-- Typing: each substitute of an accepted source is a typed predicate
pub mod Typing
