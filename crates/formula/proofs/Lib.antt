-- What the crate proves, from the ground up. The theorems for callers: Accepted, OneFormula, Typed, GoodType, EqualLaws, SameBytes.
-- Choices: what tests, choices and finds say of their parts.    Every, Coded: one computed test over all codes, or rows.
-- FaultLaws: a node without fault came out well in each test.
-- SkipLaws: the cases of skipping.    EqualLaws: bytes that are the same one by one.
-- Places, Numbers, Shaped: bytes at places; the number after a code; what reading tests of a tree.
-- Round, Back, OneFormula: encode, then read; read, then encode; no encoding begins another.
-- NodeType, Typed, WrongPlace, DataType, GoodType: nothing wrong is typed; where the first wrong node is; types and sorts.
-- TableIs, Wants: the packed table is the table in words; one bit for each kind.
-- Stands, ReadStands, OwnIs, HeadIs, SkipIs: a formula that stands at a place; its row, its type by its head, its end by skipping.
-- SameType: types that are one, by their kinds.    Accepted, SameBytes: accepted bytes are encodings, and the other way round; equal bytes are one formula.
-- RangeLaws: ranges of bytes compared, as the code does it.
pub mod Choices
pub mod Every
pub mod Coded
pub mod FaultLaws
pub mod SkipLaws
pub mod EqualLaws
pub mod Places
pub mod Numbers
pub mod Shaped
pub mod Round
pub mod Back
pub mod OneFormula
pub mod NodeType
pub mod Typed
pub mod WrongPlace
pub mod DataType
pub mod GoodType
pub mod TableIs
pub mod Wants
pub mod Stands
pub mod ReadStands
pub mod OwnIs
pub mod HeadIs
pub mod SkipIs
pub mod SameType
pub mod Accepted
pub mod SameBytes
pub mod RangeLaws
