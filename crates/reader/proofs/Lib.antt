-- Why the code's reading of bytes is the reading of trees that crate `formula` defines. The theorem: WholeIs.
-- NodeLaws, ShapeLaws: a node refused, and one that stands; the cases of the shape of pairs.
-- NameLaws: an identifier that may stand where it does is accepted without its row.
-- Turns, WalkLaws: each turn of the reader's loop, and what holds all the way.
-- ShapeIs: two expressions have one type if the code says so.
-- HeadRead: what the code finds wrong with a node is what the definition finds.
-- Goings, ListIs, SidesAre, ReadIs, WholeIs: marks; lists of operands of one kind; the two sides of =; a formula; a whole formula.
pub mod NodeLaws
pub mod ShapeLaws
pub mod NameLaws
pub mod Turns
pub mod WalkLaws
pub mod ShapeIs
pub mod HeadRead
pub mod Goings
pub mod ListIs
pub mod SidesAre
pub mod ReadIs
pub mod WholeIs
