-- What the crate proves, from the ground up.
--   Listings      the one law of every loop over a list
--   FlagLaws      a flag changed, and those of a list
--   AddLaws       formulas among others, and formulas added
pub mod Listings
pub mod FlagLaws
pub mod AddLaws
