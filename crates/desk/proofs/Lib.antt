-- What the crate proves, from the ground up.
-- Hypotheses as a list:
--   Apart         what is among hypotheses, and that none is equal to another
--   Formulas      the same by their formulas alone
--   FlagsAre      flags compared one by one, and as two masks
--   AtPosition    a formula by its position: its flag, and a flag set there
--   Grown         hypotheses that grow: none is lost, moved or doubled; StepsGrow: after each step they have grown
--   Positions     where a formula stands after others came
-- The desk:
--   MaskCounts    the ones of a mask are a count
--   MaskLaws      the cases of the masks' code, and that they have the flags
--   Laid          the desk depends on its bytes up to the end of the hypotheses
--   DeskLaws      the cases of finding
--   Found         what is found is the first hypothesis that is the formula
--   Appends       the desk after one more hypothesis, or no room for it; Room: too much stays too much
--   Lists         the formulas of a lent list stand in order, inside its bytes
pub mod Apart
pub mod Formulas
pub mod FlagsAre
pub mod MaskCounts
pub mod MaskLaws
pub mod Laid
pub mod DeskLaws
pub mod Found
pub mod Appends
pub mod Grown
pub mod StepsGrow
pub mod AtPosition
pub mod Positions
pub mod Room
pub mod Lists
