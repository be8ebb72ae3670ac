-- The map of what the crate proves. For callers: Has, Valued, Truths, SameBytes, Closed, Deeper, Alike, Equality, Binders, Relate, and Whole, Literals, SetLaws, Interval on integers and sets.

-- Lists: properties of every element, two lists element by element, and steps that all give something
pub mod Lists
-- Relate: two readings of formulas that every node relates are related at every formula
pub mod Relate
-- NodeRows: what the node table says of a code, and what a node that it allows says of its operands
pub mod NodeRows
-- Operands: operands of the kinds that the table asks for are read, and the operator gives a value of its type
pub mod Operands
-- Has: THE THEOREM, an accepted formula has exactly one value, of its type
pub mod Has
-- Truths: an accepted predicate is true or false
pub mod Truths
-- SameBytes: formulas with the same bytes mean the same
pub mod SameBytes
-- Closed: values behind the variables that a formula may mention change nothing
pub mod Closed
-- Deeper: a formula has the same type under more variables
pub mod Deeper
-- Whole: one three-way comparison of whole numbers, from which every relation of them is read
pub mod Whole
-- Literals: a literal's value by its word
pub mod Literals
-- SetLaws: two lists with the same members are the same set
pub mod SetLaws
-- Alike: values with the same contents, which meaning cannot tell apart
pub mod Alike
-- Equality: = holds exactly of values with the same contents
pub mod Equality
-- Members: what is in a list, and in what the steps of the meaning make of it
pub mod Members
-- Interval: lo..hi holds exactly the integers between
pub mod Interval
-- Binders: the laws of ∀, ∃ and comprehension over lo..hi
pub mod Binders
-- Valued: nothing else has a value
pub mod Valued
