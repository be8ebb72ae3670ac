-- Whether a row's key is the predicate asked, on bytes: each definition is a function of the code.
use Rattle.std.specs.Prelude.{ℕ, ◌+◌, ◌-◌, List, Bool, true, false, leb, eqb, Option, Some, None}
use Rattle.formula.specs.Pick.{pick}
use Rattle.formula.specs.Types.{int, set, one}
use Rattle.formula.specs.Mirror.PackedTable.{field, bit}
use Rattle.formula.specs.Mirror.Ranges.{same_range}
use Rattle.keys.specs.Keys.{L, R, Z, always, integers, sets, zero_left, zero_right, positive}
use Rattle.keys.specs.Mirror.PackedKeys.{relation_column, left_column, right_column, condition_column, side_number, nat_number, condition_number}
use Rattle.keys.specs.Mirror.Constants.{part, constants, zero_part, nat_part, nat1_part}
use Rattle.keys.specs.declared.Part.{Part}
use Rattle.keys.specs.declared.facts.Literal.{Literal}
use Rattle.keys.specs.declared.facts.Literal.TheVariants as literal
use Rattle.keys.specs.declared.facts.Facts.{Facts}
use Rattle.keys.specs.declared.row.Side.{Side}
use Rattle.keys.specs.declared.row.Side.TheVariants as side
use Rattle.keys.specs.declared.row.Condition.{Condition}
use Rattle.keys.specs.declared.row.Condition.TheVariants as condition
use Rattle.keys.specs.declared.rows.Source.{Source}
use Rattle.keys.specs.declared.rows.Asked.{Asked}

-- ---- which literal a side is
abbrev pub is_zero : Option Literal → Bool
is_zero None = false
is_zero (Some literal.Zero) = true
is_zero (Some literal.Positive) = false
is_zero (Some literal.Negative) = false

abbrev pub is_positive : Option Literal → Bool
is_positive None = false
is_positive (Some literal.Zero) = false
is_positive (Some literal.Positive) = true
is_positive (Some literal.Negative) = false

abbrev pub is_negative : Option Literal → Bool
is_negative None = false
is_negative (Some literal.Zero) = false
is_negative (Some literal.Positive) = false
is_negative (Some literal.Negative) = true

-- ---- conditions
-- the condition with the number n
unfoldable pub condition_by : ℕ → Condition
condition_by n =
    pick (eqb n (condition_number always)) condition.Always
    (pick (eqb n (condition_number integers)) condition.Integers
    (pick (eqb n (condition_number sets)) condition.Sets
    (pick (eqb n (condition_number zero_left)) condition.ZeroLeft
    (pick (eqb n (condition_number zero_right)) condition.ZeroRight
    (pick (eqb n (condition_number positive)) condition.PositiveLeft condition.NegativeLeft)))))

-- whether it is met
unfoldable pub meets_by : Facts → Condition → Bool
meets_by f condition.Always = true
meets_by f condition.Integers = eqb f.kind (bit (one int))
meets_by f condition.Sets = eqb f.kind (bit (one set))
meets_by f condition.ZeroLeft = is_zero f.left
meets_by f condition.ZeroRight = is_zero f.right
meets_by f condition.PositiveLeft = is_positive f.left
meets_by f condition.NegativeLeft = is_negative f.left

-- ---- the key of a row
-- the side with the number n
unfoldable pub side_by : ℕ → Side
side_by n =
    pick (eqb n (side_number L)) side.Left
    (pick (eqb n (side_number R)) side.Right
    (pick (eqb n (side_number Z)) side.Zero
    (pick (eqb n nat_number) side.Nat side.Nat1)))

-- where it stands: in the source's buffer, or among the constants
unfoldable pub side_bytes : List ℕ → Side → List ℕ
side_bytes s side.Left = s
side_bytes s side.Right = s
side_bytes s side.Zero = constants
side_bytes s side.Nat = constants
side_bytes s side.Nat1 = constants

unfoldable pub side_part : Source → Side → Part
side_part x side.Left = x.sides.left
side_part x side.Right = x.sides.right
side_part x side.Zero = zero_part
side_part x side.Nat = nat_part
side_part x side.Nat1 = nat1_part

abbrev pub side_length : Source → Side → ℕ
side_length x a = (side_part x a).end - (side_part x a).at

-- it is the part b of t
abbrev pub side_is : List ℕ → Source → Side → List ℕ → Part → Bool
side_is s x a t b = same_range (side_bytes s a) (side_part x a).at (side_part x a).end t b.at b.end

-- the left side stands after the code, the right one after it and up to the end
unfoldable pub sides_are : List ℕ → Source → Side → Side → List ℕ → Part → Bool
sides_are s x l r t y =
    pick (leb (y.end - y.at) (side_length x l)) false
    (pick (side_is s x l t (part (y.at + 1) (y.at + 1 + side_length x l))) (side_is s x r t (part (y.at + 1 + side_length x l) y.end)) false)

-- a row without a relation has the source itself for its key
unfoldable pub row_is : List ℕ → Source → ℕ → List ℕ → Asked → Bool
row_is s x row t y =
    pick (eqb (field row relation_column) 0) (same_range s x.whole.at x.whole.end t y.whole.at y.whole.end)
    (pick (eqb (field row relation_column) y.code)
    (pick (meets_by x.facts (condition_by (field row condition_column)))
    (sides_are s x (side_by (field row left_column)) (side_by (field row right_column)) t y.whole) false) false)
