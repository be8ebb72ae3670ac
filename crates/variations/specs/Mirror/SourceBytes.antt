-- A source made from bytes, and what its rows answer, as the code does it: each definition is a function of the code.
use Rattle.std.specs.Prelude.{ℕ, zero, suc, ◌+◌, ◌-◌, List, Bool, true, false, ◌||◌, ltb, leb, eqb, Option, Some, None}
use Rattle.formula.specs.Pick.{pick}
use Rattle.formula.specs.Codes.{con, top, bot, nat, nat1, lit, rel, eq, lt, le, gt, ge, mem, sub, sube, byte_of}
use Rattle.formula.specs.Mirror.PackedTable.{field}
use Rattle.formula.specs.Mirror.Bytes.{byte_at, type_at, skip_end}
use Rattle.formula.specs.Mirror.Ranges.{same_range}
use Rattle.keys.specs.Keys as keys
use Rattle.keys.specs.Mirror.Stripping.{strip_at}
use Rattle.keys.specs.Mirror.PackedKeys.{first_column, count_column, value_column, shape_number, group_number, itself_number, nothing_number, key_at}
use Rattle.keys.specs.Mirror.Constants.{part, constants, zero_part}
use Rattle.keys.specs.Mirror.RowTests.{row_is}
use Rattle.keys.specs.declared.Part.{Part}
use Rattle.keys.specs.declared.facts.Literal.{Literal}
use Rattle.keys.specs.declared.facts.Literal.TheVariants as literal
use Rattle.keys.specs.declared.facts.Facts.{Facts}
use Rattle.keys.specs.declared.rows.Source.{Source}
use Rattle.keys.specs.declared.rows.Asked.{Asked}
use Rattle.variations.specs.Answers.{Answer, or_next}
use Rattle.keys.specs.declared.rows.Sides.{Sides}
use Rattle.variations.specs.declared.sources.Shape.{Shape}
use Rattle.variations.specs.declared.sources.Shape.TheVariants as shape

-- ---- the sides of a relation
unfoldable pub turned_round : ℕ → Bool
turned_round c = eqb c (byte_of (rel gt)) || eqb c (byte_of (rel ge))

abbrev pub sides_by : Bool → Part → Part → Sides
sides_by true a b = record { left = b; right = a }
sides_by false a b = record { left = a; right = b }

unfoldable pub sides_at : List ℕ → Part → Sides
sides_at s w = sides_by (turned_round (byte_at s w.at)) (part (w.at + 1) (skip_end s (w.at + 1))) (part (skip_end s (w.at + 1)) w.end)

-- ---- what conditions ask
-- the last of a literal's eight bytes has the sign
unfoldable pub literal_at : List ℕ → Part → Option Literal
literal_at s a =
    pick (eqb (byte_at s a.at) (byte_of (lit 0)))
    (pick (same_range constants zero_part.at zero_part.end s a.at a.end) (Some literal.Zero) (pick (ltb (byte_at s (a.end - 1)) 128) (Some literal.Positive) (Some literal.Negative)))
    None

unfoldable pub facts_at : List ℕ → List ℕ → Sides → Facts
facts_at s types z = record { kind = type_at s types z.right.at; left = literal_at s z.left; right = literal_at s z.right }

abbrev pub no_facts : Facts
no_facts = record { kind = 0; left = None; right = None }

-- ---- the group of rows
-- the lists' name of a shape
abbrev pub shape_is : Shape → keys.Shape
shape_is shape.Equal = keys.equal
shape_is shape.Less = keys.less
shape_is shape.LessEqual = keys.less_equal
shape_is shape.InSet = keys.in_set
shape_is shape.InNat = keys.inℕ
shape_is shape.InNat1 = keys.inℕ1
shape_is shape.Subset = keys.subset
shape_is shape.SubsetEqual = keys.subset_equal

-- by the code of the right side of ∈
unfoldable pub member_shape : ℕ → Shape
member_shape r = pick (eqb r (byte_of (con nat))) shape.InNat (pick (eqb r (byte_of (con nat1))) shape.InNat1 shape.InSet)

-- by the code of a relation and that of its right side: > and ≥ count as < and ≤
unfoldable pub shape_of : ℕ → ℕ → Shape
shape_of c r =
    pick (eqb c (byte_of (rel mem))) (member_shape r)
    (pick (eqb c (byte_of (rel eq))) shape.Equal
    (pick (eqb c (byte_of (rel lt)) || eqb c (byte_of (rel gt))) shape.Less
    (pick (eqb c (byte_of (rel le)) || eqb c (byte_of (rel ge))) shape.LessEqual
    (pick (eqb c (byte_of (rel sub))) shape.Subset shape.SubsetEqual))))

unfoldable pub relational : ℕ → Bool
relational c = pick (ltb c (byte_of (rel eq))) false (leb c (byte_of (rel sube)))

-- any other predicate gives itself, ⊤ and ⊥ nothing
unfoldable pub lone_number : Bool → ℕ → ℕ
lone_number b c = pick (eqb c (byte_of (con top)) || eqb c (byte_of (con bot))) nothing_number (itself_number b)

-- ---- a source
unfoldable pub source_with : ℕ → Part → Sides → Facts → Source
source_with g w z f = record { first = field (key_at g) first_column; count = field (key_at g) count_column; whole = w; sides = z; facts = f }

unfoldable pub related_by : List ℕ → List ℕ → Part → Bool → Sides → Source
related_by s types w b z =
    source_with (group_number b (shape_number (shape_is (shape_of (byte_at s w.at) (byte_at s z.right.at))))) w z (facts_at s types z)

unfoldable pub lone_by : List ℕ → Part → Bool → Source
lone_by s w b = source_with (lone_number b (byte_at s w.at)) w (record { left = part 0 0; right = part 0 0 }) no_facts

unfoldable pub source_by : List ℕ → List ℕ → Part → Bool → Source
source_by s types w b = pick (relational (byte_at s w.at)) (related_by s types w b (sides_at s w)) (lone_by s w b)

-- without its ¬
unfoldable pub source_at : List ℕ → List ℕ → Part → Bool → Source
source_at s types w starts = source_by s types (part (strip_at s w.at starts).at w.end) (strip_at s w.at starts).value

-- ---- its rows
-- what a row says
abbrev pub row_says : List ℕ → Source → List ℕ → Asked → ℕ → Answer
row_says s x t y row = pick (row_is s x row t y) (Some (eqb (field row value_column) 1)) None

unfoldable pub key_is : List ℕ → Source → ℕ → List ℕ → Asked → Answer
key_is s x k t y = pick (leb x.count k) None (row_says s x t y (key_at (x.first + k)))

unfoldable pub asked_at : List ℕ → ℕ → Asked
asked_at t at = record { code = byte_at t at; whole = part at (skip_end t at) }

-- the first of n rows from k on that has it
unfoldable pub first_from : List ℕ → Source → List ℕ → Asked → ℕ → ℕ → Answer
first_from s x t y zero k = None
first_from s x t y (suc n) k = or_next (key_is s x k t y) (first_from s x t y n (k + 1))

unfoldable pub first_key : List ℕ → Source → List ℕ → Asked → Answer
first_key s x t y = first_from s x t y x.count 0
