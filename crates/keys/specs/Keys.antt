-- Document 01, "Substitutes": the lists of keys, over the letters L and R (the source's sides) and Z (the literal 0).
use Rattle.std.specs.Prelude.{List, [], ◌∷◌, ◌++◌, map, Bool, true, false, not}
use Rattle.formula.specs.Codes.{Rel, eq, lt, le, gt, ge, mem, sub, sube}

pub data Side : Type 0 where
  L R Z : Side

-- a relation of two sides, x∈ℕ, x∈ℕ1
pub data Key : Type 0 where
  key : Rel → Side → Side → Key
  in_nat in_nat1 : Side → Key

-- a key, or ¬ of one
pub data Form : Type 0 where
  is is_not : Key → Form

infix 90 ◌≐◌ ◌≺◌ ◌≼◌ ◌≻◌ ◌≽◌ ◌⊏◌ ◌⊑◌ ◌∊◌
abbrev pub ◌≐◌ : Side → Side → Form
a ≐ b = is (key eq a b)

abbrev pub ◌≺◌ : Side → Side → Form
a ≺ b = is (key lt a b)

abbrev pub ◌≼◌ : Side → Side → Form
a ≼ b = is (key le a b)

abbrev pub ◌≻◌ : Side → Side → Form
a ≻ b = is (key gt a b)

abbrev pub ◌≽◌ : Side → Side → Form
a ≽ b = is (key ge a b)

abbrev pub ◌∊◌ : Side → Side → Form
a ∊ b = is (key mem a b)

abbrev pub ◌⊏◌ : Side → Side → Form
a ⊏ b = is (key sub a b)

abbrev pub ◌⊑◌ : Side → Side → Form
a ⊑ b = is (key sube a b)

-- ¬ of a form
abbrev pub no : Form → Form
no (is k) = is_not k
no (is_not k) = is k

-- a relational source; "l≥r is treated as r≤l, l>r as r<l", and ∈ goes by its right side: a set, ℕ or ℕ1
pub data Shape : Type 0 where
  equal less less_equal in_set inℕ inℕ1 subset subset_equal : Shape

-- ---- E+ and E−
-- "x∈ℕ gives itself, 0≤x, x≥0; x∈ℕ1 gives itself, 0<x, x>0"
abbrev pub plusℕ : Side → List Form
plusℕ x = is (in_nat x) ∷ Z ≼ x ∷ x ≽ Z ∷ []

abbrev pub plusℕ1 : Side → List Form
plusℕ1 x = is (in_nat1 x) ∷ Z ≺ x ∷ x ≻ Z ∷ []

-- "= gives l=r, r=l; each order gives itself and its mirror (l<r, r>l); others give themselves"
abbrev pub plus : Shape → List Form
plus equal = L ≐ R ∷ R ≐ L ∷ []
plus less = L ≺ R ∷ R ≻ L ∷ []
plus less_equal = L ≼ R ∷ R ≽ L ∷ []
plus in_set = L ∊ R ∷ []
plus inℕ = plusℕ L
plus inℕ1 = plusℕ1 L
plus subset = L ⊏ R ∷ []
plus subset_equal = L ⊑ R ∷ []

-- of x∈ℕ1: ".. 0≥x, x≤0"
abbrev pub minusℕ1 : Side → List Form
minusℕ1 x = no (is (in_nat1 x)) ∷ Z ≽ x ∷ x ≼ Z ∷ []

-- "E− gives ¬ of the predicate, then: = also ¬(r=l); < gives l≥r, r≤l; ≤ gives l>r, r<l; x∈ℕ gives 0>x, x<0; x∈ℕ1 gives 0≥x, x≤0"
abbrev pub minus : Shape → List Form
minus equal = no (L ≐ R) ∷ no (R ≐ L) ∷ []
minus less = no (L ≺ R) ∷ L ≽ R ∷ R ≼ L ∷ []
minus less_equal = no (L ≼ R) ∷ L ≻ R ∷ R ≺ L ∷ []
minus in_set = no (L ∊ R) ∷ []
minus inℕ = no (is (in_nat L)) ∷ Z ≻ L ∷ L ≺ Z ∷ []
minus inℕ1 = minusℕ1 L
minus subset = no (L ⊏ R) ∷ []
minus subset_equal = no (L ⊑ R) ∷ []

-- ---- the four lists
-- when a form of a list is meant: always; = of integers, = of sets; l or r is the literal 0; l is a positive or a negative literal
pub data Condition : Type 0 where
  always integers sets zero_left zero_right positive negative : Condition

pub record Row : Type 0 where
  pub condition : Condition
  pub form : Form

abbrev pub given : Condition → List Form → List Row
given c = map (λ f. record { condition = c; form = f })

-- "Source true, first the ⊤ list: `weaker_positive_relational` as given": E+, then
abbrev pub weaker : Shape → List Row
weaker equal =
    given sets (L ⊑ R ∷ R ⊑ L ∷ no (L ⊏ R) ∷ no (R ⊏ L) ∷ []) ++ given integers (L ≼ R ∷ R ≽ L ∷ R ≼ L ∷ L ≽ R ∷ []) ++ given zero_right (minusℕ1 L) ++ given zero_left (minusℕ1 R)
weaker less = given always (L ≼ R ∷ R ≽ L ∷ no (L ≐ R) ∷ no (R ≐ L) ∷ []) ++ given positive (plusℕ R ++ plusℕ1 R)
weaker less_equal = given positive (plusℕ R ++ plusℕ1 R)
weaker in_set = []
weaker inℕ = []
weaker inℕ1 = given always (plusℕ L ++ (no (L ≐ Z) ∷ no (Z ≐ L) ∷ []))
weaker subset = given always (L ⊑ R ∷ no (L ≐ R) ∷ no (R ≐ L) ∷ no (R ⊏ L) ∷ no (R ⊑ L) ∷ [])
weaker subset_equal = given always (no (R ⊏ L) ∷ [])

-- "Then the ⊥ list: E−, then = integers: l<r, r>l, r<l, l>r; = sets: l⊂r, r⊂l; <: l>r, r<l, l=r, r=l; ⊂: r⊂l, r⊆l, l=r, r=l; ⊆: r⊂l; ∈ℕ1: x=0, 0=x, 0>x, x<0"
abbrev pub refuted : Shape → List Row
refuted equal = given integers (L ≺ R ∷ R ≻ L ∷ R ≺ L ∷ L ≻ R ∷ []) ++ given sets (L ⊏ R ∷ R ⊏ L ∷ [])
refuted less = given always (L ≻ R ∷ R ≺ L ∷ L ≐ R ∷ R ≐ L ∷ [])
refuted less_equal = []
refuted in_set = []
refuted inℕ = []
refuted inℕ1 = given always (L ≐ Z ∷ Z ≐ L ∷ Z ≻ L ∷ L ≺ Z ∷ [])
refuted subset = given always (R ⊏ L ∷ R ⊑ L ∷ L ≐ R ∷ R ≐ L ∷ [])
refuted subset_equal = given always (R ⊏ L ∷ [])

-- "Source false, first the ⊥ list: `stronger_positive_relational` as given": E+, then
abbrev pub stronger : Shape → List Row
stronger equal = []
stronger less = given negative (plusℕ R ++ plusℕ1 R)
stronger less_equal = given always (L ≺ R ∷ R ≻ L ∷ L ≐ R ∷ R ≐ L ∷ []) ++ given negative (plusℕ R ++ plusℕ1 R)
stronger in_set = []
stronger inℕ = given always (plusℕ1 L)
stronger inℕ1 = []
stronger subset = []
stronger subset_equal = given always (L ⊏ R ∷ L ≐ R ∷ R ≐ L ∷ [])

-- "Then the ⊤ list: E−, then ≤: l≥r, r≤l, ¬(l=r), ¬(r=l); ⊆: ¬(l⊂r), ¬(l=r), ¬(r=l); ∈ℕ: 0≥x, x≤0, ¬(x∈ℕ1), ¬(x=0), ¬(0=x)"
abbrev pub implied : Shape → List Row
implied equal = []
implied less = []
implied less_equal = given always (L ≽ R ∷ R ≼ L ∷ no (L ≐ R) ∷ no (R ≐ L) ∷ [])
implied in_set = []
implied inℕ = given always (Z ≽ L ∷ L ≼ Z ∷ no (is (in_nat1 L)) ∷ no (L ≐ Z) ∷ no (Z ≐ L) ∷ [])
implied inℕ1 = []
implied subset = []
implied subset_equal = given always (no (L ⊏ R) ∷ no (L ≐ R) ∷ no (R ≐ L) ∷ [])

-- ---- a source's rows in order: keys with their values
pub record Marked : Type 0 where
  pub condition : Condition
  pub key_is : Key
  pub value : Bool

-- "A key under ¬ loses it and its value flips"
abbrev pub mark : Bool → Condition → Form → Marked
mark b c (is k) = record { condition = c; key_is = k; value = b }
mark b c (is_not k) = record { condition = c; key_is = k; value = not b }

abbrev pub marked : Bool → List Row → List Marked
marked b = map (λ r. mark b r.condition r.form)

-- the rows of a source that is true, or false
unfoldable pub rows_of : Bool → Shape → List Marked
rows_of true q = marked true (given always (plus q) ++ weaker q) ++ marked false (given always (minus q) ++ refuted q)
rows_of false q = marked false (given always (plus q) ++ stronger q) ++ marked true (given always (minus q) ++ implied q)
