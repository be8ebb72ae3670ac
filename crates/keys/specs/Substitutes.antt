-- Document 01, "Substitutes": the entries of one source, each a key and its truth value.
use Rattle.std.specs.Prelude.{ℕ, ◌^◌, List, [], ◌∷◌, map, Bool, true, ◌&&◌, ◌||◌, eqb, ltb, leb}
use Rattle.std.proofs.Math.Option.{Option, some, none}
use Rattle.formula.specs.Pick.{pick}
use Rattle.formula.specs.Codes.{Rel, con, ident, bound, lit, rel, fun, many, qu, top, bot, nat, nat1, mem}
use Rattle.formula.specs.Codes as C
use Rattle.formula.specs.Types.{Ty, base, int, set, types_of, may, same}
use Rattle.formula.specs.Tree.{Tree, node, Trees, nil, ◌▹◌, size, number_of}
use Rattle.formula.specs.Typing.{type_of}
use Rattle.keys.specs.Strip.{has_code, Stripped, strip}
use Rattle.keys.specs.Keys.{Side, L, R, Z, Key, key, in_nat, in_nat1, Shape, equal, less, less_equal, in_set, inℕ, inℕ1, subset, subset_equal, Condition, always, integers, sets, zero_left, zero_right, positive, negative, Marked, rows_of}

-- ---- a relational source and its sides
pub record Relation : Type 0 where
  pub shape : Shape
  pub left : Tree
  pub right : Tree

-- by the right side of ∈
abbrev pub member_shape : Tree → Shape
member_shape r = pick (has_code (con nat) r) inℕ (pick (has_code (con nat1) r) inℕ1 in_set)

-- "l≥r is treated as r≤l, l>r as r<l"
abbrev pub turned : Rel → Tree → Tree → Relation
turned C.eq l r = record { shape = equal; left = l; right = r }
turned C.lt l r = record { shape = less; left = l; right = r }
turned C.le l r = record { shape = less_equal; left = l; right = r }
turned C.gt l r = record { shape = less; left = r; right = l }
turned C.ge l r = record { shape = less_equal; left = r; right = l }
turned C.mem l r = record { shape = member_shape r; left = l; right = r }
turned C.sub l r = record { shape = subset; left = l; right = r }
turned C.sube l r = record { shape = subset_equal; left = l; right = r }

abbrev pub two_sides : Rel → Trees → Option Relation
two_sides q nil = none
two_sides q (l ▹ nil) = none
two_sides q (l ▹ r ▹ nil) = some (turned q l r)
two_sides q (l ▹ r ▹ x ▹ xs) = none

abbrev pub relation : Tree → Option Relation
relation (node (con c) xs) = none
relation (node (ident k) xs) = none
relation (node (bound i) xs) = none
relation (node (lit w) xs) = none
relation (node (rel q) xs) = two_sides q xs
relation (node (fun f) xs) = none
relation (node (many m) xs) = none
relation (node (qu b n) xs) = none

-- ---- conditions
-- "Positive and negative literals are nodes 22 but not 0": eight bytes, two's complement
abbrev pub word_of : Tree → ℕ
word_of (node k xs) = number_of k (size xs)

abbrev pub zero? : Tree → Bool
zero? x = has_code (lit 0) x && eqb (word_of x) 0

abbrev pub positive? : Tree → Bool
positive? x = has_code (lit 0) x && (ltb 0 (word_of x) && ltb (word_of x) (2 ^ 63))

abbrev pub negative? : Tree → Bool
negative? x = has_code (lit 0) x && leb (2 ^ 63) (word_of x)

-- the sides of = have one type: it is asked of the right one
abbrev pub meets : List Ty → Tree → Tree → Condition → Bool
meets Γ l r always = true
meets Γ l r integers = may (same (base int)) (type_of Γ 0 r)
meets Γ l r sets = may (same (base set)) (type_of Γ 0 r)
meets Γ l r zero_left = zero? l
meets Γ l r zero_right = zero? r
meets Γ l r positive = positive? l
meets Γ l r negative = negative? l

-- ---- keys as trees
abbrev pub side : Tree → Tree → Side → Tree
side l r L = l
side l r R = r
side l r Z = node (lit 0) nil

abbrev pub key_tree : Tree → Tree → Key → Tree
key_tree l r (key q a b) = node (rel q) (side l r a ▹ side l r b ▹ nil)
key_tree l r (in_nat a) = node (rel mem) (side l r a ▹ node (con nat) nil ▹ nil)
key_tree l r (in_nat1 a) = node (rel mem) (side l r a ▹ node (con nat1) nil ▹ nil)

-- ---- entries
pub record Entry : Type 0 where
  pub key : Tree
  pub value : Bool

-- the entry of a row, none where the row's condition is not met
abbrev pub entry_of : List Ty → Relation → Marked → Option Entry
entry_of Γ q m = pick (meets Γ q.left q.right m.condition) (some (record { key = key_tree q.left q.right m.key_is; value = m.value })) none

-- "Literals never are keys": ⊤, ⊥
abbrev pub literal? : Tree → Bool
literal? x = has_code (con top) x || has_code (con bot) x

-- "Non-relational sources give only themselves"
abbrev pub entries_by : List Ty → Bool → Tree → Option Relation → List (Option Entry)
entries_by Γ b x none = pick (literal? x) [] (some (record { key = x; value = b }) ∷ [])
entries_by Γ b x (some q) = map (entry_of Γ q) (rows_of b q.shape)

abbrev pub entries : List Ty → Stripped → List (Option Entry)
entries Γ z = entries_by Γ z.value z.predicate (relation z.predicate)

-- THE POSITIONS: entry k of a source, or none where the condition of row k is not met
unfoldable pub candidates : List ℕ → Bool → Tree → List (Option Entry)
candidates types starts x = entries (types_of types) (strip starts x)

-- those whose condition is met
abbrev pub met_entries : List (Option Entry) → List Entry
met_entries [] = []
met_entries (none ∷ os) = met_entries os
met_entries (some e ∷ os) = e ∷ met_entries os

-- THE SUBSTITUTES of a source, in order; `types` are the identifiers' type bytes
unfoldable pub substitutes : List ℕ → Bool → Tree → List Entry
substitutes types starts x = met_entries (candidates types starts x)
