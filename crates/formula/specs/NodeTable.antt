-- Document 01, "Node codes, with operand counts and kinds, are one fixed table": the table in words.
use Rattle.std.specs.Prelude.{ℕ, ◌+◌, List, [], ◌∷◌, Bool, true, false}
use Rattle.formula.specs.Codes as C
use Rattle.formula.specs.Codes.{Con, Rel, Fun, Many, Bind, Code, con, ident, bound, lit, rel, fun, many, qu}
use Rattle.formula.specs.Types.{prop, int, boo, set, nats, nats1, Ty, base, pair, Kind, one, pairs, Rest, these, as_first}
use Rattle.formula.specs.declared.Sort.{Sort}
use Rattle.formula.specs.declared.Sort.TheVariants as sort

-- what a node carries after its code: nothing, k, i, a literal's eight bytes, or a count of operands or of variables, from its least to its greatest
pub data Number : Type 0 where
  nothing identifier index word : Number
  count variables : ℕ → ℕ → Number

-- how many operands: always so many, or as many as the count says
pub data Arity : Type 0 where
  fixed : ℕ → Arity
  counted : Arity

-- the type of the node: this one, its identifier's, or the pair of its operands' types
pub data Result : Type 0 where
  is : Ty → Result
  of_identifier of_pair : Result

pub record Row : Type 0 where
  pub number : Number
  pub arity : Arity
  pub first : List Kind
  pub rest : Rest
  pub result : Result

-- a constant, a node with n operands of one kind, one with two operands
abbrev leaf : Number → Result → Row
leaf n r = record { number = n; arity = fixed 0; first = []; rest = these []; result = r }

abbrev alike : Number → Arity → Kind → Ty → Row
alike n a k τ = record { number = n; arity = a; first = k ∷ []; rest = these (k ∷ []); result = is τ }

abbrev two : Number → List Kind → Rest → Result → Row
two n ks r τ = record { number = n; arity = fixed 2; first = ks; rest = r; result = τ }

-- any type but ℕ, ℕ1
abbrev pub any_data : List Kind
any_data = one int ∷ one boo ∷ one set ∷ pairs ∷ []

abbrev pub con_row : Con → Row
con_row C.top = leaf nothing (is (base prop))
con_row C.bot = leaf nothing (is (base prop))
con_row C.empty = leaf nothing (is (base set))
con_row C.nat = leaf nothing (is (base nats))
con_row C.nat1 = leaf nothing (is (base nats1))
con_row C.tru = leaf nothing (is (base boo))
con_row C.fls = leaf nothing (is (base boo))

-- < ≤ > ≥ take integers; ⊂ ⊆ take sets; ∈ takes an integer and a set, ℕ or ℕ1; = takes two equal types, pairs by shape
abbrev pub rel_row : Rel → Row
rel_row C.eq = two nothing any_data as_first (is (base prop))
rel_row C.lt = alike nothing (fixed 2) (one int) (base prop)
rel_row C.le = alike nothing (fixed 2) (one int) (base prop)
rel_row C.gt = alike nothing (fixed 2) (one int) (base prop)
rel_row C.ge = alike nothing (fixed 2) (one int) (base prop)
rel_row C.mem = two nothing (one int ∷ []) (these (one set ∷ one nats ∷ one nats1 ∷ [])) (is (base prop))
rel_row C.sub = alike nothing (fixed 2) (one set) (base prop)
rel_row C.sube = alike nothing (fixed 2) (one set) (base prop)

-- arithmetic takes integers; difference takes sets; pairs come only from ↦ (any two types but ℕ, ℕ1)
abbrev pub fun_row : Fun → Row
fun_row C.neg = alike nothing (fixed 1) (one prop) (base prop)
fun_row C.imp = alike nothing (fixed 2) (one prop) (base prop)
fun_row C.iff = alike nothing (fixed 2) (one prop) (base prop)
fun_row C.minus = alike nothing (fixed 2) (one int) (base int)
fun_row C.uminus = alike nothing (fixed 1) (one int) (base int)
fun_row C.diff = alike nothing (fixed 2) (one set) (base set)
fun_row C.bool = alike nothing (fixed 1) (one prop) (base boo)
fun_row C.mapsto = two nothing any_data (these any_data) of_pair

-- n is 2..32, for an extension 1..32; ∪ ∩ take sets, extension members are integers
abbrev pub many_row : Many → Row
many_row C.and = alike (count 2 32) counted (one prop) (base prop)
many_row C.or = alike (count 2 32) counted (one prop) (base prop)
many_row C.add = alike (count 2 32) counted (one int) (base int)
many_row C.mul = alike (count 2 32) counted (one int) (base int)
many_row C.union = alike (count 2 32) counted (one set) (base set)
many_row C.inter = alike (count 2 32) counted (one set) (base set)
many_row C.ext = alike (count 1 32) counted (one int) (base set)

-- n is 1..8 integer variables; the value e of a comprehension is an integer
abbrev pub bind_row : Bind → Row
bind_row C.all = alike (variables 1 8) (fixed 1) (one prop) (base prop)
bind_row C.ex = alike (variables 1 8) (fixed 1) (one prop) (base prop)
bind_row C.compr = two (variables 1 8) (one prop ∷ []) (these (one int ∷ [])) (is (base set))

abbrev pub row_of : Code → Row
row_of (con c) = con_row c
row_of (ident k) = leaf identifier of_identifier
row_of (bound i) = leaf index (is (base int))
row_of (lit w) = leaf word (is (base int))
row_of (rel r) = rel_row r
row_of (fun f) = fun_row f
row_of (many m) = many_row m
row_of (qu b n) = bind_row b

-- ---- what a row says
-- the bytes of the number after the code
abbrev pub width : Number → ℕ
width nothing = 0
width identifier = 1
width index = 1
width word = 8
width (count lo hi) = 1
width (variables lo hi) = 1

-- a node's own bytes: its code and its number
abbrev pub own_length : Code → ℕ
own_length k = width (row_of k).number + 1

abbrev pub operands : Arity → ℕ → ℕ
operands (fixed k) n = k
operands counted n = n

-- how many variables a number declares
abbrev pub declares : Number → ℕ → ℕ
declares nothing n = 0
declares identifier n = 0
declares index n = 0
declares word n = 0
declares (count lo hi) n = 0
declares (variables lo hi) n = n

abbrev pub sort_of_ty : Ty → Sort
sort_of_ty (base prop) = sort.Predicate
sort_of_ty (base int) = sort.Expression
sort_of_ty (base boo) = sort.Expression
sort_of_ty (base set) = sort.Expression
sort_of_ty (base nats) = sort.Expression
sort_of_ty (base nats1) = sort.Expression
sort_of_ty (pair a b) = sort.Expression

-- the node's own sort
abbrev pub sort_of : Result → Sort
sort_of (is τ) = sort_of_ty τ
sort_of of_identifier = sort.Expression
sort_of of_pair = sort.Expression

-- the sort of an operand: all kinds that may stand in one place are of one sort
abbrev pub sort_of_kinds : List Kind → Sort
sort_of_kinds [] = sort.Expression
sort_of_kinds (one prop ∷ ks) = sort.Predicate
sort_of_kinds (one int ∷ ks) = sort.Expression
sort_of_kinds (one boo ∷ ks) = sort.Expression
sort_of_kinds (one set ∷ ks) = sort.Expression
sort_of_kinds (one nats ∷ ks) = sort.Expression
sort_of_kinds (one nats1 ∷ ks) = sort.Expression
sort_of_kinds (pairs ∷ ks) = sort.Expression

abbrev pub sort_of_rest : Rest → Sort
sort_of_rest (these ks) = sort_of_kinds ks
sort_of_rest as_first = sort.Expression

abbrev pub same_sort : Sort → Sort → Bool
same_sort sort.Predicate sort.Predicate = true
same_sort sort.Predicate sort.Expression = false
same_sort sort.Expression sort.Predicate = false
same_sort sort.Expression sort.Expression = true
