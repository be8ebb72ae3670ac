-- Document 01, "Meaning": identifiers are any whole number, truth value or finite integer set. What a formula may stand for.
use Rattle.std.specs.Prelude.{List, Bool, ℤ}
use Rattle.std.proofs.Math.Option.{Option, some, none}
use Rattle.formula.specs.Types as T
use Rattle.formula.specs.Types.{Ty, base}

-- whether a predicate holds; a whole number; a truth value; a finite set, by a list of its members; ℕ and ℕ1, for ∈ only; a pair
pub data Val : Type 0 where
  truth : Bool → Val
  int : ℤ → Val
  boo : Bool → Val
  set : List ℤ → Val
  nats nats1 : Val
  pair : Val → Val → Val

-- the type of a value
abbrev pub ty_of : Val → Ty
ty_of (truth b) = base T.prop
ty_of (int z) = base T.int
ty_of (boo b) = base T.boo
ty_of (set s) = base T.set
ty_of nats = base T.nats
ty_of nats1 = base T.nats1
ty_of (pair v w) = T.pair (ty_of v) (ty_of w)

-- a value read at a type: none if it is of another type
abbrev pub as_truth : Val → Option Bool
as_truth v = elim v [ truth b ↦ some b | int z ↦ none | boo b ↦ none | set s ↦ none | nats ↦ none | nats1 ↦ none | pair a b ↦ none ]

abbrev pub as_int : Val → Option ℤ
as_int v = elim v [ truth b ↦ none | int z ↦ some z | boo b ↦ none | set s ↦ none | nats ↦ none | nats1 ↦ none | pair a b ↦ none ]

abbrev pub as_boo : Val → Option Bool
as_boo v = elim v [ truth b ↦ none | int z ↦ none | boo b ↦ some b | set s ↦ none | nats ↦ none | nats1 ↦ none | pair a b ↦ none ]

abbrev pub as_set : Val → Option (List ℤ)
as_set v = elim v [ truth b ↦ none | int z ↦ none | boo b ↦ none | set s ↦ some s | nats ↦ none | nats1 ↦ none | pair a b ↦ none ]

abbrev pub as_pair : Val → Option (Val × Val)
as_pair v = elim v [ truth b ↦ none | int z ↦ none | boo b ↦ none | set s ↦ none | nats ↦ none | nats1 ↦ none | pair a b ↦ some (a, b) ]

-- the halves of a pair: anything but a predicate, ℕ, ℕ1
abbrev pub as_data : Val → Option Val
as_data v = elim v [ truth b ↦ none | int z ↦ some (int z) | boo b ↦ some (boo b) | set s ↦ some (set s) | nats ↦ none | nats1 ↦ none | pair a b ↦ some (pair a b) ]
