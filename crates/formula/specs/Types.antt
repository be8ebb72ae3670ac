-- Document 01, "Types": what a formula's type is, and what an operand may be.
use Rattle.std.specs.Prelude.{ℕ, zero, suc, List, [], ◌∷◌, map, Bool, true, false, ◌&&◌, ◌||◌}
use Rattle.std.proofs.Math.Option.{Option, some, none}

-- a predicate, an integer, a truth value, a set of integers, ℕ, ℕ1
pub data Base : Type 0 where
  prop int boo set nats nats1 : Base
  deriving Discrete as Base-discrete

-- pairs by shape
pub data Ty : Type 0 where
  base : Base → Ty
  pair : Ty → Ty → Ty
  deriving Discrete as Ty-discrete

-- a type without the halves of a pair
pub data Kind : Type 0 where
  one : Base → Kind
  pairs : Kind
  deriving Discrete as Kind-discrete

abbrev pub kind_of : Ty → Kind
kind_of (base b) = one b
kind_of (pair a b) = pairs

abbrev pub eq_ty : Ty → Ty → Bool
eq_ty a b = elim (Ty-discrete Base-discrete a b) [ yes p ↦ true | no q ↦ false ]

abbrev pub eq_kind : Kind → Kind → Bool
eq_kind a b = elim (Kind-discrete Base-discrete a b) [ yes p ↦ true | no q ↦ false ]

abbrev pub among? : Kind → List Kind → Bool
among? k [] = false
among? k (j ∷ js) = eq_kind k j || among? k js

-- the types of identifiers: 0 integer, 1 boolean, 2 set of integers
abbrev pub type_of_byte : ℕ → Ty
type_of_byte zero = base int
type_of_byte (suc zero) = base boo
type_of_byte (suc (suc n)) = base set

abbrev pub types_of : List ℕ → List Ty
types_of = map type_of_byte

abbrev pub type_at : List Ty → ℕ → Option Ty
type_at [] k = none
type_at (τ ∷ Γ) zero = some τ
type_at (τ ∷ Γ) (suc k) = type_at Γ k

-- ---- what an operand may be: of one of some kinds, or of a type that is given
pub data Want : Type 0 where
  among : List Kind → Want
  same : Ty → Want

-- the operands after the first: of one of some kinds each, or of the type of the first
pub data Rest : Type 0 where
  these : List Kind → Rest
  as_first : Rest

-- whether an operand of this type may stand there; one without a type may not
abbrev pub may : Want → Option Ty → Bool
may (among ks) none = false
may (among ks) (some τ) = among? (kind_of τ) ks
may (same σ) none = false
may (same σ) (some τ) = eq_ty σ τ

abbrev pub want_next : Rest → Option Ty → Want
want_next (these ks) o = among ks
want_next as_first none = among []
want_next as_first (some τ) = same τ

abbrev pub may_all : Want → Rest → List (Option Ty) → Bool
may_all w r [] = true
may_all w r (o ∷ os) = may w o && may_all (want_next r o) r os
