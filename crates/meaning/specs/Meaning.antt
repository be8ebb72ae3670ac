-- The meaning of formulas: the value that the operators make of the operands' values, under a choice of the bound variables.
use Rattle.std.specs.Prelude.{ℕ, zero, suc, ◌≡◌, List, [], ◌∷◌, Bool, length, ℤ}
use Rattle.std.proofs.Math.Option.{Option, some}
use Rattle.formula.specs.Pick.{pick}
use Rattle.formula.specs.Codes.{Bind, all, ex, compr, Code, con, ident, bound, lit, rel, fun, many, qu}
use Rattle.formula.specs.Types.{Ty, types_of}
use Rattle.formula.specs.Tree.{Tree}
use Rattle.formula.specs.Typing.{type_of}
use Rattle.meaning.specs.Defined.{◌>>=◌, nth, each, concat_map, nullary, unary, binary}
use Rattle.meaning.specs.Value.{Val, truth, int, set, ty_of, as_truth, as_int}
use Rattle.meaning.specs.Operators.{constant, signed, relation, function, several, all_true, some_true}
use Rattle.meaning.specs.Fold.{fold}
use Rattle.meaning.specs.Valuation.{interval, Valuation}

-- what a formula means under bound variables with these values, the innermost first
abbrev pub Sense : Type 0
Sense = List ℤ → Option Val

-- all ways to give n more variables values of the interval, in the order of their declaration: 0 is the innermost, the last declared
abbrev pub choices : List ℤ → ℕ → List ℤ → List (List ℤ)
choices I zero ρ = ρ ∷ []
choices I (suc n) ρ = concat_map (λ z. choices I n (z ∷ ρ)) I

abbrev pub truth_at : Sense → List ℤ → Option Bool
truth_at p ρ = p ρ >>= as_truth

abbrev pub int_at : Sense → List ℤ → Option ℤ
int_at e ρ = e ρ >>= as_int

-- whether p holds, and the value of e
abbrev pub guarded : Sense → Sense → List ℤ → Option (Bool × ℤ)
guarded p e ρ = truth_at p ρ >>= λ b. int_at e ρ >>= λ z. some (b, z)

-- the values at the choices where p holds
abbrev pub collect : List (Bool × ℤ) → List ℤ
collect [] = []
collect (x ∷ xs) = pick x.0 (x.1 ∷ collect xs) (collect xs)

-- ∀ ∃ and comprehension over all choices
abbrev pub binder : Bind → List Sense → List (List ℤ) → Option Val
binder all ss ρs = unary (λ p. each (truth_at p) ρs >>= λ bs. some (truth (all_true bs))) ss
binder ex ss ρs = unary (λ p. each (truth_at p) ρs >>= λ bs. some (truth (some_true bs))) ss
binder compr ss ρs = binary (λ p e. each (guarded p e) ρs >>= λ xs. some (set (collect xs))) ss

-- the operands' values under the same bound variables
abbrev pub values : List Sense → List ℤ → Option (List Val)
values ss ρ = each (λ s. s ρ) ss

module _ {types : List ℕ} (ν : Valuation types) where
  -- what each node makes of its operands; an identifier or index out of range has no value
  abbrev pub sense : Code → List Sense → Sense
  sense (con c) ss ρ = nullary (some (constant c)) ss
  sense (ident k) ss ρ = nullary (nth ν.ids k) ss
  sense (bound i) ss ρ = nullary (nth ρ i >>= λ z. some (int z)) ss
  sense (lit w) ss ρ = nullary (some (int (signed w))) ss
  sense (rel r) ss ρ = values ss ρ >>= relation r
  sense (fun f) ss ρ = values ss ρ >>= function f
  sense (many m) ss ρ = values ss ρ >>= several m
  sense (qu b n) ss ρ = binder b ss (choices (interval ν.lo ν.hi) n ρ)

  -- the value of a formula; none where a rule of document 01 is broken
  abbrev pub eval : Tree → Sense
  eval = fold sense

  -- THE MEANING of a formula of type τ under d bound variables, at d values for them: a value of that type.
  -- It is asked of typed formulas alone, so an ill-typed term has none, nor a stand-in for one (proofs, Has and Valued).
  pub record Meaning (d : ℕ) (τ : Ty) (x : Tree) (typed : type_of (types_of types) d x ≡ some τ) (ρ : List ℤ) (chosen : length ρ ≡ d) : Type 0 where
    pub value : Val
    pub is : eval x ρ ≡ some value
    pub type : ty_of value ≡ τ
