-- An accepted predicate is true or false at each valuation, and so is each hypothesis and the goal of a sequent.
use Prim.Native.Nat.{ℕ}
use mathlib.Core.Path.{◌≡◌, refl, ap, sym, ◌∙◌}
use mathlib.Core.List.{List, [], ◌∷◌}
use mathlib.Core.Bool.{Bool, true, false}
use mathlib.Core.Option.{some}
use mathlib.Core.Logic.{◌⊎◌, inl, inr}
use native.Mathlib.Omega.{arith}
use lib.ListN.{length}
use lib.IntN.{ℤ}
use Rattle.formula.specs.Types as T
use Rattle.formula.specs.Types.{Ty, base, types_of}
use Rattle.formula.specs.NodeTable.{sort_of_ty}
use Rattle.formula.specs.Tree.{Tree}
use Rattle.formula.specs.Formula.{Formula}
use Rattle.formula.specs.Typing.{type_of}
use Rattle.formula.specs.declared.Sort.TheVariants as sort
use Rattle.formula.proofs.Typed.{typed_right}
use Rattle.formula.proofs.DataType.{types_of_data, sort_type}
use Rattle.meaning.specs.Value.{Val, truth, ty_of}
use Rattle.meaning.specs.Valuation.{Valuation}
use Rattle.meaning.specs.Meaning.{eval}
use Rattle.meaning.specs.Refutes.{Predicate, True, False}
use Rattle.meaning.proofs.Lists.{All}
use Rattle.meaning.proofs.Operands.{is_truth, read_truth}
use Rattle.meaning.proofs.Has.{has_value}

-- only predicates have the sort of predicates
prop_sort : (τ : Ty) → sort_of_ty τ ≡ sort.Predicate → τ ≡ base T.prop
prop_sort (base T.prop) e = refl
prop_sort (base T.int) e = cc
prop_sort (base T.boo) e = cc
prop_sort (base T.set) e = cc
prop_sort (base T.nats) e = cc
prop_sort (base T.nats1) e = cc
prop_sort (T.pair a b) e = cc

-- an accepted predicate has the type of predicates
pub predicate_type : (types : List ℕ) (x : Tree) (F : Formula types sort.Predicate x) → type_of (types_of types) 0 x ≡ some (base T.prop)
predicate_type types x F =
    let h = (typed_right x (types_of types) 0 0 F.type F.typed).1 in
    F.typed ∙ ap some (prop_sort F.type (sort_type x 32 _ 0 sort.Predicate (types_of types) F.type (types_of_data types) F.formed h))

a_truth : (v : Val) → ty_of v ≡ base T.prop → (b : Bool) × (v ≡ truth b)
a_truth v e = let r = read_truth v (rw e) in (r.0, sym (is_truth v r.0 r.1))

module _ {types : List ℕ} (ν : Valuation types) where
  -- a formula of the type of predicates has a truth value at each choice of its bound variables
  pub truth_of : (d : ℕ) (x : Tree) → type_of (types_of types) d x ≡ some (base T.prop) → (ρ : List ℤ) → length ρ ≡ d → (b : Bool) × (eval ν x ρ ≡ some (truth b))
  truth_of d x e ρ l =
      let h = has_value ν x d (base T.prop) e ρ l in
      let b = a_truth h.0 h.2 in
      (b.0, h.1 ∙ ap some b.1)

  -- an accepted predicate is true or false, ..
  pub has_truth : (p : Predicate types) → True ν p ⊎ False ν p
  has_truth p = let t = truth_of 0 p.form (predicate_type types p.form p.accepted) [] refl in go t.0 t.1
    where
      go : (b : Bool) → eval ν p.form [] ≡ some (truth b) → True ν p ⊎ False ν p
      go true e = inl e
      go false e = inr e

  -- .. and not both
  pub not_both : (p : Predicate types) → True ν p → False ν p → ⊥
  not_both p t f = let z : ◌≡◌ {A = ℕ} 0 1 = cc in omega (arith, z)

  -- each hypothesis and the goal
  pub sequent_truths : (hypotheses : List (Predicate types)) (goal : Predicate types) → All (λ p. True ν p ⊎ False ν p) (goal ∷ hypotheses)
  sequent_truths hs g = (has_truth g, each_truth hs)
    where
      each_truth : (hs : List (Predicate types)) → All (λ p. True ν p ⊎ False ν p) hs
      each_truth [] = tt
      each_truth (h ∷ hs) = (has_truth h, each_truth hs)
