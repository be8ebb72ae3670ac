-- Truth of accepted predicates, and valuations that refute a sequent.
use Rattle.std.specs.Prelude.{◌≡◌, List, [], ◌∷◌, true, false, ℕ}
use Rattle.std.proofs.Math.Option.{some}
use Rattle.formula.specs.Tree.{Tree}
use Rattle.formula.specs.Formula.{Formula}
use Rattle.formula.specs.declared.Sort.TheVariants as sort
use Rattle.meaning.specs.Value.{truth}
use Rattle.meaning.specs.Valuation.{Valuation}
use Rattle.meaning.specs.Meaning.{eval}

-- an accepted predicate over identifiers with these type bytes
pub record Predicate (types : List ℕ) : Type 0 where
  pub form : Tree
  pub accepted : Formula types sort.Predicate form

module _ {types : List ℕ} (ν : Valuation types) where
  -- it has one truth value (proofs, Truths)
  abbrev pub True : Predicate types → Type 0
  True p = eval ν p.form [] ≡ some (truth true)

  abbrev pub False : Predicate types → Type 0
  False p = eval ν p.form [] ≡ some (truth false)

  abbrev pub AllTrue : List (Predicate types) → Type 0
  AllTrue [] = Unit {0}
  AllTrue (h ∷ hs) = True h × AllTrue hs

  -- all hypotheses true, hidden ones included, and the goal false
  pub record Refutes (hypotheses : List (Predicate types)) (goal : Predicate types) : Type 0 where
    pub hold : AllTrue hypotheses
    pub fails : False goal
