-- Hypotheses that are predicates, one by one.
use Prim.Native.Nat.{ℕ}
use mathlib.Core.List.{List, [], ◌∷◌, ◌++◌}
use Rattle.formula.specs.Formula.{Formula}
use Rattle.formula.specs.declared.Sort.TheVariants as sort
use Rattle.desk.specs.Sequent.{Hypothesis}
use Rattle.desk.proofs.Formulas.{Each, formulas_of}
use Rattle.sequent.specs.Accepted.{Predicates}

-- one more
pub one_predicate : (types : List ℕ) (h : Hypothesis) (hs : List Hypothesis) → Predicates types hs → Formula types sort.Predicate h.formula → Predicates types (hs ++ (h ∷ []))
one_predicate types h [] P F = (F, tt)
one_predicate types h (k ∷ hs) P F = (P.0, one_predicate types h hs P.1 F)

module _ (types : List ℕ) where
  pub each_formula : (hs : List Hypothesis) → Predicates types hs → Each (Formula types sort.Predicate) (formulas_of hs)
  each_formula [] P = tt
  each_formula (h ∷ hs) P = (P.0, each_formula hs P.1)

  pub all_predicates : (hs : List Hypothesis) → Each (Formula types sort.Predicate) (formulas_of hs) → Predicates types hs
  all_predicates [] P = tt
  all_predicates (h ∷ hs) P = (P.0, all_predicates hs P.1)
