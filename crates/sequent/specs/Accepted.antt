-- The sequents that document 01 accepts.
use Rattle.std.specs.Prelude.{ℕ, ◌≤◌, List, [], ◌∷◌, length}
use Rattle.formula.specs.Formula.{Formula}
use Rattle.formula.specs.declared.Sort.TheVariants as sort
use Rattle.desk.specs.Sequent.{Hypothesis, Sequent, Different}
use Rattle.desk.specs.File.{encode_sequent}

-- type bytes 0, 1, 2
abbrev pub TypeBytes : List ℕ → Type 0
TypeBytes [] = Unit {0}
TypeBytes (b ∷ bs) = (b ≤ 2) × TypeBytes bs

-- each hypothesis is a predicate over the identifiers
abbrev pub Predicates : List ℕ → List Hypothesis → Type 0
Predicates types [] = Unit {0}
Predicates types (h ∷ hs) = Formula types sort.Predicate h.formula × Predicates types hs

pub record AcceptedSequent (q : Sequent) : Type 0 where
  pub few_types : length q.types ≤ 64
  pub type_bytes : TypeBytes q.types
  pub few : length q.hypotheses ≤ 64
  pub predicates : Predicates q.types q.hypotheses
  pub different : Different q.hypotheses
  pub goal_is : Formula q.types sort.Predicate q.goal
  pub short : length (encode_sequent q) ≤ 60000
