-- What one function of the code hands to the next: a source that was made of a predicate, and what its positions then answer.
use Rattle.std.specs.Prelude.{ℕ, ◌≡◌, List, Bool, length}
use Rattle.formula.specs.Pick.{at}
use Rattle.formula.specs.Tree.{Tree}
use Rattle.formula.specs.Formula.{Formula}
use Rattle.formula.specs.Equal.{Range}
use Rattle.formula.specs.declared.Sort.TheVariants as sort
use Rattle.keys.specs.Substitutes.{candidates, substitutes}
use Rattle.keys.specs.declared.Part.{Part}
use Rattle.keys.specs.declared.rows.Source.{Source}
use Rattle.keys.specs.declared.rows.Asked.{Asked}
use Rattle.variations.specs.Answers.{Answer, answer, first_for, AskedOf}
use Rattle.variations.specs.Mirror.SourceBytes.{source_at}

-- r was made of the predicate x, which stands in s
pub record SourceOf (s types : List ℕ) (starts : Bool) (x : Tree) (r : Source) : Type 0 where
  pub place : Part
  pub accepted : Formula types sort.Predicate x
  pub stands : Range s place.at place.end x
  pub made : r ≡ source_at s types place starts
  pub count_is : r.count ≡ length (candidates types starts x)

abbrev pub SourceIs : List ℕ → List ℕ → Part → Bool → Source → Type 0
SourceIs s types w starts r = (x : Tree) → Formula types sort.Predicate x → Range s w.at w.end x → SourceOf s types starts x r

-- the answer of the position k is that of the source's k-th entry
abbrev pub KeyIs : List ℕ → Source → ℕ → List ℕ → Asked → Answer → Type 0
KeyIs s r k t a z = (types : List ℕ) (starts : Bool) (x y : Tree) → SourceOf s types starts x r → AskedOf t y a → z ≡ answer (at (candidates types starts x) k) y

-- the answer of the source is that of its first entry for the predicate
abbrev pub FirstIs : List ℕ → Source → List ℕ → Asked → Answer → Type 0
FirstIs s r t a z = (types : List ℕ) (starts : Bool) (x y : Tree) → SourceOf s types starts x r → AskedOf t y a → z ≡ first_for (substitutes types starts x) y
