-- A reading of formulas: one function for every node, from the readings of its operands.
use Rattle.std.specs.Prelude.{List, [], ◌∷◌}
use Rattle.formula.specs.Codes.{Code}
use Rattle.formula.specs.Tree.{Tree, node, Trees, nil, ◌▹◌}

module _ {S : Type 0} (alg : Code → List S → S) where
  unfoldable mutual
    pub fold : Tree → S
    fold (node k xs) = alg k (folds xs)

    pub folds : Trees → List S
    folds nil = []
    folds (x ▹ xs) = fold x ∷ folds xs
