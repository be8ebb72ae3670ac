-- Two readings of formulas that every node relates are related at every formula; the type of a formula is such a reading.
use Prim.Native.Nat.{ℕ, suc}
use mathlib.Core.Path.{◌≡◌, refl, ap, ap₂}
use mathlib.Core.List.{List, ◌∷◌, map}
use mathlib.Core.Bool.{◌&&◌}
use mathlib.Core.Option.{Option, none}
use lib.ListN.{length}
use Rattle.formula.specs.Pick.{pick}
use Rattle.formula.specs.Codes.{Code}
use Rattle.formula.specs.Types.{Ty}
use Rattle.formula.specs.NodeTable.{row_of}
use Rattle.formula.specs.Tree.{Tree, node, Trees, nil, ◌▹◌, size, number_of}
use Rattle.formula.specs.Formed.{inner}
use Rattle.formula.specs.Typing.{result_of, right, well_made, type_of, types_in}
use Rattle.meaning.specs.Fold.{fold, folds}
use Rattle.meaning.proofs.Lists.{All2}

module _ {S₁ S₂ : Type 0} (alg₁ : Code → List S₁ → S₁) (alg₂ : Code → List S₂ → S₂) (R : S₁ → S₂ → Type 0)
    (step : (k : Code) (ss : List S₁) (us : List S₂) → All2 R ss us → R (alg₁ k ss) (alg₂ k us)) where
  mutual
    unfolding fold

    pub relate : (x : Tree) → R (fold alg₁ x) (fold alg₂ x)
    relate (node k xs) = step k (folds alg₁ xs) (folds alg₂ xs) (relates xs)

    pub relates : (xs : Trees) → All2 R (folds alg₁ xs) (folds alg₂ xs)
    relates nil = tt
    relates (x ▹ xs) = (relate x, relates xs)

-- ---- a formula some of whose parts were exchanged for parts with the same reading keeps its reading
module _ {S : Type 0} (alg : Code → List S → S) where
  mutual
    pub data Kept : Tree → Tree → Type 0 where
      whole : {x y : Tree} → fold alg x ≡ fold alg y → Kept x y
      parts : {k : Code} {xs ys : Trees} → AllKept xs ys → Kept (node k xs) (node k ys)

    pub data AllKept : Trees → Trees → Type 0 where
      done : AllKept nil nil
      next : {x y : Tree} {xs ys : Trees} → Kept x y → AllKept xs ys → AllKept (x ▹ xs) (y ▹ ys)

  mutual
    unfolding fold

    pub keeps : {x y : Tree} → Kept x y → fold alg x ≡ fold alg y
    keeps (whole e) = e
    keeps (parts {k = k} a) = ap (alg k) (keep_all a)

    pub keep_all : {xs ys : Trees} → AllKept xs ys → folds alg xs ≡ folds alg ys
    keep_all done = refl
    keep_all (next h a) = ap₂ ◌∷◌ (keeps h) (keep_all a)

pub folds_size : {S : Type 0} (alg : Code → List S → S) (xs : Trees) → length (folds alg xs) ≡ size xs
unfolding folds
folds_size alg nil = refl
folds_size alg (x ▹ xs) = ap suc (folds_size alg xs)

-- ---- type_of is a fold: at each depth, from the types of the operands at the inner depth
abbrev pub typing : List Ty → Code → List (ℕ → Option Ty) → ℕ → Option Ty
typing Γ k σs d =
    let n = length σs in
    let os : List (Option Ty) = map (λ σ. σ (inner d k n)) σs in
    pick (well_made Γ d k n && right k os) (result_of (row_of k).result Γ (number_of k n) os) none

mutual
  unfolding type_of fold

  pub typed_fold : (x : Tree) (Γ : List Ty) (d : ℕ) → fold (typing Γ) x d ≡ type_of Γ d x
  typed_fold (node k xs) Γ d = rw (folds_size (typing Γ) xs, typed_folds xs Γ (inner d k (size xs)))

  pub typed_folds : (xs : Trees) (Γ : List Ty) (d : ℕ) → map (λ σ. σ d) (folds (typing Γ) xs) ≡ types_in Γ d xs
  typed_folds nil Γ d = refl
  typed_folds (x ▹ xs) Γ d = ap₂ ◌∷◌ (typed_fold x Γ d) (typed_folds xs Γ d)
