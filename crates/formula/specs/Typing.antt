-- Types of formulas, and refusal 8: the first node in prefix order with a direct operand of a wrong type.
use Rattle.std.specs.Prelude.{ℕ, ◌+◌, List, [], ◌∷◌, Bool, not, ◌&&◌, length, eqb}
use Rattle.std.proofs.Math.Option.{Option, some, none}
use Rattle.formula.specs.Pick.{pick, or_else}
use Rattle.formula.specs.Codes.{Code}
use Rattle.formula.specs.Types.{Ty, pair, type_at, among, may_all}
use Rattle.formula.specs.NodeTable.{row_of, own_length, Result, is, of_identifier, of_pair, operands}
use Rattle.formula.specs.NodeFault.{number_out}
use Rattle.formula.specs.Tree.{Tree, node, Trees, nil, ◌▹◌, size, number_of, encode}
use Rattle.formula.specs.Formed.{inner}

-- a pair's type is read off its halves
abbrev pub pair_of : List (Option Ty) → Option Ty
pair_of [] = none
pair_of (none ∷ os) = none
pair_of (some a ∷ []) = none
pair_of (some a ∷ none ∷ os) = none
pair_of (some a ∷ some b ∷ []) = some (pair a b)
pair_of (some a ∷ some b ∷ o ∷ os) = none

-- the type that a node's code says, whether or not its own operands are right
abbrev pub result_of : Result → List Ty → ℕ → List (Option Ty) → Option Ty
result_of (is τ) Γ k os = some τ
result_of of_identifier Γ k os = type_at Γ k
result_of of_pair Γ k os = pair_of os

unfoldable mutual
  pub head_type : List Ty → Tree → Option Ty
  head_type Γ (node k xs) = result_of (row_of k).result Γ (number_of k (size xs)) (head_types Γ xs)

  pub head_types : List Ty → Trees → List (Option Ty)
  head_types Γ nil = []
  head_types Γ (x ▹ xs) = head_type Γ x ∷ head_types Γ xs

-- whether operands of these types may stand under a node
abbrev pub right : Code → List (Option Ty) → Bool
right k os = may_all (among (row_of k).first) (row_of k).rest os

-- the place of the first node with a wrong direct operand, of the formula at p
unfoldable mutual
  pub first_wrong : List Ty → ℕ → Tree → Option ℕ
  first_wrong Γ p (node k xs) = pick (right k (head_types Γ xs)) (first_wrong_in Γ (p + own_length k) xs) (some p)

  pub first_wrong_in : List Ty → ℕ → Trees → Option ℕ
  first_wrong_in Γ p nil = none
  first_wrong_in Γ p (x ▹ xs) = or_else (first_wrong Γ p x) (first_wrong_in Γ (p + length (encode x)) xs)

-- ---- the type of a formula under d bound variables; none where a rule is broken, a number is out of range or the operands are not as many as the table says
abbrev pub well_made : List Ty → ℕ → Code → ℕ → Bool
well_made Γ d k n =
    eqb n (operands (row_of k).arity (number_of k n)) && not (number_out (row_of k).number (number_of k n) (length Γ) d)

unfoldable mutual
  pub type_of : List Ty → ℕ → Tree → Option Ty
  type_of Γ d (node k xs) =
      pick (well_made Γ d k (size xs) && right k (types_in Γ (inner d k (size xs)) xs)) (result_of (row_of k).result Γ (number_of k (size xs)) (types_in Γ (inner d k (size xs)) xs)) none

  pub types_in : List Ty → ℕ → Trees → List (Option Ty)
  types_in Γ d nil = []
  types_in Γ d (x ▹ xs) = type_of Γ d x ∷ types_in Γ d xs
