-- A tree that the table allows: of the sort expected, in scope, with counts in range, of at most l levels.
use Rattle.std.specs.Prelude.{ℕ, ◌+◌, ◌-◌, ◌<◌, ◌^◌, ◌≡◌, false}
use Rattle.std.proofs.Math.Option.{Option, none}
use Rattle.formula.specs.Codes.{Code}
use Rattle.formula.specs.NodeTable.{row_of, operands, declares, sort_of_kinds, sort_of_rest}
use Rattle.formula.specs.NodeFault.{Fault, other_sort, number_out, node_fault}
use Rattle.formula.specs.Tree.{Tree, node, Trees, nil, ◌▹◌, size, number_of}
use Rattle.formula.specs.declared.Sort.{Sort}

-- what is wrong with a node of a tree, which has n operands and is neither cut off nor too deep nor too long
abbrev pub fault_in : (t d : ℕ) → Sort → Code → ℕ → Option Fault
fault_in t d σ k n = node_fault false (other_sort σ k) (number_out (row_of k).number (number_of k n) t d) false false (row_of k).number

-- one node with n operands, under t identifiers and d bound variables
pub record Allowed (t d : ℕ) (σ : Sort) (k : Code) (n : ℕ) : Type 0 where
  pub faultless : fault_in t d σ k n ≡ none
  pub word_in : number_of k n < 2 ^ 64
  pub operands_are : n ≡ operands (row_of k).arity (number_of k n)

-- how many variables are bound below a node
abbrev pub inner : ℕ → Code → ℕ → ℕ
inner d k n = d + declares (row_of k).number (number_of k n)

unfoldable mutual
  pub Formed : ℕ → ℕ → ℕ → Sort → Tree → Type 0
  Formed l t d σ (node k xs) =
      (0 < l) × Allowed t d σ k (size xs) × AllFormed (l - 1) t (inner d k (size xs)) (sort_of_kinds (row_of k).first) (sort_of_rest (row_of k).rest) xs

  -- operands, the first of the sort σ and the others of the sort ρ
  pub AllFormed : ℕ → ℕ → ℕ → Sort → Sort → Trees → Type 0
  AllFormed l t d σ ρ nil = Unit {0}
  AllFormed l t d σ ρ (x ▹ xs) = Formed l t d σ x × AllFormed l t d ρ ρ xs
