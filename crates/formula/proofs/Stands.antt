-- A formula that stands at a place of some bytes, and where it ends.
use Prim.Native.Nat.{ℕ, ◌+◌, ◌-◌, ◌<◌, ◌≤◌}
use mathlib.Core.Path.{◌≡◌}
use mathlib.Core.Bool.{false}
use mathlib.Core.Option.{some}
use mathlib.Core.List.{List}
use lib.ListN.{length, get_or}
use Rattle.formula.specs.Codes.{Code, code_at}
use Rattle.formula.specs.NodeTable.{row_of, own_length, operands}
use Rattle.formula.specs.NodeFault.{number_out}
use Rattle.formula.specs.Tree.{Tree, node, Trees, nil, ◌▹◌, size, number_of}
use Rattle.formula.specs.Reading.{number_at}

-- the own bytes at p are those of a node with the code k and n operands; `sign` is the code without its number
pub record NodeAt (s : List ℕ) (t p : ℕ) (k : Code) (n : ℕ) : Type 0 where
  pub sign : Code
  pub code_is : code_at (get_or s p 0) ≡ some sign
  pub row_is : row_of k ≡ row_of sign
  pub inside : p + own_length k ≤ length s
  pub number_is : number_of k n ≡ number_at (row_of k).number s (p + 1)
  pub operands_are : n ≡ operands (row_of k).arity (number_of k n)
  pub bound : ℕ
  pub number_in : number_out (row_of k).number (number_of k n) t bound ≡ false

-- at most l levels, from p to q
unfoldable mutual
  pub Stands : List ℕ → ℕ → ℕ → ℕ → Tree → ℕ → Type 0
  Stands s t l p (node k xs) q = (0 < l) × NodeAt s t p k (size xs) × StandAll s t (l - 1) (p + own_length k) xs q

  pub StandAll : List ℕ → ℕ → ℕ → ℕ → Trees → ℕ → Type 0
  StandAll s t l p nil q = p ≡ q
  StandAll s t l p (x ▹ xs) q = (m : ℕ) × Stands s t l p x m × StandAll s t l m xs q
