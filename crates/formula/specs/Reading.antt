-- Document 01: "Reading goes left to right. Within a formula the first of 1, 7, 9 in reading order is answered, the lower number at one node."
use Rattle.std.specs.Prelude.{ℕ, zero, suc, ◌+◌, ◌*◌, List, [], ◌∷◌, length, get_or, take, drop, ltb, leb, eqb}
use Rattle.std.proofs.Math.Option.{Option, some, none}
use Rattle.formula.specs.Pick.{pick}
use Rattle.formula.specs.Codes.{Code, code_at, with_number}
use Rattle.formula.specs.NodeTable.{row_of, Number, nothing, identifier, index, word, count, variables, own_length, operands, sort_of_kinds, sort_of_rest}
use Rattle.formula.specs.NodeFault.{Fault, other_sort, number_out, node_fault}
use Rattle.formula.specs.Tree.{Tree, node, Trees, nil, ◌▹◌}
use Rattle.formula.specs.Formed.{inner}
use Rattle.formula.specs.declared.Sort.{Sort}
use Rattle.refusal.specs.declared.Cause.{Cause}
use Rattle.refusal.specs.declared.Cause.TheVariants as cause

-- what was read and where it ends, or why not and the place
pub data Parsed (A : Type 0) : Type 0 where
  got : A → ℕ → Parsed A
  not_got : Cause → ℕ → Parsed A

-- a fault of the node at `at` ends the reading there
abbrev pub on_fault : {A : Type 0} → ℕ → Option Fault → Parsed A → Parsed A
on_fault at none z = z
on_fault at (some f) z = not_got f.cause (at + f.offset)

abbrev pub on_got : {A B : Type 0} → Parsed A → (A → ℕ → Parsed B) → Parsed B
on_got (got a p) f = f a p
on_got (not_got c p) f = not_got c p

abbrev pub of_le : List ℕ → ℕ
of_le [] = 0
of_le (b ∷ bs) = b + 256 * of_le bs

-- the number that stands at i
abbrev pub number_at : Number → List ℕ → ℕ → ℕ
number_at nothing s i = 0
number_at identifier s i = get_or s i 0
number_at index s i = get_or s i 0
number_at word s i = of_le (take 8 (drop i s))
number_at (count lo hi) s i = get_or s i 0
number_at (variables lo hi) s i = get_or s i 0

-- ---- the formula's bytes end before `limit`; t identifiers
module _ (s : List ℕ) (t limit : ℕ) where
  -- the own bytes of a node at `at` whose byte stands for the code, with l levels left and d variables bound outside:
  -- what is wrong with them, or its code and the number of its operands
  abbrev pub own_bytes : (l d : ℕ) → Sort → ℕ → Option Code → Parsed Code
  own_bytes l d σ at none = not_got cause.Code at
  own_bytes l d σ at (some k) =
      let n = number_at (row_of k).number s (at + 1) in
      on_fault at (node_fault (ltb (length s) (at + own_length k)) (other_sort σ k) (number_out (row_of k).number n t d) (eqb l 0) (ltb limit (at + own_length k)) (row_of k).number)
      (got (with_number k n) (operands (row_of k).arity n))

  unfoldable pub node_at : (l d : ℕ) → Sort → ℕ → Parsed Code
  node_at l d σ at = pick (leb (length s) at) (not_got cause.Length at) (own_bytes l d σ at (code_at (get_or s at 0)))

-- n operands one after the other, the first of the sort σ and the others of the sort ρ, each read by f
unfoldable pub operands_by : (Sort → ℕ → Parsed Tree) → ℕ → Sort → Sort → ℕ → Parsed Trees
operands_by f zero σ ρ at = got nil at
operands_by f (suc n) σ ρ at = on_got (f σ at) (λ x p. on_got (operands_by f n ρ ρ p) (λ xs q. got (x ▹ xs) q))

-- a node and its operands, each formula below it read by f under so many bound variables
unfoldable pub node_by : (ℕ → Sort → ℕ → Parsed Tree) → ℕ → ℕ → Parsed Code → Parsed Tree
node_by f d at h =
    on_got h (λ k n. on_got (operands_by (f (inner d k n)) n (sort_of_kinds (row_of k).first) (sort_of_rest (row_of k).rest) (at + own_length k)) (λ xs q. got (node k xs) q))

-- a formula of the sort σ at `at`, of at most l levels, under d bound variables
unfoldable pub formula_at : List ℕ → ℕ → ℕ → (l d : ℕ) → Sort → ℕ → Parsed Tree
formula_at s t limit zero d σ at = node_by (λ d σ p. not_got cause.Deep p) d at (node_at s t limit 0 d σ at)
formula_at s t limit (suc l) d σ at = node_by (formula_at s t limit l) d at (node_at s t limit (suc l) d σ at)
