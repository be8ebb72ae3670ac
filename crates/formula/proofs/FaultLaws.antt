-- A node without fault: each test of its own bytes came out well.
use Prim.Native.Nat.{ℕ}
use mathlib.Core.Path.{◌≡◌, refl, sym, ap}
use mathlib.Core.Bool.{Bool, true, false}
use mathlib.Core.Option.{none}
use native.Mathlib.Omega.{arith}
use borrow.Author.Tests.{not-false}
use Rattle.formula.specs.Codes.{Code}
use Rattle.formula.specs.NodeTable.{row_of, Number, sort_of, same_sort}
use Rattle.formula.specs.NodeFault.{other_sort, number_out, node_fault}
use Rattle.formula.specs.Tree.{number_of}
use Rattle.formula.specs.Formed.{fault_in}
use Rattle.formula.specs.declared.Sort.{Sort}
use Rattle.formula.specs.declared.Sort.TheVariants as sort
use Rattle.formula.proofs.Choices.{none_some}

pub record Faultless (cut other out deep long : Bool) : Type 0 where
  pub not_cut : cut ≡ false
  pub same_sort_law : other ≡ false
  pub in_range : out ≡ false
  pub not_deep : deep ≡ false
  pub not_long : long ≡ false

pub no_fault : (cut other out deep long : Bool) (ν : Number) → node_fault cut other out deep long ν ≡ none → Faultless cut other out deep long
no_fault true other out deep long ν e = none_some (sym e)
no_fault false true out deep long ν e = none_some (sym e)
no_fault false false true deep long ν e = none_some (sym e)
no_fault false false false true long ν e = none_some (sym e)
no_fault false false false false true ν e = none_some (sym e)
no_fault false false false false false ν e = record { not_cut = refl; same_sort_law = refl; in_range = refl; not_deep = refl; not_long = refl }

-- the last test is asked only of a node that is not cut off
pub fault_long : (cut other out deep e f : Bool) (ν : Number) → (cut ≡ false → e ≡ f) → node_fault cut other out deep e ν ≡ node_fault cut other out deep f ν
fault_long true other out deep e f ν h = refl
fault_long false other out deep e f ν h = ap (λ (v : Bool). node_fault false other out deep v ν) (h refl)

-- .. and where something is wrong it need not be asked
pub some_fault : (cut other out deep long : Bool) (ν : Number) → (node_fault cut other out deep long ν ≡ none → ⊥) → node_fault cut other out deep long ν ≡ node_fault cut other out deep true ν
some_fault true other out deep long ν h = refl
some_fault false true out deep long ν h = refl
some_fault false false true deep long ν h = refl
some_fault false false false true long ν h = refl
some_fault false false false false true ν h = refl
some_fault false false false false false ν h = absurd (h refl)

pub one_sort : (σ ρ : Sort) → same_sort σ ρ ≡ true → σ ≡ ρ
one_sort sort.Predicate sort.Predicate e = refl
one_sort sort.Predicate sort.Expression e = absurd (let z : ◌≡◌ {A = ℕ} 0 1 = cc in omega arith)
one_sort sort.Expression sort.Predicate e = absurd (let z : ◌≡◌ {A = ℕ} 0 1 = cc in omega arith)
one_sort sort.Expression sort.Expression e = refl

-- ---- a node of a tree
module _ (t d : ℕ) (σ : Sort) (k : Code) (n : ℕ) (e : fault_in t d σ k n ≡ none) where
  pub sound : Faultless false (other_sort σ k) (number_out (row_of k).number (number_of k n) t d) false false
  sound = no_fault false (other_sort σ k) (number_out (row_of k).number (number_of k n) t d) false false (row_of k).number e

  pub sort_is : sort_of (row_of k).result ≡ σ
  sort_is = one_sort _ σ (not-false _ sound.same_sort_law)

  pub number_in : number_out (row_of k).number (number_of k n) t d ≡ false
  number_in = sound.in_range
