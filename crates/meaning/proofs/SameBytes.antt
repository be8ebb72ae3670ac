-- Meaning depends on the tree alone: formulas with the same bytes mean the same.
use Prim.Native.Nat.{ℕ}
use mathlib.Core.Path.{◌≡◌, ap}
use mathlib.Core.List.{List}
use lib.ListN.{length}
use Rattle.formula.specs.Tree.{Tree, encode}
use Rattle.formula.specs.Formula.{Formula}
use Rattle.formula.specs.declared.Sort.{Sort}
use Rattle.formula.proofs.OneFormula.{encode_one}
use Rattle.meaning.specs.Valuation.{Valuation}
use Rattle.meaning.specs.Meaning.{eval}

pub same_bytes : (types : List ℕ) (σ : Sort) (x y : Tree) → Formula types σ x → Formula types σ y → encode x ≡ encode y → (ν : Valuation types) → eval ν x ≡ eval ν y
same_bytes types σ x y F G e ν = ap (eval ν) (encode_one (length types) 0 σ 32 32 x y F.formed G.formed e)
