-- A node that the table allows, with operands that have types, has a type.
use Prim.Native.Nat.{ℕ, zero, suc, ◌<◌}
use native.Mathlib.Omega.{arith}
use mathlib.Core.Path.{◌≡◌, refl, ◌∙◌}
use mathlib.Core.List.{List, [], ◌∷◌, map}
use mathlib.Core.Bool.{Bool, true, false}
use mathlib.Core.Option.{some}
use lib.ListN.{length}
use lib.Dec.{eqb}
use borrow.Author.Tests.{leb-false, eqb-true, eq-eqb}
use Rattle.formula.specs.Codes.{Code, codes}
use Rattle.formula.specs.Types.{Ty, pair, type_at}
use Rattle.formula.specs.NodeTable.{row_of, Number, nothing, identifier, index, word, count, variables, Arity, fixed, counted, Result, is, of_identifier, of_pair, operands}
use Rattle.formula.specs.Tree.{number_of}
use Rattle.formula.specs.Formed.{Allowed}
use Rattle.formula.specs.Typing.{pair_of, result_of, well_made}
use Rattle.formula.specs.declared.Sort.{Sort}
use Rattle.formula.specs.NodeFault.{number_out}
use Rattle.formula.proofs.FaultLaws.{number_in}
use Rattle.formula.proofs.Choices.{never}
use Rattle.formula.proofs.Every.{every}
use Rattle.formula.proofs.Coded.{every_row}

-- the number is an identifier's; the operands are two
abbrev pub names? : Number → Bool
names? nothing = false
names? identifier = true
names? index = false
names? word = false
names? (count lo hi) = false
names? (variables lo hi) = false

abbrev two? : Arity → Bool
two? (fixed n) = eqb n 2
two? counted = false

-- a row takes its type from an identifier only if it has one, and from a pair only if there are two operands
abbrev fits? : Result → Number → Arity → Bool
fits? (is τ) ν a = true
fits? of_identifier ν a = names? ν
fits? of_pair ν a = two? a

row_fits : (k : Code) → fits? (row_of k).result (row_of k).number (row_of k).arity ≡ true
unfolding every codes
row_fits k = every_row (λ r. fits? r.result r.number r.arity) refl k

type_at_some : (Γ : List Ty) (k : ℕ) → k < length Γ → (τ : Ty) × (type_at Γ k ≡ some τ)
type_at_some [] k h = absurd (omega arith)
type_at_some (τ ∷ Γ) zero h = (τ, refl)
type_at_some (τ ∷ Γ) (suc k) h = type_at_some Γ k (omega arith)

named : (ν : Number) (m t d : ℕ) → names? ν ≡ true → number_out ν m t d ≡ false → m < t
named nothing m t d f h = never f
named identifier m t d f h = leb-false t m h
named index m t d f h = never f
named word m t d f h = never f
named (count lo hi) m t d f h = never f
named (variables lo hi) m t d f h = never f

two_operands : (a : Arity) (m : ℕ) → two? a ≡ true → operands a m ≡ 2
two_operands (fixed n) m f = eqb-true n 2 f
two_operands counted m f = cc

pair_of_some : (τs : List Ty) → length τs ≡ 2 → (τ : Ty) × (pair_of (map some τs) ≡ some τ)
pair_of_some [] h = absurd (omega arith)
pair_of_some (a ∷ []) h = absurd (omega arith)
pair_of_some (a ∷ b ∷ []) h = (pair a b, refl)
pair_of_some (a ∷ b ∷ c ∷ τs) h = absurd (omega arith)

module _ (Γ : List Ty) (d m : ℕ) (ν : Number) (a : Arity) (τs : List Ty) where
  result_some : (ρ : Result) → fits? ρ ν a ≡ true → number_out ν m (length Γ) d ≡ false → length τs ≡ operands a m → (τ : Ty) × (result_of ρ Γ m (map some τs) ≡ some τ)
  result_some (is τ) f i h = (τ, refl)
  result_some of_identifier f i h = type_at_some Γ m (named ν m (length Γ) d f i)
  result_some of_pair f i h = pair_of_some τs (h ∙ two_operands a m f)

module _ (Γ : List Ty) (d : ℕ) (σ : Sort) (k : Code) (n : ℕ) (g : Allowed (length Γ) d σ k n) where
  pub node_type : (τs : List Ty) → length τs ≡ n → (τ : Ty) × (result_of (row_of k).result Γ (number_of k n) (map some τs) ≡ some τ)
  node_type τs h = result_some Γ d (number_of k n) (row_of k).number (row_of k).arity τs (row_of k).result (row_fits k) (number_in (length Γ) d σ k n g.faultless) (h ∙ g.operands_are)

  pub allowed_made : well_made Γ d k n ≡ true
  allowed_made = rw (eq-eqb n _ g.operands_are, number_in (length Γ) d σ k n g.faultless)
