-- What is read stands there.
use Prim.Native.Nat.{ℕ, zero, suc, ◌+◌}
use mathlib.Core.Path.{◌≡◌, refl, sym, ap, ◌∙◌, subst}
use mathlib.Core.List.{List}
use native.Mathlib.Numerals.{sub-one}
use Rattle.formula.specs.Codes.{Code, code_at}
use Rattle.formula.specs.NodeTable.{row_of, own_length, sort_of_kinds, sort_of_rest}
use Rattle.formula.specs.Tree.{Tree, Trees, size}
use Rattle.formula.specs.Formed.{inner}
use Rattle.formula.specs.Reading.{got, node_at, operands_by, node_by, formula_at}
use Rattle.formula.specs.declared.Sort.{Sort}
use Rattle.formula.proofs.FaultLaws.{number_in}
use Rattle.formula.proofs.Coded.{code_back}
use Rattle.formula.proofs.Back.{OfGot, on_got_law, OwnRead, node_read, no_level}
use Rattle.formula.proofs.Stands.{NodeAt, Stands, StandAll}

module _ (s : List ℕ) (t limit : ℕ) where
  pub own_stands : (l d : ℕ) (σ : Sort) (p : ℕ) (k : Code) (n : ℕ) → OwnRead s t limit l d σ p k n → NodeAt s t p k n
  own_stands l d σ p k n O =
      let c = code_back k in
      record {
        sign = c.0;
        code_is = ap code_at (sym O.byte_was) ∙ c.1;
        row_is = sym c.3;
        inside = O.in_bytes;
        number_is = O.number_was;
        operands_are = O.tested.operands_are;
        bound = d;
        number_in = number_in t d σ k n O.tested.faultless;
      }

  AllThere : ℕ → ℕ → ℕ → Trees → ℕ → Type 0
  AllThere l p n xs q = (size xs ≡ n) × StandAll s t l p xs q

  operands_stand : (l d : ℕ) → ((σ : Sort) (p : ℕ) → OfGot (Stands s t l p) (formula_at s t limit l d σ p))
      → (n : ℕ) (σ ρ : Sort) (p : ℕ) → OfGot (AllThere l p n) (operands_by (formula_at s t limit l d) n σ ρ p)
  unfolding operands_by Stands AllThere
  operands_stand l d f zero σ ρ p = (refl, refl)
  operands_stand l d f (suc n) σ ρ p =
      on_got_law (Stands s t l p) (AllThere l p (suc n)) (formula_at s t limit l d σ p) _ (f σ p) λ x m X.
      on_got_law (AllThere l m n) (AllThere l p (suc n)) (operands_by (formula_at s t limit l d) n ρ ρ m) _ (operands_stand l d f n ρ ρ m) λ xs q Y.
      (ap suc Y.0, (m, X, Y.1))

  formula_stands : (l d : ℕ) (σ : Sort) (p : ℕ) → OfGot (Stands s t l p) (formula_at s t limit l d σ p)
  unfolding formula_at node_by Stands AllThere
  formula_stands zero d σ p = on_got_law (OwnRead s t limit 0 d σ p) (Stands s t 0 p) (node_at s t limit 0 d σ p) _ (node_read s t limit 0 d σ p) λ k n O. no_level s t limit d σ p k n O
  formula_stands (suc l) d σ p =
      on_got_law (OwnRead s t limit (suc l) d σ p) (Stands s t (suc l) p) (node_at s t limit (suc l) d σ p) _ (node_read s t limit (suc l) d σ p) λ k n O.
      let σ₁ = sort_of_kinds (row_of k).first in
      let ρ = sort_of_rest (row_of k).rest in
      on_got_law (AllThere l (p + own_length k) n) (Stands s t (suc l) p) (operands_by (formula_at s t limit l (inner d k n)) n σ₁ ρ (p + own_length k)) _
      (operands_stand l (inner d k n) (formula_stands l (inner d k n)) n σ₁ ρ (p + own_length k)) λ xs q Y.
      (O.level_left, subst (λ (m : ℕ). NodeAt s t p k m) (sym Y.0) (own_stands (suc l) d σ p k n O), rw (sub-one (suc l)) Y.1)

  pub read_stands : (l d : ℕ) (σ : Sort) (p : ℕ) (x : Tree) (q : ℕ) → formula_at s t limit l d σ p ≡ got x q → Stands s t l p x q
  read_stands l d σ p x q e = subst (OfGot (Stands s t l p)) e (formula_stands l d σ p)
