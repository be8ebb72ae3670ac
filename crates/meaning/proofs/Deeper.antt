-- A formula typed under d bound variables has the same type under more.
use Prim.Native.Nat.{ℕ, ◌≤◌}
use mathlib.Core.Path.{◌≡◌, refl, ap₂, sym, ◌∙◌}
use mathlib.Core.List.{List, [], ◌∷◌, map}
use mathlib.Core.Bool.{true, false, ◌&&◌}
use mathlib.Core.Option.{Option, some}
use native.Mathlib.Omega.{arith}
use lib.ListN.{length}
use borrow.Author.Tests.{leb-false, lt-leb, eq-eqb}
use Rattle.formula.specs.Codes.{Code}
use Rattle.formula.specs.Types.{Ty, among, Want, Rest, may, may_all, want_next}
use Rattle.formula.specs.NodeTable.{row_of, Number, nothing, identifier, index, word, count, variables}
use Rattle.formula.specs.NodeFault.{number_out}
use Rattle.formula.specs.Tree.{Tree, number_of}
use Rattle.formula.specs.Formed.{inner}
use Rattle.formula.specs.Typing.{result_of, right, well_made, type_of}
use Rattle.formula.proofs.Choices.{and_left, and_right, pick_some}
use Rattle.formula.proofs.Typed.{may_some}
use Rattle.meaning.proofs.Lists.{All2, all2_length}
use Rattle.meaning.proofs.Relate.{relate, typing, typed_fold}
use Rattle.meaning.proofs.NodeRows.{made_arity, made_number}

number_deeper : (f : Number) (m t d e : ℕ) → d ≤ e → number_out f m t d ≡ false → number_out f m t e ≡ false
number_deeper nothing m t d e h q = q
number_deeper identifier m t d e h q = q
number_deeper index m t d e h q = let b = leb-false d m q in lt-leb e m (omega arith)
number_deeper word m t d e h q = q
number_deeper (count lo hi) m t d e h q = q
number_deeper (variables lo hi) m t d e h q = q

made_deeper : (Γ : List Ty) (k : Code) (n d e : ℕ) → d ≤ e → well_made Γ d k n ≡ true → well_made Γ e k n ≡ true
made_deeper Γ k n d e h m =
    rw (eq-eqb n _ (made_arity Γ d k n m), number_deeper (row_of k).number (number_of k n) (length Γ) d e h (made_number Γ d k n m))

module _ (Γ : List Ty) where
  abbrev Up : (ℕ → Option Ty) → (ℕ → Option Ty) → Type 0
  Up σ υ = (d : ℕ) (τ : Ty) → σ d ≡ some τ → (e : ℕ) → d ≤ e → υ e ≡ some τ

  operands_up : (d e : ℕ) → d ≤ e → (w : Want) (r : Rest) (σs υs : List (ℕ → Option Ty)) → All2 Up σs υs → may_all w r (map (λ σ. σ d) σs) ≡ true
      → map (λ σ. σ e) υs ≡ map (λ σ. σ d) σs
  operands_up d e h w r [] [] a q = refl
  operands_up d e h w r [] (υ ∷ υs) a q = absurd a
  operands_up d e h w r (σ ∷ σs) [] a q = absurd a
  operands_up d e h w r (σ ∷ σs) (υ ∷ υs) a q =
      let t = may_some w (σ d) (and_left (may w (σ d)) _ q) in
      ap₂ ◌∷◌ (a.0 d t.0 t.1 e h ∙ sym t.1) (operands_up d e h (want_next r (σ d)) r σs υs a.1 (and_right (may w (σ d)) _ q))

  node_up : (k : Code) (σs υs : List (ℕ → Option Ty)) → All2 Up σs υs → Up (typing Γ k σs) (typing Γ k υs)
  node_up k σs υs a d τ q e h =
      let n = length σs in
      let os = map (λ σ. σ (inner d k n)) σs in
      let w = pick_some (well_made Γ d k n && right k os) (result_of (row_of k).result Γ (number_of k n) os) τ q in
      let m = made_deeper Γ k n d e h (and_left (well_made Γ d k n) _ w.0) in
      let r = and_right (well_made Γ d k n) _ w.0 in
      let o = operands_up (inner d k n) (inner e k n) (omega arith) (among (row_of k).first) (row_of k).rest σs υs a r in
      rw (← all2_length Up σs υs a, o, m, r) w.1

  pub deeper_type : (x : Tree) (d : ℕ) (τ : Ty) → type_of Γ d x ≡ some τ → (e : ℕ) → d ≤ e → type_of Γ e x ≡ some τ
  deeper_type x d τ q e h = sym (typed_fold x Γ e) ∙ relate (typing Γ) (typing Γ) Up node_up x d τ (typed_fold x Γ d ∙ q) e h
