-- Bytes are those of one formula at most, and no formula's bytes begin another's.
use Prim.Native.Nat.{ℕ, ◌+◌}
use mathlib.Core.Path.{◌≡◌, refl, sym, ap, ◌∙◌}
use mathlib.Core.List.{List, [], ◌++◌, append-nil}
use native.Mathlib.Omega.{arith}
use lib.ListN.{length, drop}
use lib.Seq.{drop-append_seam}
use Rattle.formula.specs.Tree.{Tree, encode}
use Rattle.formula.specs.Formed.{Formed}
use Rattle.formula.specs.Reading.{Parsed, got, formula_at}
use Rattle.formula.specs.declared.Sort.{Sort}
use Rattle.formula.proofs.Shaped.{deeper}
use Rattle.formula.proofs.Round.{reads}

same_got : (z : Parsed Tree) (x y : Tree) (p q : ℕ) → z ≡ got x p → z ≡ got y q → x ≡ y
same_got z x y p q e f = cc

cancel : (a r r' : List ℕ) → a ++ r ≡ a ++ r' → r ≡ r'
cancel a r r' e = sym (drop-append_seam a r) ∙ ap (drop (length a)) e ∙ drop-append_seam a r'

module _ (t d : ℕ) (σ : Sort) (l l' : ℕ) (x y : Tree) (F : Formed l t d σ x) (G : Formed l' t d σ y) where
  -- both are what is read of the same bytes
  pub one_formula : (r r' : List ℕ) → encode x ++ r ≡ encode y ++ r' → (x ≡ y) × (r ≡ r')
  one_formula r r' e =
      let s = encode x ++ r in
      let limit = length (encode x) + length (encode y) in
      let m = l + l' in
      let i = reads x m s t limit d σ 0 r (deeper x l m t d σ (omega arith) F) refl (omega arith) in
      let j = reads y m s t limit d σ 0 r' (deeper y l' m t d σ (omega arith) G) e (omega arith) in
      let u : x ≡ y = same_got (formula_at s t limit m d σ 0) x y _ _ i j in
      (u, cancel (encode x) r r' (e ∙ ap (λ (z : Tree). encode z ++ r') (sym u)))

  pub encode_one : encode x ≡ encode y → x ≡ y
  encode_one e = (one_formula [] [] (ap (λ (s : List ℕ). s ++ []) e)).0

  pub prefix_free : (r : List ℕ) → encode x ++ r ≡ encode y → r ≡ []
  prefix_free r e = (one_formula r [] (e ∙ sym (append-nil (encode y)))).1
