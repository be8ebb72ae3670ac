-- Where refusal 8 finds a wrong node: inside the formula; and whether it does, no matter where the formula stands.
use Prim.Native.Nat.{ℕ, ◌+◌, ◌≤◌, ◌<◌}
use native.Mathlib.Omega.{arith}
use mathlib.Core.Path.{◌≡◌, refl}
use mathlib.Core.List.{List}
use mathlib.Core.Option.{some, none, none-ne-some}
use mathlib.Core.Logic.{⊎_elim}
use lib.ListN.{length, length-append}
use Rattle.formula.specs.Codes.{Code}
use Rattle.formula.specs.Types.{Ty}
use Rattle.formula.specs.NodeTable.{own_length}
use Rattle.formula.specs.Tree.{Tree, node, Trees, nil, ◌▹◌, encode, encodes}
use Rattle.formula.specs.Typing.{head_types, right, first_wrong, first_wrong_in}
use Rattle.formula.proofs.Choices.{pick_none, pick_cases, or_else_none, or_else_cases}
use Rattle.formula.proofs.Numbers.{own_long}

mutual
  unfolding first_wrong

  pub wrong_moves : (x : Tree) (Γ : List Ty) (p q : ℕ) → first_wrong Γ p x ≡ none → first_wrong Γ q x ≡ none
  wrong_moves (node k xs) Γ p q e =
      let w = pick_none (right k (head_types Γ xs)) (first_wrong_in Γ (p + own_length k) xs) p e in
      rw w.0 (wrongs_move xs Γ (p + own_length k) (q + own_length k) w.1)

  pub wrongs_move : (xs : Trees) (Γ : List Ty) (p q : ℕ) → first_wrong_in Γ p xs ≡ none → first_wrong_in Γ q xs ≡ none
  wrongs_move nil Γ p q e = refl
  wrongs_move (x ▹ xs) Γ p q e =
      let w = or_else_none (first_wrong Γ p x) (first_wrong_in Γ (p + length (encode x)) xs) e in
      rw (wrong_moves x Γ p q w.0) (wrongs_move xs Γ (p + length (encode x)) (q + length (encode x)) w.1)

-- ---- the bytes of a node: its own, as many as its row says, and its operands'
pub node_length : (k : Code) (xs : Trees) → length (encode (node k xs)) ≡ own_length k + length (encodes xs)
unfolding encode
node_length k xs = simp (length-append, own_long) (omega arith)

-- ---- the place
mutual
  unfolding first_wrong encode

  pub wrong_at : (x : Tree) (Γ : List Ty) (p w : ℕ) → first_wrong Γ p x ≡ some w → (p ≤ w) × (w < p + length (encode x))
  wrong_at (node k xs) Γ p w e = ⊎_elim
      (λ h. let i = wrongs_at xs Γ (p + own_length k) w h in rw (node_length k xs) (omega arith))
      (λ (h : p ≡ w). rw (node_length k xs) (omega arith))
      (pick_cases (right k (head_types Γ xs)) (first_wrong_in Γ (p + own_length k) xs) p w e)

  pub wrongs_at : (xs : Trees) (Γ : List Ty) (p w : ℕ) → first_wrong_in Γ p xs ≡ some w → (p ≤ w) × (w < p + length (encodes xs))
  wrongs_at nil Γ p w e = absurd (none-ne-some w e)
  wrongs_at (x ▹ xs) Γ p w e = ⊎_elim
      (λ h. let i = wrong_at x Γ p w h in simp length-append (omega arith))
      (λ h. let i = wrongs_at xs Γ (p + length (encode x)) w h in simp length-append (omega arith))
      (or_else_cases (first_wrong Γ p x) (first_wrong_in Γ (p + length (encode x)) xs) w e)
