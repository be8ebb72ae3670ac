-- Refusal 8 finds nothing wrong exactly where a formula has a type.
use Prim.Native.Nat.{ℕ, suc, ◌+◌, ◌-◌}
use mathlib.Core.Path.{◌≡◌, refl, ap, ap₂, sym, ◌∙◌}
use mathlib.Core.List.{List, [], ◌∷◌, map}
use mathlib.Core.Bool.{true, ◌&&◌}
use mathlib.Core.Option.{Option, some, none}
use mathlib.Core.Logic.{◌↔◌}
use lib.ListN.{length}
use Rattle.formula.specs.Types.{Ty, Want, among, same, Rest, may, may_all, want_next}
use Rattle.formula.specs.NodeTable.{row_of, own_length}
use Rattle.formula.specs.Tree.{Tree, node, Trees, nil, ◌▹◌, size, number_of, encode}
use Rattle.formula.specs.Formed.{Formed, AllFormed, inner}
use Rattle.formula.specs.Typing.{result_of, head_type, head_types, right, first_wrong, first_wrong_in, well_made, type_of, types_in}
use Rattle.formula.specs.declared.Sort.{Sort}
use Rattle.formula.proofs.Choices.{never, and_left, and_right, pick_none, pick_some, or_else_none}
use Rattle.formula.proofs.NodeType.{node_type, allowed_made}

mutual
  unfolding Formed first_wrong type_of head_type

  -- a formed formula in which nothing is wrong has the type that its head says
  pub right_typed : (x : Tree) (l : ℕ) (Γ : List Ty) (d : ℕ) (σ : Sort) (p : ℕ) → Formed l (length Γ) d σ x → first_wrong Γ p x ≡ none
      → (τ : Ty) × (type_of Γ d x ≡ some τ) × (head_type Γ x ≡ some τ)
  right_typed (node k xs) l Γ d σ p g e =
      let w = pick_none (right k (head_types Γ xs)) (first_wrong_in Γ (p + own_length k) xs) p e in
      let o = rights_typed xs (l - 1) Γ (inner d k (size xs)) _ _ (p + own_length k) g.2 w.1 in
      let t = node_type Γ d σ k (size xs) g.1 o.0 o.3 in
      let r : right k (map some o.0) ≡ true = rw (← o.2) w.0 in
      (t.0, rw (o.1, allowed_made Γ d σ k (size xs) g.1, r) t.1, ap (result_of (row_of k).result Γ (number_of k (size xs))) o.2 ∙ t.1)

  pub rights_typed : (xs : Trees) (l : ℕ) (Γ : List Ty) (d : ℕ) (σ ρ : Sort) (p : ℕ) → AllFormed l (length Γ) d σ ρ xs → first_wrong_in Γ p xs ≡ none
      → (τs : List Ty) × (types_in Γ d xs ≡ map some τs) × (head_types Γ xs ≡ map some τs) × (length τs ≡ size xs)
  rights_typed nil l Γ d σ ρ p g e = ([], refl, refl, refl)
  rights_typed (x ▹ xs) l Γ d σ ρ p g e =
      let w = or_else_none (first_wrong Γ p x) (first_wrong_in Γ (p + length (encode x)) xs) e in
      let t = right_typed x l Γ d σ p g.0 w.0 in
      let o = rights_typed xs l Γ d ρ ρ (p + length (encode x)) g.1 w.1 in
      (t.0 ∷ o.0, ap₂ ◌∷◌ t.1 o.1, ap₂ ◌∷◌ t.2 o.2, ap suc o.3)

-- an operand without a type may stand nowhere
pub may_some : (w : Want) (o : Option Ty) → may w o ≡ true → (τ : Ty) × (o ≡ some τ)
may_some (among ks) (some τ) e = (τ, refl)
may_some (among ks) none e = never e
may_some (same σ) (some τ) e = (τ, refl)
may_some (same σ) none e = never e

mutual
  unfolding type_of first_wrong head_type

  -- in a formula with a type nothing is wrong, and its head says that type
  pub typed_right : (x : Tree) (Γ : List Ty) (d p : ℕ) (τ : Ty) → type_of Γ d x ≡ some τ → (first_wrong Γ p x ≡ none) × (head_type Γ x ≡ some τ)
  typed_right (node k xs) Γ d p τ e =
      let b = inner d k (size xs) in
      let w = pick_some (well_made Γ d k (size xs) && right k (types_in Γ b xs)) (result_of (row_of k).result Γ (number_of k (size xs)) (types_in Γ b xs)) τ e in
      let r = and_right (well_made Γ d k (size xs)) (right k (types_in Γ b xs)) w.0 in
      let o = typed_rights xs Γ b (p + own_length k) (among (row_of k).first) (row_of k).rest r in
      (rw (o.1, r) o.0, rw o.1 w.1)

  pub typed_rights : (xs : Trees) (Γ : List Ty) (d p : ℕ) (w : Want) (r : Rest) → may_all w r (types_in Γ d xs) ≡ true → (first_wrong_in Γ p xs ≡ none) × (head_types Γ xs ≡ types_in Γ d xs)
  typed_rights nil Γ d p w r e = (refl, refl)
  typed_rights (x ▹ xs) Γ d p w r e =
      let m = may w (type_of Γ d x) in
      let s = may_some w (type_of Γ d x) (and_left m (may_all (want_next r (type_of Γ d x)) r (types_in Γ d xs)) e) in
      let h = typed_right x Γ d p s.0 s.1 in
      let o = typed_rights xs Γ d (p + length (encode x)) (want_next r (type_of Γ d x)) r (and_right m _ e) in
      (rw h.0 o.0, ap₂ ◌∷◌ (h.1 ∙ sym s.1) o.1)

-- of a formed formula: nothing wrong, wherever it stands, exactly if it has a type
pub right_iff_typed : (x : Tree) (l : ℕ) (Γ : List Ty) (d : ℕ) (σ : Sort) (p : ℕ) → Formed l (length Γ) d σ x → (first_wrong Γ p x ≡ none) ↔ ((τ : Ty) × (type_of Γ d x ≡ some τ))
right_iff_typed x l Γ d σ p g = (λ e. let t = right_typed x l Γ d σ p g e in (t.0, t.1), λ t. (typed_right x Γ d p t.0 t.1).0)
