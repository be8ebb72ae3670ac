-- The types of the two sides of a relation that has a type.
use Prim.Native.Nat.{ℕ, ◌+◌}
use mathlib.Core.Path.{◌≡◌, refl, ap, sym, ◌∙◌}
use mathlib.Core.Bool.{true, false, ◌&&◌}
use mathlib.Core.Option.{Option, some, none}
use mathlib.Core.List.{List, [], ◌∷◌}
use Rattle.formula.specs.Codes.{Rel, eq, lt, le, gt, ge, mem, sub, sube, rel}
use Rattle.formula.specs.Types as T
use Rattle.formula.specs.Types.{Ty, base, pair, kind_of, one, among, among?, may, want_next, eq_ty}
use Rattle.formula.specs.NodeTable.{rel_row, Number, nothing, declares}
use Rattle.formula.specs.Tree.{Tree, node, nil, ◌▹◌}
use Rattle.formula.specs.Formed.{inner}
use Rattle.formula.specs.Typing.{type_of}
use Rattle.formula.proofs.Choices.{never, none_some, and_left, and_right}
use Rattle.formula.proofs.Typed.{may_some}
use Rattle.keys.proofs.StripIs.{operands_typed}

pub rel_plain : (q : Rel) → (rel_row q).number ≡ nothing
rel_plain = elim [ eq ↦ refl | lt ↦ refl | le ↦ refl | gt ↦ refl | ge ↦ refl | mem ↦ refl | sub ↦ refl | sube ↦ refl ]

-- a relation binds nothing
pub rel_inner : (q : Rel) → inner 0 (rel q) 2 ≡ 0
rel_inner q = ap (λ (ν : Number). 0 + declares ν 0) (rel_plain q)

pub type_clash : {A : Type 0} (σ τ : Ty) (o : Option Ty) → o ≡ some τ → eq_ty σ τ ≡ false → may (T.same σ) o ≡ true → A
type_clash σ τ o e n h = never (sym n ∙ ap (may (T.same σ)) (sym e) ∙ h)

pub int_only : (τ : Ty) → among? (kind_of τ) (one T.int ∷ []) ≡ true → τ ≡ base T.int
int_only (base b) = elim b as (λ b. among? (one b) (one T.int ∷ []) ≡ true → base b ≡ base T.int) [ T.prop ↦ λ h. never h | T.int ↦ λ h. refl | T.boo ↦ λ h. never h | T.set ↦ λ h. never h | T.nats ↦ λ h. never h | T.nats1 ↦ λ h. never h ]
int_only (pair a b) = λ h. never h

pub set_only : (τ : Ty) → among? (kind_of τ) (one T.set ∷ []) ≡ true → τ ≡ base T.set
set_only (base b) = elim b as (λ b. among? (one b) (one T.set ∷ []) ≡ true → base b ≡ base T.set) [ T.prop ↦ λ h. never h | T.int ↦ λ h. never h | T.boo ↦ λ h. never h | T.set ↦ λ h. refl | T.nats ↦ λ h. never h | T.nats1 ↦ λ h. never h ]
set_only (pair a b) = λ h. never h

module _ (Γ : List Ty) where
  -- ---- the types of the sides
  pub record Typed (q : Rel) (l r : Tree) : Type 0 where
    pub left_type : Ty
    pub right_type : Ty
    pub left_is : type_of Γ 0 l ≡ some left_type
    pub right_is : type_of Γ 0 r ≡ some right_type
    pub first_may : may (among (rel_row q).first) (some left_type) ≡ true
    pub second_may : may (want_next (rel_row q).rest (some left_type)) (some right_type) ≡ true

  pub typed_sides : (q : Rel) (l r : Tree) (τ : Ty) → type_of Γ 0 (node (rel q) (l ▹ r ▹ nil)) ≡ some τ → Typed q l r
  unfolding type_of
  typed_sides q l r τ t =
      let i = rel_inner q in
      let o : (may (among (rel_row q).first) (type_of Γ (inner 0 (rel q) 2) l) && (may (want_next (rel_row q).rest (type_of Γ (inner 0 (rel q) 2) l)) (type_of Γ (inner 0 (rel q) 2) r) && true)) ≡ true =
      operands_typed Γ 0 (rel q) (l ▹ r ▹ nil) τ t in
      go (type_of Γ 0 l) (type_of Γ 0 r) refl refl
      (ap (λ (d : ℕ). may (among (rel_row q).first) (type_of Γ d l) && (may (want_next (rel_row q).rest (type_of Γ d l)) (type_of Γ d r) && true)) (sym i) ∙ o)
    where
      go : (ol or : Option Ty) → type_of Γ 0 l ≡ ol → type_of Γ 0 r ≡ or → (may (among (rel_row q).first) ol && (may (want_next (rel_row q).rest ol) or && true)) ≡ true → Typed q l r
      go none or p s e = never e
      go (some σ) none p s e = let z = may_some (want_next (rel_row q).rest (some σ)) none (and_left _ true (and_right (may (among (rel_row q).first) (some σ)) _ e)) in none_some z.1
      go (some σ) (some ρ) p s e = record {
        left_type = σ;
        right_type = ρ;
        left_is = p;
        right_is = s;
        first_may = and_left _ _ e;
        second_may = and_left _ true (and_right (may (among (rel_row q).first) (some σ)) _ e);
      }
