-- A formula typed under d bound variables looks at no more than d values: what stands behind them changes neither its value nor its type.
use Prim.Native.Nat.{ℕ, zero, suc, ◌+◌, ◌<◌}
use mathlib.Core.Path.{◌≡◌, refl, ap, ap₂, sym, ◌∙◌, subst}
use mathlib.Core.List.{List, [], ◌∷◌, ◌++◌, map}
use mathlib.Core.Bool.{true, ◌&&◌}
use mathlib.Core.Option.{Option, some}
use native.Mathlib.Omega.{arith}
use lib.ListN.{length}
use lib.IntN.{ℤ}
use borrow.Author.Tests.{leb-false}
use Rattle.formula.specs.Codes as C
use Rattle.formula.specs.Codes.{Bind, Code, con, ident, bound, lit, rel, fun, many, qu}
use Rattle.formula.specs.Types.{Ty, among, Want, Rest, may, may_all, want_next, types_of}
use Rattle.formula.specs.NodeTable.{row_of}
use Rattle.formula.specs.Tree.{Tree, number_of}
use Rattle.formula.specs.Formed.{inner}
use Rattle.formula.specs.Typing.{result_of, right, well_made, type_of}
use Rattle.formula.proofs.Choices.{and_left, and_right, pick_some}
use Rattle.formula.proofs.Typed.{may_some}
use Rattle.meaning.specs.Defined.{◌>>=◌, nth, each, concat_map}
use Rattle.meaning.specs.Value.{truth, set, as_truth}
use Rattle.meaning.specs.Operators.{relation, function, several, all_true, some_true}
use Rattle.meaning.specs.Valuation.{interval, Valuation}
use Rattle.meaning.specs.Meaning.{Sense, choices, truth_at, guarded, collect, binder, values, sense, eval}
use Rattle.meaning.proofs.Lists.{All, All2, all_map, all2_length}
use Rattle.meaning.proofs.Relate.{relate, typing, typed_fold}
use Rattle.meaning.proofs.NodeRows.{made_number, rel_row_law, fun_row_law, many_row_law}
use Rattle.meaning.proofs.Has.{choices_length}

-- ---- choices above a longer list
map_append : {A B : Type 0} (f : A → B) (l r : List A) → map f (l ++ r) ≡ map f l ++ map f r
map_append f [] r = refl
map_append f (x ∷ xs) r = ap (f x ∷◌) (map_append f xs r)

concat_map_law : {A B : Type 0} (f g : A → List B) (h : B → B) (xs : List A) → ((x : A) → f x ≡ map h (g x)) → concat_map f xs ≡ map h (concat_map g xs)
concat_map_law f g h [] e = refl
concat_map_law f g h (x ∷ xs) e = ap₂ ◌++◌ (e x) (concat_map_law f g h xs e) ∙ sym (map_append h (g x) (concat_map g xs))

pub choices_append : (I : List ℤ) (n : ℕ) (ρ ρ₁ : List ℤ) → choices I n (ρ ++ ρ₁) ≡ map (λ σ. σ ++ ρ₁) (choices I n ρ)
choices_append I zero ρ ρ₁ = refl
choices_append I (suc n) ρ ρ₁ = concat_map_law (λ z. choices I n (z ∷ (ρ ++ ρ₁))) (λ z. choices I n (z ∷ ρ)) (λ σ. σ ++ ρ₁) I (λ z. choices_append I n (z ∷ ρ) ρ₁)

-- ---- readings that agree
each_alike : {A B C : Type 0} (h : A → Option B) (f g : C → A) (l : List C) → All (λ x. h (f x) ≡ h (g x)) l → each h (map f l) ≡ each h (map g l)
each_alike h f g [] a = refl
each_alike h f g (x ∷ xs) a = rw (a.0, each_alike h f g xs a.1)

-- a binder whose operands agree at each of some choices
module _ {A : Type 0} (f g : A → List ℤ) (l : List A) where
  abbrev Agree : Sense → Type 0
  Agree s = All (λ x. s (f x) ≡ s (g x)) l

  binder_alike : (b : Bind) (ss : List Sense) → All Agree ss → binder b ss (map f l) ≡ binder b ss (map g l)
  binder_alike C.all [] a = refl
  binder_alike C.all (p ∷ []) a = ap (λ o. o >>= λ bs. some (truth (all_true bs))) (each_alike (truth_at p) f g l (all_map l (λ x e. ap (λ o. o >>= as_truth) e) a.0))
  binder_alike C.all (p ∷ q ∷ ss) a = refl
  binder_alike C.ex [] a = refl
  binder_alike C.ex (p ∷ []) a = ap (λ o. o >>= λ bs. some (truth (some_true bs))) (each_alike (truth_at p) f g l (all_map l (λ x e. ap (λ o. o >>= as_truth) e) a.0))
  binder_alike C.ex (p ∷ q ∷ ss) a = refl
  binder_alike C.compr [] a = refl
  binder_alike C.compr (p ∷ []) a = refl
  binder_alike C.compr (p ∷ e ∷ []) a = ap (λ o. o >>= λ xs. some (set (collect xs))) (each_alike (guarded p e) f g l (both l a.0 a.1.0))
    where
      both : (l : List A) → All (λ x. p (f x) ≡ p (g x)) l → All (λ x. e (f x) ≡ e (g x)) l
          → All (λ x. guarded p e (f x) ≡ guarded p e (g x)) l
      both [] a b = tt
      both (x ∷ l) a b = (rw (a.0, b.0), both l a.1 b.1)
  binder_alike C.compr (p ∷ e ∷ s ∷ ss) a = refl

-- ---- a reading that looks at d values only
abbrev Local : ℕ → Sense → Type 0
Local d s = (ρ ρ₁ ρ₂ : List ℤ) → length ρ ≡ d → s (ρ ++ ρ₁) ≡ s (ρ ++ ρ₂)

values_local : (d : ℕ) (ss : List Sense) → All (Local d) ss → (ρ ρ₁ ρ₂ : List ℤ) → length ρ ≡ d → values ss (ρ ++ ρ₁) ≡ values ss (ρ ++ ρ₂)
values_local d [] a ρ ρ₁ ρ₂ l = refl
values_local d (s ∷ ss) a ρ ρ₁ ρ₂ l = rw (a.0 ρ ρ₁ ρ₂ l, values_local d ss a.1 ρ ρ₁ ρ₂ l)

nth_append : (ρ ρ₁ ρ₂ : List ℤ) (i : ℕ) → i < length ρ → nth (ρ ++ ρ₁) i ≡ nth (ρ ++ ρ₂) i
nth_append [] ρ₁ ρ₂ i h = absurd (omega arith)
nth_append (x ∷ xs) ρ₁ ρ₂ zero h = refl
nth_append (x ∷ xs) ρ₁ ρ₂ (suc i) h = nth_append xs ρ₁ ρ₂ i (omega arith)

module _ {types : List ℕ} (ν : Valuation types) where
  abbrev I : List ℤ
  I = interval ν.lo ν.hi

  qu_local : (b : Bind) (d n : ℕ) (ss : List Sense) → All (Local (d + n)) ss → Local d (sense ν (qu b n) ss)
  qu_local b d n ss a ρ ρ₁ ρ₂ l =
      ap (binder b ss) (choices_append I n ρ ρ₁)
      ∙ binder_alike (λ σ. σ ++ ρ₁) (λ σ. σ ++ ρ₂) (choices I n ρ) b ss
      (all_map ss (λ s h. all_map (choices I n ρ) (λ σ e. h σ ρ₁ ρ₂ (e ∙ ap (λ (m : ℕ). m + n) l)) (choices_length I n ρ)) a)
      ∙ sym (ap (binder b ss) (choices_append I n ρ ρ₂))

  abbrev Γ : List Ty
  Γ = types_of types

  node_local : (d : ℕ) (k : Code) (ss : List Sense) → well_made Γ d k (length ss) ≡ true → All (Local (inner d k (length ss))) ss → Local d (sense ν k ss)
  node_local d (con c) ss m a ρ ρ₁ ρ₂ l = refl
  node_local d (ident k) ss m a ρ ρ₁ ρ₂ l = refl
  node_local d (bound i) ss m a ρ ρ₁ ρ₂ l =
      let h = leb-false d i (made_number Γ d (bound i) (length ss) m) in
      rw (nth_append ρ ρ₁ ρ₂ i (omega arith))
  node_local d (lit w) ss m a ρ ρ₁ ρ₂ l = refl
  node_local d (rel r) ss m a ρ ρ₁ ρ₂ l = ap (λ o. o >>= relation r) (values_local _ ss a ρ ρ₁ ρ₂ (omega (arith, (rel_row_law r 0).2)))
  node_local d (fun f) ss m a ρ ρ₁ ρ₂ l = ap (λ o. o >>= function f) (values_local _ ss a ρ ρ₁ ρ₂ (omega (arith, fun_row_law f 0)))
  node_local d (many f) ss m a ρ ρ₁ ρ₂ l = ap (λ o. o >>= several f) (values_local _ ss a ρ ρ₁ ρ₂ (omega (arith, many_row_law f (length ss))))
  node_local d (qu b n) ss m a ρ ρ₁ ρ₂ l = qu_local b d n ss (subst (λ (e : ℕ). All (Local e) ss) (binds b d n) a) ρ ρ₁ ρ₂ l
    where
      binds : (b : Bind) (d n : ℕ) → inner d (qu b n) (length ss) ≡ d + n
      binds = elim [ C.all ↦ λ d n. refl | C.ex ↦ λ d n. refl | C.compr ↦ λ d n. refl ]

  -- a reading of types shuts a reading of values
  abbrev Shut : (ℕ → Option Ty) → Sense → Type 0
  Shut σ s = (d : ℕ) (τ : Ty) → σ d ≡ some τ → Local d s

  operands_shut : (d : ℕ) (w : Want) (r : Rest) (σs : List (ℕ → Option Ty)) (ss : List Sense) → All2 Shut σs ss → may_all w r (map (λ σ. σ d) σs) ≡ true → All (Local d) ss
  operands_shut d w r [] [] a e = tt
  operands_shut d w r [] (s ∷ ss) a e = absurd a
  operands_shut d w r (σ ∷ σs) [] a e = absurd a
  operands_shut d w r (σ ∷ σs) (s ∷ ss) a e =
      let t = may_some w (σ d) (and_left (may w (σ d)) _ e) in
      (a.0 d t.0 t.1, operands_shut d (want_next r (σ d)) r σs ss a.1 (and_right (may w (σ d)) _ e))

  node_shut : (k : Code) (σs : List (ℕ → Option Ty)) (ss : List Sense) → All2 Shut σs ss → Shut (typing Γ k σs) (sense ν k ss)
  node_shut k σs ss a d τ e =
      let n = length σs in
      let os = map (λ σ. σ (inner d k n)) σs in
      let w = (pick_some (well_made Γ d k n && right k os) (result_of (row_of k).result Γ (number_of k n) os) τ e).0 in
      let z = all2_length Shut σs ss a in
      node_local d k ss (rw (← z) (and_left (well_made Γ d k n) _ w)) (rw (← z) (operands_shut (inner d k n) (among (row_of k).first) (row_of k).rest σs ss a (and_right (well_made Γ d k n) _ w)))

  pub local : (x : Tree) (d : ℕ) (τ : Ty) → type_of Γ d x ≡ some τ → Local d (eval ν x)
  local x d τ e = relate (typing Γ) (sense ν) Shut node_shut x d τ (typed_fold x Γ d ∙ e)

  -- a closed formula means the same under any binders
  pub closed_value : (x : Tree) (τ : Ty) → type_of Γ 0 x ≡ some τ → (ρ : List ℤ) → eval ν x ρ ≡ eval ν x []
  closed_value x τ e ρ = local x 0 τ e [] ρ [] refl
