-- Comparing the types of two expressions by their bytes answers whether the types are one.
use Prim.Native.Nat.{ℕ, zero, suc, ◌+◌, ◌-◌, ◌<◌, ◌≤◌}
use mathlib.Core.Path.{◌≡◌, refl, sym, ap, ◌∙◌}
use mathlib.Core.Bool.{Bool, true, false, ◌&&◌}
use mathlib.Core.Option as maybe
use mathlib.Core.Option.{some, none}
use Rattle.std.specs.Prelude.{Option, Some, None}
use mathlib.Core.List.{List, [], ◌∷◌}
use native.Mathlib.Omega.{arith}
use lib.ListN.{length, get_or}
use lib.Dec.{eqb}
use Rattle.formula.specs.Pick.{pick}
use Rattle.formula.specs.Types as T
use Rattle.formula.specs.Types.{Base, prop, int, boo, set, nats, nats1, one, Ty, base, pair, eq_ty, kind_of, type_of_byte, types_of}
use Rattle.formula.specs.NodeTable.{row_of, own_length}
use Rattle.formula.specs.Tree.{Tree, node, Trees, nil, ◌▹◌, size, number_of}
use Rattle.formula.specs.Typing.{pair_of, head_type, head_types}
use Rattle.reader.specs.Mirror.Shape.{is_pair, are_pairs, leaf_ends, then_shape, shape}
use Rattle.reader.specs.declared.shape.Ends.{Ends}
use Rattle.formula.proofs.Choices.{never, none_some}
use Rattle.formula.proofs.Stands.{Stands, StandAll}
use Rattle.formula.proofs.OwnIs.{Sense, plain, named, joined, columns_there, sense_there}
use Rattle.formula.specs.Mirror.PackedTable.{bit, result_bit}
use Rattle.formula.proofs.HeadIs.{ident_is, pair_kind, type_there}
use Rattle.formula.proofs.SkipIs.{stands_grows, skip_is}
use Rattle.formula.proofs.SameType.{is_pairs, eq_ty_pair, bits_tell}

-- an expression of the type τ stands from p to q, not longer than skipping goes
record Typed (s types : List ℕ) (l p q : ℕ) (τ : Ty) : Type 0 where
  tree : Tree
  stands : Stands s (length types) l p tree q
  short : q ≤ p + 1024
  type_is : head_type (types_of types) tree ≡ some τ

-- the answer for an expression that ends at q and one that ends at r
abbrev Shaped : Option Ends → Bool → ℕ → ℕ → Type 0
Shaped o same q r = o ≡ pick same (Some (record { a = q; b = r })) None

-- two pairs: if their first halves are alike, the second halves are asked
pair_shape : (σ ρ τ υ : Ty) (m n q r : ℕ) (o : Option Ends) (k : ℕ → ℕ → Option Ends) → Shaped o (eq_ty σ τ) m n → Shaped (k m n) (eq_ty ρ υ) q r
    → Shaped (then_shape o k) (eq_ty (pair σ ρ) (pair τ υ)) q r
pair_shape σ ρ τ υ m n q r o k A B = rw (eq_ty_pair σ ρ τ υ, A) (go (eq_ty σ τ))
  where
    go : (v : Bool) → Shaped (then_shape (pick v (Some (record { a = m; b = n })) None) k) (v && eq_ty ρ υ) q r
    go true = B
    go false = refl

base_bit : (b : Base) → eqb (bit (one b)) 64 ≡ false
base_bit prop = refl
base_bit int = refl
base_bit boo = refl
base_bit set = refl
base_bit nats = refl
base_bit nats1 = refl

byte_base : (b : ℕ) → is_pairs (kind_of (type_of_byte b)) ≡ false
byte_base zero = refl
byte_base (suc zero) = refl
byte_base (suc (suc b)) = refl

pair_parts : (o u : maybe.Option Ty) (σ τ : Ty) → pair_of (o ∷ u ∷ []) ≡ some (pair σ τ) → (o ≡ some σ) × (u ≡ some τ)
pair_parts none u σ τ e = none_some e
pair_parts (some a) none σ τ e = none_some e
pair_parts (some a) (some b) σ τ e = (cc, cc)

and_pick : (u v : Bool) → pick u v false ≡ (u && v)
and_pick true v = refl
and_pick false v = refl

module _ (s types : List ℕ) where
  -- ---- the row says pairs where the type is a pair's
  pair_at : (x : Tree) (l p q : ℕ) (τ : Ty) → Stands s (length types) l p x q → head_type (types_of types) x ≡ some τ → is_pair s p ≡ is_pairs (kind_of τ)
  unfolding head_type Stands is_pair
  pair_at (node k xs) l p q τ S e = rw (columns_there S.1).res_is (go (sense_there S.1))
    where
      n : ℕ
      n = number_of k (size xs)

      go : Sense (row_of k) → eqb (result_bit (row_of k).result) 64 ≡ is_pairs (kind_of τ)
      go (plain b w) =
          let i : some (base b) ≡ some τ = rw w at e in
          let j : base b ≡ τ = cc in
          rw w (base_bit b) ∙ ap (λ (τ : Ty). is_pairs (kind_of τ)) j
      go (named w ν) =
          let i : T.type_at (types_of types) n ≡ some τ = rw w at e in
          rw w (sym (byte_base (get_or types n 0))) ∙ ap (λ (τ : Ty). is_pairs (kind_of τ)) (ident_is types n τ i)
      go (joined w ν α) =
          let i : pair_of (head_types (types_of types) xs) ≡ some τ = rw w at e in
          rw w (ap is_pairs (sym (pair_kind (head_types (types_of types) xs) τ i)))

  is_pair_there : {l p q : ℕ} {τ : Ty} → Typed s types l p q τ → is_pair s p ≡ is_pairs (kind_of τ)
  is_pair_there {l} {p} {q} {τ} X = pair_at X.tree l p q τ X.stands X.type_is

  -- ---- the halves of a pair stand one after the other behind its code
  abbrev Halves : (l p q : ℕ) (σ τ : Ty) → Type 0
  Halves l p q σ τ = (m : ℕ) × Typed s types (l - 1) (p + 1) m σ × Typed s types (l - 1) m q τ

  two_halves : (xs : Trees) (l p q : ℕ) (σ τ : Ty) → size xs ≡ 2 → StandAll s (length types) (l - 1) (p + 1) xs q → q ≤ p + 1024
      → pair_of (head_types (types_of types) xs) ≡ some (pair σ τ) → Halves l p q σ τ
  unfolding head_type Stands
  two_halves nil l p q σ τ n S h e = absurd (omega (arith, n))
  two_halves (x ▹ nil) l p q σ τ n S h e = absurd (omega (arith, n))
  two_halves (x ▹ (y ▹ nil)) l p q σ τ n S h e =
      let t = pair_parts (head_type (types_of types) x) (head_type (types_of types) y) σ τ e in
      let R : Stands s (length types) (l - 1) S.0 y q = rw S.2.2 at S.2.1 in
      let i = stands_grows s (length types) x (l - 1) (p + 1) S.0 S.1 in
      let j = stands_grows s (length types) y (l - 1) S.0 q R in
      (S.0, record { tree = x; stands = S.1; short = omega (arith, h, j); type_is = t.0 }, record { tree = y; stands = R; short = omega (arith, h, i); type_is = t.1 })
  two_halves (x ▹ (y ▹ (z ▹ zs))) l p q σ τ n S h e = absurd (omega (arith, n))

  halves_at : (x : Tree) (l p q : ℕ) (σ τ : Ty) → Stands s (length types) l p x q → q ≤ p + 1024 → head_type (types_of types) x ≡ some (pair σ τ) → Halves l p q σ τ
  unfolding head_type Stands
  halves_at (node k xs) l p q σ τ S h e = go (sense_there S.1)
    where
      go : Sense (row_of k) → Halves l p q σ τ
      go (plain b w) =
          let i : some (base b) ≡ some (pair σ τ) = rw w at e in
          let z : ◌≡◌ {A = ℕ} 0 1 = cc in
          absurd (omega (arith, z))
      go (named w ν) =
          let i : T.type_at (types_of types) (number_of k (size xs)) ≡ some (pair σ τ) = rw w at e in
          never (sym (byte_base (get_or types (number_of k (size xs)) 0)) ∙ ap (λ (τ : Ty). is_pairs (kind_of τ)) (ident_is types (number_of k (size xs)) (pair σ τ) i))
      go (joined w ν α) =
          let n : size xs ≡ 2 = rw α at S.1.operands_are in
          let z : p + own_length k ≡ p + 1 = omega (arith, ν) in
          two_halves xs l p q σ τ n (rw z at S.2) h (rw w at e)

  halves : {l p q : ℕ} {σ τ : Ty} → Typed s types l p q (pair σ τ) → Halves l p q σ τ
  halves {l} {p} {q} {σ} {τ} X = halves_at X.tree l p q σ τ X.stands X.short X.type_is

  has_level : (x : Tree) (l p q : ℕ) → Stands s (length types) l p x q → 0 < l
  unfolding Stands
  has_level (node k xs) l p q S = S.0

  -- ---- two that are not both pairs are compared by the bits of their kinds
  are_pairs_law : {l m a b q r : ℕ} {σ τ : Ty} → Typed s types l a q σ → Typed s types m b r τ → are_pairs s a b ≡ (is_pairs (kind_of σ) && is_pairs (kind_of τ))
  unfolding are_pairs
  are_pairs_law {σ} {τ} X Y = rw (is_pair_there X, is_pair_there Y) (and_pick (is_pairs (kind_of σ)) (is_pairs (kind_of τ)))

  leaf_shape : {l m a b q r : ℕ} {σ τ : Ty} → Typed s types l a q σ → Typed s types m b r τ → (is_pairs (kind_of σ) && is_pairs (kind_of τ)) ≡ false
      → Shaped (leaf_ends s types a b) (eq_ty σ τ) q r
  unfolding leaf_ends
  leaf_shape {l} {m} {a} {b} {q} {r} {σ} {τ} X Y n =
      let i = type_there s types X.tree l a q σ X.stands X.type_is in
      let j = type_there s types Y.tree m b r τ Y.stands Y.type_is in
      rw (i, j, skip_is s (length types) X.tree l a q X.stands X.short, skip_is s (length types) Y.tree m b r Y.stands Y.short, bits_tell σ τ n) refl

  shape_typed : (f : ℕ) {l m a b q r : ℕ} {σ τ : Ty} → l ≤ f → Typed s types l a q σ → Typed s types m b r τ → Shaped (shape f s types a b) (eq_ty σ τ) q r
  unfolding shape
  shape_typed zero {l} {a} {q} h X Y = absurd (let z = has_level X.tree l a q X.stands in omega (arith, h, z))
  shape_typed (suc f) {σ = base c} h X Y = simp (are_pairs_law X Y) (leaf_shape X Y refl)
  shape_typed (suc f) {σ = pair σ ρ} {τ = base c} h X Y = simp (are_pairs_law X Y) (leaf_shape X Y refl)
  shape_typed (suc f) {a} {b} {σ = pair σ ρ} {τ = pair τ υ} h X Y =
      let H = halves X in
      let K = halves Y in
      let A = shape_typed f (omega (arith, h)) H.1 K.1 in
      let B = shape_typed f (omega (arith, h)) H.2 K.2 in
      simp (are_pairs_law X Y) (pair_shape σ ρ τ υ _ _ _ _ (shape f s types (a + 1) (b + 1)) (λ x y. shape f s types x y) A B)

-- THE LAW of the comparison: on two expressions it says whether their types are one, and if so where they end
module _ (s types : List ℕ) (f l m a b q r : ℕ) (x y : Tree) (σ τ : Ty) where
  pub shape_is : l ≤ f → Stands s (length types) l a x q → Stands s (length types) m b y r → q ≤ a + 1024 → r ≤ b + 1024
      → head_type (types_of types) x ≡ some σ → head_type (types_of types) y ≡ some τ
      → shape f s types a b ≡ pick (eq_ty σ τ) (Some (record { a = q; b = r })) None
  shape_is h S R i j e d = shape_typed s types f h (record { tree = x; stands = S; short = i; type_is = e }) (record { tree = y; stands = R; short = j; type_is = d })
