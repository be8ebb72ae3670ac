-- The type of a node by its head: every formula that stands somewhere has one, and the bytes show its kind.
use Prim.Native.Nat.{ℕ, zero, suc, ◌+◌, ◌-◌, ◌<◌}
use mathlib.Core.Path.{◌≡◌, refl, sym, ap, ◌∙◌}
use mathlib.Core.Bool.{false}
use mathlib.Core.Option.{Option, some, none}
use mathlib.Core.List.{List, [], ◌∷◌}
use native.Mathlib.Omega.{arith}
use lib.ListN.{length, get_or}
use lib.Dec.{eqb, leb}
use borrow.Author.Tests.{lt-ltb, lt-leb, leb-false, ne_eqb}
use Rattle.formula.specs.Pick.{pick}
use Rattle.formula.specs.Codes.{Code}
use Rattle.formula.specs.Types as T
use Rattle.formula.specs.Types.{Base, prop, int, boo, set, nats, nats1, Ty, base, pair, one, pairs, kind_of, type_of_byte, types_of}
use Rattle.formula.specs.NodeTable.{row_of, own_length}
use Rattle.formula.specs.Tree.{Tree, node, Trees, nil, ◌▹◌, size, number_of}
use Rattle.formula.specs.Typing.{pair_of, result_of, head_type, head_types}
use Rattle.formula.specs.Mirror.PackedTable.{row_at, bit, result_bit, ident_type, type_by}
use Rattle.formula.specs.Mirror.Bytes.{byte_at, own_byte, type_at}
use Rattle.formula.proofs.Choices.{none_some}
use Rattle.formula.proofs.Stands.{NodeAt, Stands, StandAll}
use Rattle.formula.proofs.OwnIs.{Sense, plain, named, joined, columns_there, sense_there, own_there}

-- ---- the types of identifiers
ident_has : (types : List ℕ) (n : ℕ) → n < length types → T.type_at (types_of types) n ≡ some (type_of_byte (get_or types n 0))
ident_has [] n h = absurd (omega (arith, h))
ident_has (b ∷ types) zero h = refl
ident_has (b ∷ types) (suc n) h = ident_has types n (omega (arith, h))

ident_in : (types : List ℕ) (n : ℕ) (τ : Ty) → T.type_at (types_of types) n ≡ some τ → n < length types
ident_in [] n τ e = none_some e
ident_in (b ∷ types) zero τ e = omega arith
ident_in (b ∷ types) (suc n) τ e = let h = ident_in types n τ e in omega (arith, h)

pub ident_is : (types : List ℕ) (n : ℕ) (τ : Ty) → T.type_at (types_of types) n ≡ some τ → type_of_byte (get_or types n 0) ≡ τ
ident_is types n τ e = let h = ident_has types n (ident_in types n τ e) in cc

byte_bit : (b : ℕ) → pick (eqb b 0) 2 (pick (eqb b 1) 4 8) ≡ bit (kind_of (type_of_byte b))
byte_bit zero = refl
byte_bit (suc zero) = refl
byte_bit (suc (suc b)) = simp (ne_eqb (suc (suc b)) 0 (λ z. omega (arith, z)), ne_eqb (suc (suc b)) 1 (λ z. omega (arith, z)))

ident_type_law : (types : List ℕ) (n : ℕ) (τ : Ty) → T.type_at (types_of types) n ≡ some τ → ident_type types n ≡ bit (kind_of τ)
unfolding ident_type
ident_type_law types n τ e =
    simp (lt-ltb n (length types) (ident_in types n τ e)) (byte_bit (get_or types n 0) ∙ ap (λ (τ : Ty). bit (kind_of τ)) (ident_is types n τ e))

-- ---- every formula that stands somewhere has a type by its head
abbrev pub AllTyped : List (Option Ty) → Type 0
AllTyped [] = Unit {0}
AllTyped (o ∷ os) = ((τ : Ty) × (o ≡ some τ)) × AllTyped os

pair_typed : (os : List (Option Ty)) → length os ≡ 2 → AllTyped os → (τ : Ty) × (pair_of os ≡ some τ)
pair_typed [] h a = absurd (omega (arith, h))
pair_typed (o ∷ []) h a = absurd (omega (arith, h))
pair_typed (o ∷ u ∷ []) h a = (pair a.0.0 a.1.0.0, rw (a.0.1, a.1.0.1))
pair_typed (o ∷ u ∷ v ∷ os) h a = absurd (omega (arith, h))

count_types : (Γ : List Ty) (xs : Trees) → length (head_types Γ xs) ≡ size xs
unfolding head_types
count_types Γ nil = refl
count_types Γ (x ▹ xs) = ap suc (count_types Γ xs)

-- a kind has a bit, and a pair's kind is its own
base_bit : (b : Base) (n : ℕ) → pick (eqb (bit (one b)) 0) n (bit (one b)) ≡ bit (one b)
base_bit prop n = refl
base_bit int n = refl
base_bit boo n = refl
base_bit set n = refl
base_bit nats n = refl
base_bit nats1 n = refl

pub pair_kind : (os : List (Option Ty)) (τ : Ty) → pair_of os ≡ some τ → kind_of τ ≡ pairs
pair_kind [] τ e = none_some e
pair_kind (none ∷ os) τ e = none_some e
pair_kind (some a ∷ []) τ e = none_some e
pair_kind (some a ∷ none ∷ os) τ e = none_some e
pair_kind (some a ∷ some b ∷ []) τ e = let i : pair a b ≡ τ = cc in ap kind_of (sym i)
pair_kind (some a ∷ some b ∷ o ∷ os) τ e = none_some e

module _ (s types : List ℕ) where
  node_type : (p : ℕ) (k : Code) (n : ℕ) (os : List (Option Ty)) → NodeAt s (length types) p k n → length os ≡ n → AllTyped os
      → (τ : Ty) × (result_of (row_of k).result (types_of types) (number_of k n) os ≡ some τ)
  node_type p k n os N h a = go (sense_there N)
    where
      go : Sense (row_of k) → (τ : Ty) × (result_of (row_of k).result (types_of types) (number_of k n) os ≡ some τ)
      go (plain b q) = rw q (base b, refl)
      go (named q ν) =
          let i : leb (length types) (number_of k n) ≡ false = rw ν at N.number_in in
          rw q (type_of_byte (get_or types (number_of k n) 0), ident_has types (number_of k n) (leb-false _ _ i))
      go (joined q w α) =
          let i : n ≡ 2 = rw α at N.operands_are in
          rw q (pair_typed os (h ∙ i) a)

  mutual
    unfolding head_type Stands

    pub has_type : (x : Tree) (l p q : ℕ) → Stands s (length types) l p x q → (τ : Ty) × (head_type (types_of types) x ≡ some τ)
    has_type (node k xs) l p q S =
        node_type p k (size xs) (head_types (types_of types) xs) S.1 (count_types (types_of types) xs) (have_types xs (l - 1) (p + own_length k) q S.2)

    pub have_types : (xs : Trees) (l p q : ℕ) → StandAll s (length types) l p xs q → AllTyped (head_types (types_of types) xs)
    have_types nil l p q S = tt
    have_types (x ▹ xs) l p q S = (has_type x l p S.0 S.1, have_types xs l S.0 q S.2)

  -- ---- the bytes show the kind of that type
  node_kind : (p : ℕ) (k : Code) (n : ℕ) (os : List (Option Ty)) (τ : Ty) → NodeAt s (length types) p k n
      → result_of (row_of k).result (types_of types) (number_of k n) os ≡ some τ → type_by (row_at (byte_at s p)) types (own_byte (row_at (byte_at s p)) s (p + 1)) ≡ bit (kind_of τ)
  unfolding type_by
  node_kind p k n os τ N e = rw (columns_there N).res_is (go (sense_there N))
    where
      m : ℕ
      m = own_byte (row_at (byte_at s p)) s (p + 1)

      go : Sense (row_of k) → pick (eqb (result_bit (row_of k).result) 0) (ident_type types m) (result_bit (row_of k).result) ≡ bit (kind_of τ)
      go (plain b q) =
          let i : some (base b) ≡ some τ = rw q at e in
          let j : base b ≡ τ = cc in
          rw (q, ← j) (base_bit b (ident_type types m))
      go (named q ν) =
          let w : m ≡ number_of k n = own_there N (rw ν (omega arith)) in
          let i : T.type_at (types_of types) (number_of k n) ≡ some τ = rw q at e in
          rw q (ap (ident_type types) w ∙ ident_type_law types (number_of k n) τ i)
      go (joined q w α) =
          let i : pair_of os ≡ some τ = rw q at e in
          rw q (ap bit (sym (pair_kind os τ i)))

  pub type_there : (x : Tree) (l p q : ℕ) (τ : Ty) → Stands s (length types) l p x q → head_type (types_of types) x ≡ some τ → type_at s types p ≡ bit (kind_of τ)
  unfolding head_type Stands type_at
  type_there (node k xs) l p q τ S e =
      let h : p < length s = let i = S.1.inside in omega (arith, i) in
      simp (lt-leb (length s) p h) (node_kind p k (size xs) (head_types (types_of types) xs) τ S.1 e)
