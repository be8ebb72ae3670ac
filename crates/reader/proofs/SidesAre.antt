-- The two sides of =: the second is to be of the type of the first, pairs by shape.
use Rattle.std.specs.Prelude.{Result, Some, None, is_some}
use Rattle.reader.specs.declared.shape.Ends.{Ends}
use Prim.Native.Nat.{ℕ, ◌+◌, ◌≤◌}
use mathlib.Core.Path.{◌≡◌, refl, sym, ap, ◌∙◌, subst}
use mathlib.Core.Bool.{Bool, true, false, not, ◌&&◌}
use mathlib.Core.Option.{Option, some, none}
use mathlib.Core.List.{List, [], ◌∷◌}
use native.Mathlib.Omega.{arith}
use lib.ListN.{length}
use lib.Dec.{eqb}
use Rattle.std.proofs.Math.Bool.{and-true}
use Rattle.formula.specs.Pick.{pick, or_else}
use Rattle.formula.specs.Types.{Base, Base-discrete, prop, int, boo, set, nats, nats1, Ty, base, pair, kind_of, Kind, Kind-discrete, one, types_of, among, same, as_first, may, may_all, eq_kind, eq_ty}
use Rattle.formula.specs.Tree.{Tree, Trees, nil, ◌▹◌, encode}
use Rattle.formula.specs.Typing.{head_type, head_types, first_wrong, first_wrong_in}
use Rattle.formula.specs.Mirror.PackedTable.{bit}
use Rattle.reader.specs.Mirror.Node.{Ops, head_at}
use Rattle.reader.specs.Mirror.Walk.{below_at, list_with, next_want, unlike, bad_after, end_of}
use Rattle.reader.specs.Mirror.Shape.{shape}
use Rattle.formula.specs.Reading.{got, on_got, operands_by}
use Rattle.formula.specs.declared.Sort.{Sort}
use Rattle.formula.proofs.Choices.{never}
use Rattle.formula.proofs.Wants.{Wants, same_wants, one_hot}
use Rattle.formula.proofs.Back.{read_ends}
use Rattle.formula.proofs.ReadStands.{read_stands}
use Rattle.formula.proofs.SameType.{same_test, eq_ty→eq, eq→eq_ty}
use Rattle.reader.proofs.ShapeIs.{shape_is}
use Rattle.reader.proofs.Goings.{answered, gives, answered_same, answered_on, mark_of, marked, mark_more}
use Rattle.reader.proofs.ListIs.{type_bit, formula_here, OperandIs}
use Rattle.refusal.specs.declared.Refusal.{Refusal}
use Rattle.reader.specs.declared.reader.Got.{Got}

-- ---- types by their kinds
kind_same : (j k : Kind) → eq_kind j k ≡ true → j ≡ k
kind_same j k e = go (Kind-discrete Base-discrete j k) e
  where
    go : (d : Dec (j ≡ k)) → elim d as (λ _. Bool) [ yes p ↦ true | no q ↦ false ] ≡ true → j ≡ k
    go (yes p) e = p
    go (no q) e = never e

same_kind : (j k : Kind) → j ≡ k → eq_kind j k ≡ true
same_kind j k e = go (Kind-discrete Base-discrete j k)
  where
    go : (d : Dec (j ≡ k)) → elim d as (λ _. Bool) [ yes p ↦ true | no q ↦ false ] ≡ true
    go (yes p) = refl
    go (no q) = absurd (q e)

base_kinds : (a b : Base) → eq_kind (one a) (one b) ≡ eq_ty (base a) (base b)
base_kinds a b =
    same_test (eq_kind (one a) (one b)) (eq_ty (base a) (base b))
    (λ e. let i = kind_same (one a) (one b) e in let j : a ≡ b = cc in eq→eq_ty (base a) (base b) (ap base j))
    (λ e. let i = eq_ty→eq (base a) (base b) e in let j : a ≡ b = cc in same_kind (one a) (one b) (ap one j))

no_pair : (b : Base) → eqb (bit (one b)) 64 ≡ false
no_pair = elim [ prop ↦ refl | int ↦ refl | boo ↦ refl | set ↦ refl | nats ↦ refl | nats1 ↦ refl ]

-- the code's two tests, of kinds and of the shape of pairs, are one test of types
two_tests : (σ τ : Ty) (b : Bool) (parent z : ℕ) → b ≡ eq_ty σ τ
    → pick (not (eq_kind (kind_of σ) (kind_of τ))) parent (pick (pick (eqb (bit (kind_of τ)) 64) (not b) false) parent z) ≡ pick (not (eq_ty σ τ)) parent z
two_tests (base a) (base c) b parent z e = rw (no_pair c, base_kinds a c) refl
two_tests (base a) (pair τ υ) b parent z e = refl
two_tests (pair σ ρ) (base c) b parent z e = refl
two_tests (pair σ ρ) (pair τ υ) b parent z e = rw (← e) refl

ends_there : (b : Bool) (e : Ends) → is_some (pick b (Some e) None) ≡ b
ends_there true e = refl
ends_there false e = refl

turned : (b : Bool) (parent z : ℕ) → pick (not b) parent z ≡ pick b z parent
turned true parent z = refl
turned false parent z = refl

or_none : (o : Option ℕ) → or_else o none ≡ o
or_none none = refl
or_none (some p) = refl

-- two operands of which the second is to be of the type of the first
two_may : (ks : List Kind) (o r : Option Ty) (τ υ : Ty) → o ≡ some τ → r ≡ some υ → may_all (among ks) as_first (o ∷ r ∷ []) ≡ (may (among ks) o && eq_ty τ υ)
two_may ks o r τ υ a c = rw (a, c) (ap (λ (b : Bool). may (among ks) (some τ) && b) (and-true (eq_ty τ υ)))

module _ (s types : List ℕ) (start l d : ℕ) (O : OperandIs s types start l d) (levels : l ≤ 32) (p : ℕ) (h : p ≡ 0 → ⊥) (inside : start ≤ p) where
  -- the first side
  first_mark : (want : ℕ) (ks : List Kind) (σ : Sort) → Wants want (among ks) σ → (below : ℕ) (o : Option Ty) (τ : Ty) → o ≡ some τ
      → bad_after s types 0 want 2 p p (type_bit o) 0 below ≡ pick (not (may (among ks) o)) p below
  unfolding bad_after unlike
  first_mark want ks σ W below o τ e = rw e (simp (W.by_kind (kind_of τ)))

  -- the second side, at m
  second_mark : (σ ρ : Sort) (x : Tree) (m : ℕ) (y : Tree) (q : ℕ) (τ υ : Ty) → formula_here s types start l d σ p ≡ got x m → formula_here s types start l d ρ m ≡ got y q
      → head_type (types_of types) x ≡ some τ → head_type (types_of types) y ≡ some υ → (bad below : ℕ)
      → bad_after s types 0 (bit (kind_of τ)) 1 m p (bit (kind_of υ)) bad below ≡ pick (eq_ty τ υ) (pick (eqb bad 0) below bad) p
  unfolding bad_after unlike
  second_mark σ ρ x m y q τ υ e f a c bad below =
      let i = read_ends s (length types) (start + 1024) l d σ p x m e in
      let j = read_ends s (length types) (start + 1024) l d ρ m y q f in
      let i₀ = i.0 in
      let i₁ = i.1 in
      let j₁ = j.1 in
      let S = shape_is s types 32 l l p m m q x y τ υ levels (read_stands s (length types) (start + 1024) l d σ p x m e) (read_stands s (length types) (start + 1024) l d ρ m y q f) (omega arith) (omega arith) a c in
      rw (one_hot (kind_of τ) (kind_of υ)) (two_tests τ υ (is_some (shape 32 s types p m)) p (pick (eqb bad 0) below bad) (ap is_some S ∙ ends_there (eq_ty τ υ) _)) ∙ turned (eq_ty τ υ) p (pick (eqb bad 0) below bad)

  abbrev sides_here : ℕ → ℕ → ℕ → ℕ → Result Got Refusal
  sides_here n want at bad = list_with (head_at s types (end_of (length s) start) d l) (below_at l s types (end_of (length s) start) d) s types 0 p n want at bad

  abbrev marks : List Kind → Trees → ℕ → Result Got Refusal
  marks ks xs q = gives q (marked (may_all (among ks) as_first (head_types (types_of types) xs)) p 0 (first_wrong_in (types_of types) p xs))

  -- both sides read, with the types τ and υ
  both_marked : (ks : List Kind) (σ : Sort) (x : Tree) (m : ℕ) (y : Tree) (q : ℕ) (τ υ : Ty) → formula_here s types start l d σ p ≡ got x m → formula_here s types start l d σ m ≡ got y q
      → head_type (types_of types) x ≡ some τ → head_type (types_of types) y ≡ some υ
      → bad_after s types 0 (bit (kind_of τ)) 1 m p (bit (kind_of υ)) (pick (not (may (among ks) (head_type (types_of types) x))) p (mark_of (first_wrong (types_of types) p x))) (mark_of (first_wrong (types_of types) m y))
      ≡ marked (may_all (among ks) as_first (head_types (types_of types) (x ▹ y ▹ nil))) p 0 (first_wrong_in (types_of types) p (x ▹ y ▹ nil))
  unfolding head_types first_wrong
  both_marked ks σ x m y q τ υ e f a c =
      let hx = head_type (types_of types) x in
      let wx = first_wrong (types_of types) p x in
      let wy = first_wrong (types_of types) m y in
      let z : m ≡ p + length (encode x) = (read_ends s (length types) (start + 1024) l d σ p x m e).0 in
      let u : first_wrong_in (types_of types) p (x ▹ y ▹ nil) ≡ or_else wx wy = ap (or_else wx) (or_none (first_wrong (types_of types) (p + length (encode x)) y) ∙ ap (λ (v : ℕ). first_wrong (types_of types) v y) (sym z)) in
      let v : may_all (among ks) as_first (head_types (types_of types) (x ▹ y ▹ nil)) ≡ (may (among ks) hx && eq_ty τ υ) = two_may ks hx (head_type (types_of types) y) τ υ a c in
      second_mark σ σ x m y q τ υ e f a c (pick (not (may (among ks) hx)) p (mark_of wx)) (mark_of wy)
      ∙ mark_more (may (among ks) hx) (eq_ty τ υ) p 0 wx wy h
      ∙ ap (λ (b : Bool). marked b p 0 (or_else wx wy)) (sym v)
      ∙ ap (λ (o : Option ℕ). marked (may_all (among ks) as_first (head_types (types_of types) (x ▹ y ▹ nil))) p 0 o) (sym u)

  -- the code after the first side
  after_first : (want : ℕ) (ks : List Kind) (σ : Sort) → Wants want (among ks) σ → (x : Tree) (m : ℕ) (o : Ops) → formula_here s types start l d σ p ≡ got x m → o.ty ≡ type_bit (head_type (types_of types) x)
      → sides_here 1 (next_want 0 o.ty) m (bad_after s types 0 want 2 p p o.ty 0 (mark_of (first_wrong (types_of types) p x))) ≡ answered (formula_here s types start l d σ m) (λ y q. marks ks (x ▹ y ▹ nil) q)
  unfolding list_with next_want
  after_first want ks σ W x m o e t =
      let T = O.has σ p x m e in
      let i = (read_ends s (length types) (start + 1024) l d σ p x m e).0 in
      let hx = head_type (types_of types) x in
      let wx = first_wrong (types_of types) p x in
      let u : o.ty ≡ bit (kind_of T.0) = t ∙ ap type_bit T.1 in
      let b : bad_after s types 0 want 2 p p o.ty 0 (mark_of wx) ≡ pick (not (may (among ks) hx)) p (mark_of wx) = rw t (first_mark want ks σ W (mark_of wx) hx T.0 T.1) in
      rw (b, u) (O.goes (bit (kind_of T.0)) (same T.0) σ m (subst (λ (ρ : Sort). Wants (bit (kind_of T.0)) (same T.0) ρ) T.2 (same_wants T.0)) (omega arith)
      (λ o' g. gives g.next (bad_after s types 0 (bit (kind_of T.0)) 1 m p o'.ty (pick (not (may (among ks) hx)) p (mark_of wx)) g.bad))
      (λ y q. marks ks (x ▹ y ▹ nil) q)
      (λ y q o' e' t'. let U = O.has σ m y q e' in rw (t' ∙ ap type_bit U.1) (ap (gives q) (both_marked ks σ x m y q T.0 U.0 e e' T.1 U.1))))

  -- THE SIDES
  pub sides_are_law : (want : ℕ) (ks : List Kind) (σ : Sort) → Wants want (among ks) σ → sides_here 2 want p 0 ≡ answered (operands_by (formula_here s types start l d) 2 σ σ p) (marks ks)
  unfolding list_with operands_by
  sides_are_law want ks σ W =
      let f = formula_here s types start l d in
      O.goes want (among ks) σ p W inside
      (λ o g. sides_here 1 (next_want 0 o.ty) g.next (bad_after s types 0 want 2 p p o.ty 0 g.bad))
      (λ x m. answered (f σ m) (λ y q. marks ks (x ▹ y ▹ nil) q))
      (λ x m o e t. after_first want ks σ W x m o e t)
      ∙ answered_same (f σ p) (λ x m. answered (f σ m) (λ y q. marks ks (x ▹ y ▹ nil) q)) (λ x m. answered (on_got (operands_by f 1 σ σ m) (λ xs q. got (x ▹ xs) q)) (marks ks))
      (λ x m e. sym (answered_on (operands_by f 1 σ σ m) (λ xs q. got (x ▹ xs) q) (marks ks) ∙ answered_on (f σ m) (λ y q. got (y ▹ nil) q) (λ xs q. marks ks (x ▹ xs) q)))
      ∙ sym (answered_on (f σ p) (λ x m. on_got (operands_by f 1 σ σ m) (λ xs q. got (x ▹ xs) q)) (marks ks))
