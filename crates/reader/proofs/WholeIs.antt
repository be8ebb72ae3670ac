-- A whole formula: the reader's answer is document 01's.
use Rattle.std.specs.Prelude.{Err}
use Prim.Native.Nat.{ℕ, ◌+◌, ◌-◌}
use mathlib.Core.Path.{◌≡◌, refl, ap, sym, ◌∙◌, subst}
use mathlib.Core.Bool.{true, false}
use mathlib.Core.Option.{Option, some, none}
use mathlib.Core.List.{List}
use native.Mathlib.Omega.{arith}
use lib.ListN.{length}
use lib.Dec.{eqb}
use borrow.Author.Tests.{ne_eqb}
use Rattle.formula.specs.Types.{prop, int, boo, set, nats, nats1, Ty, base, pair, kind_of, types_of, among, among?}
use Rattle.formula.specs.NodeTable.{sort_of_ty}
use Rattle.formula.specs.Tree.{Tree}
use Rattle.formula.specs.Typing.{head_type, first_wrong}
use Rattle.formula.specs.Mirror.PackedTable.{bit, sort_mask, root_row, field, first, rest}
use Rattle.reader.specs.Mirror.Walk.{below_at, list_with, unlike, bad_after, read_from, end_of, reading_of, whole_at}
use Rattle.reader.specs.Mirror.Node.{head_at}
use Rattle.formula.specs.Reading.{Parsed, got, not_got, formula_at}
use Rattle.formula.specs.Formula.{typed?, asked8, tree_at, end_or_refusal, read_formula}
use Rattle.formula.specs.declared.Sort.{Sort}
use Rattle.formula.specs.declared.Sort.TheVariants as sorts
use Rattle.refusal.specs.declared.Cause.TheVariants as cause
use Rattle.formula.proofs.Wants.{root_kinds, root_wants}
use Rattle.reader.proofs.Goings.{answered, gives, mark_of}
use Rattle.reader.proofs.ListIs.{type_bit, OperandIs}
use Rattle.reader.proofs.ReadIs.{operand_is}
use Rattle.reader.proofs.Turns.{keep_none}

root_first : (σ : Sort) → sort_mask σ ≡ first (root_row σ)
unfolding root_row field
root_first sorts.Predicate = refl
root_first sorts.Expression = refl

root_rest : (σ : Sort) → sort_mask σ ≡ rest (root_row σ)
unfolding root_row field
root_rest sorts.Predicate = refl
root_rest sorts.Expression = refl

some_sort : (σ : Sort) → eqb (sort_mask σ) 0 ≡ false
some_sort sorts.Predicate = refl
some_sort sorts.Expression = refl

-- any kind of the sort may stand at the root
root_may : (τ : Ty) → among? (kind_of τ) (root_kinds (sort_of_ty τ)) ≡ true
root_may (base b) = elim b as (λ k. among? (kind_of (base k)) (root_kinds (sort_of_ty (base k))) ≡ true) [ prop ↦ refl | int ↦ refl | boo ↦ refl | set ↦ refl | nats ↦ refl | nats1 ↦ refl ]
root_may (pair a b) = refl

marked_reading : (x : Tree) (o : Option ℕ) (q : ℕ) → reading_of (gives q (mark_of o)) ≡ end_or_refusal (typed? x q o)
marked_reading x none q = refl
marked_reading x (some p) q =
    let e : p + 1 - 1 ≡ p = omega arith in
    simp (ne_eqb (p + 1) 0 (λ z. omega (arith, z))) (ap (λ (v : ℕ). Err (record { cause = cause.Type; at = v })) e)

module _ (s types : List ℕ) (σ : Sort) (start : ℕ) where
  abbrev end : ℕ
  end = end_of (length s) start

  O : OperandIs s types start 32 0
  O = operand_is s types start 32 (omega arith) 0

  root_mark : (x : Tree) (q ty below : ℕ) → formula_at s (length types) (start + 1024) 32 0 σ start ≡ got x q → ty ≡ type_bit (head_type (types_of types) x)
      → bad_after s types (sort_mask σ) (sort_mask σ) 1 start 1 ty 0 below ≡ below
  unfolding bad_after unlike
  root_mark x q ty below e t =
      let T = O.has σ start x q e in
      let u : ty ≡ bit (kind_of T.0) = t ∙ ap type_bit T.1 in
      let k : among? (kind_of T.0) (root_kinds σ) ≡ true = subst (λ (ρ : Sort). among? (kind_of T.0) (root_kinds ρ) ≡ true) T.2 (root_may T.0) in
      rw u (simp ((root_wants σ).by_kind (kind_of T.0), k, some_sort σ))

  whole_read : read_from s types end (whole_at σ start) ≡ answered (formula_at s (length types) (start + 1024) 32 0 σ start) (λ x q. gives q (mark_of (first_wrong (types_of types) start x)))
  unfolding read_from whole_at list_with
  whole_read =
      keep_none (list_with (head_at s types end 0 32) (below_at 32 s types end 0) s types (rest (root_row σ)) 1 1 (first (root_row σ)) start 0)
      ∙ rw (← root_rest σ, ← root_first σ) (O.goes (sort_mask σ) (among (root_kinds σ)) σ start (root_wants σ) (omega arith)
      (λ o g. gives g.next (bad_after s types (sort_mask σ) (sort_mask σ) 1 start 1 o.ty 0 g.bad))
      (λ x q. gives q (mark_of (first_wrong (types_of types) start x)))
      (λ x q o e t. ap (gives q) (root_mark x q o.ty (mark_of (first_wrong (types_of types) start x)) e t)))

  -- THE BRIDGE
  pub whole_is : read_formula s types σ start ≡ reading_of (read_from s types end (whole_at σ start))
  unfolding read_formula tree_at
  whole_is = sym (ap reading_of whole_read ∙ go (formula_at s (length types) (start + 1024) 32 0 σ start))
    where
      go : (y : Parsed Tree) → reading_of (answered y (λ x q. gives q (mark_of (first_wrong (types_of types) start x)))) ≡ end_or_refusal (asked8 (types_of types) start y)
      go (got x q) = marked_reading x (first_wrong (types_of types) start x) q
      go (not_got c p) = refl
