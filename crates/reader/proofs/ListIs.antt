-- A list of operands: what the code answers of it is what document 01 says, once for every count.
use Rattle.std.specs.Prelude.{Result}
use Prim.Native.Nat.{ℕ, zero, suc, ◌+◌, ◌≤◌}
use mathlib.Core.Path.{◌≡◌, sym, ap, ◌∙◌}
use mathlib.Core.Bool.{false, not, ◌&&◌}
use mathlib.Core.Option.{Option, some, none}
use mathlib.Core.List.{List}
use native.Mathlib.Omega.{arith}
use lib.ListN.{length}
use lib.Dec.{eqb}
use Rattle.formula.specs.Pick.{pick, or_else}
use Rattle.formula.specs.Types.{Ty, kind_of, Kind, types_of, Want, among, these, may, may_all}
use Rattle.formula.specs.NodeTable.{sort_of_ty}
use Rattle.formula.specs.Tree.{Tree, Trees, ◌▹◌, encode}
use Rattle.formula.specs.Typing.{head_type, head_types, first_wrong, first_wrong_in}
use Rattle.formula.specs.Mirror.PackedTable.{bit}
use Rattle.reader.specs.Mirror.Node.{Ops, head_at}
use Rattle.reader.specs.Mirror.Walk.{on_head, on_read, below_at, list_with, next_want, unlike, bad_after, end_of}
use Rattle.formula.specs.Reading.{Parsed, got, on_got, operands_by, formula_at}
use Rattle.formula.specs.declared.Sort.{Sort}
use Rattle.reader.specs.declared.reader.Got.{Got}
use Rattle.formula.proofs.Wants.{Wants}
use Rattle.formula.proofs.Back.{read_ends}
use Rattle.reader.proofs.Goings.{answered, gives, answered_same, answered_on, mark_of, marked, mark_more, mark_none}
use Rattle.refusal.specs.declared.Refusal.{Refusal}

-- the kind of a type, as a bit
abbrev pub type_bit : Option Ty → ℕ
type_bit none = 0
type_bit (some τ) = bit (kind_of τ)

module _ (s types : List ℕ) (start l d : ℕ) where
  abbrev pub formula_here : Sort → ℕ → Parsed Tree
  formula_here = formula_at s (length types) (start + 1024) l d

  -- one operand: whatever the code goes on with, given that both go on alike
  pub record OperandIs : Type 0 where
    pub goes : (want : ℕ) (w : Want) (σ : Sort) (p : ℕ) → Wants want w σ → start ≤ p → (K : Ops → Got → Result Got Refusal) (L : Tree → ℕ → Result Got Refusal)
        → ((x : Tree) (q : ℕ) (o : Ops) → formula_here σ p ≡ got x q → o.ty ≡ type_bit (head_type (types_of types) x) → K o (record { next = q; bad = mark_of (first_wrong (types_of types) p x) }) ≡ L x q)
        → on_head (head_at s types (end_of (length s) start) d l want p) (λ o. on_read (below_at l s types (end_of (length s) start) d o) (λ g. K o g)) ≡ answered (formula_here σ p) L
    -- what stands there has a type by its head
    pub has : (σ : Sort) (p : ℕ) (x : Tree) (q : ℕ) → formula_here σ p ≡ got x q → (τ : Ty) × (head_type (types_of types) x ≡ some τ) × (sort_of_ty τ ≡ σ)

  module _ (O : OperandIs) (others : ℕ) (js : List Kind) (ρ : Sort) (R : Wants others (among js) ρ) (some-others : eqb others 0 ≡ false) (parent : ℕ) (h : parent ≡ 0 → ⊥) where
    next_is : (ty : ℕ) → next_want others ty ≡ others
    unfolding next_want
    next_is ty = simp some-others

    -- without = there are no shapes to compare
    mark_is : (want : ℕ) (ks : List Kind) (σ : Sort) → Wants want (among ks) σ → (left p bad below : ℕ) (o : Option Ty) (τ : Ty) → o ≡ some τ
        → bad_after s types others want left p parent (type_bit o) bad below ≡ pick (not (may (among ks) o)) parent (pick (eqb bad 0) below bad)
    unfolding bad_after unlike
    mark_is want ks σ W left p bad below o τ e = rw e (simp (W.by_kind (kind_of τ), some-others))

    abbrev list_here : ℕ → ℕ → ℕ → ℕ → Result Got Refusal
    list_here n want p bad = list_with (head_at s types (end_of (length s) start) d l) (below_at l s types (end_of (length s) start) d) s types others parent n want p bad

    -- what the operands from p on are to be answered with
    abbrev marks : List Kind → ℕ → ℕ → Trees → ℕ → Result Got Refusal
    marks ks p bad xs q = gives q (marked (may_all (among ks) (these js) (head_types (types_of types) xs)) parent bad (first_wrong_in (types_of types) p xs))

    one_more : (n want : ℕ) (ks : List Kind) (σ : Sort) → Wants want (among ks) σ → (p bad : ℕ) (x : Tree) (m : ℕ) (o : Ops) → formula_here σ p ≡ got x m → o.ty ≡ type_bit (head_type (types_of types) x)
        → ((b : ℕ) → list_here n others m b ≡ answered (operands_by formula_here n ρ ρ m) (marks js m b))
        → list_here n (next_want others o.ty) m (bad_after s types others want (suc n) p parent o.ty bad (mark_of (first_wrong (types_of types) p x)))
        ≡ answered (operands_by formula_here n ρ ρ m) (λ xs q. marks ks p bad (x ▹ xs) q)
    unfolding head_types first_wrong
    one_more n want ks σ W p bad x m o e t more =
        let τ = O.has σ p x m e in
        let hx = head_type (types_of types) x in
        let wx = first_wrong (types_of types) p x in
        let z : m ≡ p + length (encode x) = (read_ends s (length types) (start + 1024) l d σ p x m e).0 in
        let b = pick (not (may (among ks) hx)) parent (pick (eqb bad 0) (mark_of wx) bad) in
        let u : bad_after s types others want (suc n) p parent o.ty bad (mark_of wx) ≡ b = rw t (mark_is want ks σ W (suc n) p bad (mark_of wx) hx τ.0 τ.1) in
        rw (next_is o.ty, u) (more b)
        ∙ answered_same (operands_by formula_here n ρ ρ m) _ _ (λ xs q y. ap (gives q)
        (mark_more (may (among ks) hx) (may_all (among js) (these js) (head_types (types_of types) xs)) parent bad wx (first_wrong_in (types_of types) m xs) h
        ∙ ap (λ (v : ℕ). marked (may (among ks) hx && may_all (among js) (these js) (head_types (types_of types) xs)) parent bad (or_else wx (first_wrong_in (types_of types) v xs))) z))

    pub operands_are : (n want : ℕ) (ks : List Kind) (σ : Sort) → Wants want (among ks) σ → (p bad : ℕ) → start ≤ p
        → list_here n want p bad ≡ answered (operands_by formula_here n σ ρ p) (marks ks p bad)
    unfolding list_with operands_by head_types first_wrong
    operands_are zero want ks σ W p bad i = ap (gives p) (mark_none bad)
    operands_are (suc n) want ks σ W p bad i =
        O.goes want (among ks) σ p W i _ _ (λ x m o e t. one_more n want ks σ W p bad x m o e t
        (λ b. operands_are n others js ρ R m b (let z = (read_ends s (length types) (start + 1024) l d σ p x m e).0 in omega (arith, z))))
        ∙ answered_same (formula_here σ p) _ _ (λ x m e. sym (answered_on (operands_by formula_here n ρ ρ m) (λ xs q. got (x ▹ xs) q) (marks ks p bad)))
        ∙ sym (answered_on (formula_here σ p) (λ x m. on_got (operands_by formula_here n ρ ρ m) (λ xs q. got (x ▹ xs) q)) (marks ks p bad))
