-- THE READER on bytes is document 01's: of any bytes, the same answer.
use Rattle.std.specs.Prelude.{Result}
use Prim.Native.Nat.{ℕ, zero, suc, ◌+◌, ◌<◌, ◌≤◌}
use mathlib.Core.Path.{◌≡◌, refl, sym, ap, ◌∙◌, subst}
use mathlib.Core.Bool.{Bool, true, false, ◌&&◌}
use mathlib.Core.Option.{Option, some}
use mathlib.Core.List.{List}
use native.Mathlib.Omega.{arith}
use lib.ListN.{length, get_or}
use lib.Dec.{eqb}
use borrow.Author.Tests.{eqb-true, ne_eqb, lt-leb}
use Rattle.formula.specs.Pick.{pick}
use Rattle.formula.specs.Codes.{Code, codes, code_at}
use Rattle.formula.specs.Types.{Ty, Kind, types_of, among, Rest, these, as_first, may_all}
use Rattle.formula.specs.NodeTable.{Row, row_of, width, own_length, declares, operands, Arity, fixed, counted, sort_of_ty, sort_of_kinds, sort_of_rest, same_sort}
use Rattle.formula.specs.Tree.{Tree, node, Trees, number_of}
use Rattle.formula.specs.Formed.{inner}
use Rattle.formula.specs.Typing.{right, head_type, head_types, first_wrong, first_wrong_in}
use Rattle.formula.specs.Mirror.PackedTable.{mask, rest_mask, row_at, own, first, rest, binds_of}
use Rattle.reader.specs.Mirror.Node as B
use Rattle.formula.specs.Mirror.Bytes as M
use Rattle.reader.specs.Mirror.Node.{Ops, Head, head_at}
use Rattle.formula.specs.Mirror.Bytes.{byte_at, own_byte}
use Rattle.reader.specs.Mirror.Walk.{on_head, on_read, below_at, read_below, read_list, list_with, end_of}
use Rattle.formula.specs.Reading.{Parsed, got, not_got, on_got, node_at, node_by, operands_by, formula_at}
use Rattle.formula.specs.declared.Sort.{Sort}
use Rattle.formula.specs.declared.Sort.TheVariants as sorts
use Rattle.refusal.specs.declared.Cause.TheVariants as cause
use Rattle.reader.specs.declared.reader.Got.{Got}
use Rattle.formula.proofs.Choices.{never, and_left, and_right}
use Rattle.formula.proofs.Every.{every, every_code}
use Rattle.formula.proofs.TableIs.{columns_at}
use Rattle.formula.proofs.Wants.{Wants, leaf?, first_wants, rest_wants, some_rest}
use Rattle.reader.proofs.HeadRead.{to_head, head_is, binds_there}
use Rattle.formula.proofs.Back.{OfGot, OwnRead, node_read, no_level, read_formed}
use Rattle.formula.proofs.Stands.{NodeAt}
use Rattle.formula.proofs.ReadStands.{own_stands, read_stands}
use Rattle.formula.proofs.OwnIs.{count_there}
use Rattle.formula.proofs.HeadIs.{has_type, type_there}
use Rattle.formula.proofs.DataType.{types_of_data, sort_shaped}
use Rattle.reader.proofs.Goings.{answered, gives, answered_same, answered_on, answered_read, mark_of, marked}
use Rattle.reader.proofs.ListIs.{type_bit, OperandIs, operands_are}
use Rattle.reader.proofs.SidesAre.{sides_are_law}
use Rattle.reader.proofs.Turns.{list_starts}
use Rattle.refusal.specs.declared.Refusal.{Refusal}

-- ---- the operands after the first: of some kinds, or, for = alone, of the type of the first
pub data Following (r : Row) : Type 0 where
  others : (js : List Kind) → r.rest ≡ these js → Following r
  equal : r.rest ≡ as_first → width r.number ≡ 0 → r.arity ≡ fixed 2 → sort_of_kinds r.first ≡ sorts.Expression → Following r

abbrev two? : Arity → Bool
two? (fixed zero) = false
two? (fixed (suc zero)) = false
two? (fixed (suc (suc zero))) = true
two? (fixed (suc (suc (suc n)))) = false
two? counted = false

two_is : (a : Arity) → two? a ≡ true → a ≡ fixed 2
two_is (fixed zero) e = never e
two_is (fixed (suc zero)) e = never e
two_is (fixed (suc (suc zero))) e = refl
two_is (fixed (suc (suc (suc n)))) e = never e
two_is counted e = never e

expression_is : (σ : Sort) → same_sort σ sorts.Expression ≡ true → σ ≡ sorts.Expression
expression_is sorts.Predicate e = never e
expression_is sorts.Expression e = refl

unfoldable follows : Rest → Row → Bool
follows (these js) r = true
follows as_first r = eqb (width r.number) 0 && (two? r.arity && same_sort (sort_of_kinds r.first) sorts.Expression)

all_follow : every (λ k. follows (row_of k).rest (row_of k)) codes ≡ true
unfolding every codes follows
all_follow = refl

following : (r : Row) (e : Rest) → r.rest ≡ e → follows e r ≡ true → Following r
unfolding follows
following r (these js) q h = others js q
following r as_first q h =
    let a = eqb (width r.number) 0 in
    let b = two? r.arity in
    let c = same_sort (sort_of_kinds r.first) sorts.Expression in
    equal q (eqb-true _ 0 (and_left a (b && c) h)) (two_is _ (and_left b c (and_right a (b && c) h))) (expression_is _ (and_right b c (and_right a (b && c) h)))

pub following_at : (b : ℕ) (k : Code) → code_at b ≡ some k → Following (row_of k)
following_at b k q = following (row_of k) (row_of k).rest refl (every_code (λ k. follows (row_of k).rest (row_of k)) all_follow b k q)

-- some operands: no leaf
has_operands : (a : Arity) (m n : ℕ) → suc n ≡ operands a m → leaf? a ≡ false
has_operands (fixed zero) m n e = absurd (omega (arith, e))
has_operands (fixed (suc k)) m n e = refl
has_operands counted m n e = refl

-- what a row x of the table says of the operands of a node that has some
pub record Lists (x : ℕ) (r : Row) : Type 0 where
  pub first_mask : first x ≡ mask r.first
  pub rest_mask_law : rest x ≡ rest_mask r.rest
  pub first_want : Wants (mask r.first) (among r.first) (sort_of_kinds r.first)
  pub rest_want : (js : List Kind) → r.rest ≡ these js → Wants (mask js) (among js) (sort_of_kinds js)
  pub rest_some : (js : List Kind) → r.rest ≡ these js → eqb (mask js) 0 ≡ false
  pub follow : Following r

lists_at : (b : ℕ) (k : Code) → code_at b ≡ some k → leaf? (row_of k).arity ≡ false → Lists (row_at b) (row_of k)
lists_at b k q h = record {
  first_mask = (columns_at b k q).first_is;
  rest_mask_law = (columns_at b k q).rest_is;
  first_want = first_wants b k q h;
  rest_want = rest_wants b k q h;
  rest_some = some_rest b k q h;
  follow = following_at b k q;
}

module _ (s types : List ℕ) (start : ℕ) where
  abbrev end : ℕ
  end = end_of (length s) start

  abbrev reads : ℕ → ℕ → Sort → ℕ → Parsed Tree
  reads l d σ p = formula_at s (length types) (start + 1024) l d σ p

  -- ---- the operands from i on of a node at p with the row r, under d variables
  module _ (l d p i : ℕ) (O : OperandIs s types start l d) (levels : l ≤ 32) (inside : start ≤ p) (x : ℕ) (r : Row) (L : Lists x r) (here : i ≡ p + (width r.number + 1)) where
    abbrev list_here : ℕ → ℕ → ℕ → ℕ → Result Got Refusal
    list_here more want n at = list_with (head_at s types end d l) (below_at l s types end d) s types more (p + 1) n want at 0

    abbrev listed : Rest → Sort → ℕ → ℕ → Result Got Refusal
    listed e ρ n at =
        answered (operands_by (reads l d) n (sort_of_kinds r.first) ρ at) (λ xs q. gives q (marked (may_all (among r.first) e (head_types (types_of types) xs)) (p + 1) 0 (first_wrong_in (types_of types) at xs)))

    pub list_is : (m n : ℕ) → suc n ≡ operands r.arity m → list_here (rest x) (first x) (suc n) i ≡ listed r.rest (sort_of_rest r.rest) (suc n) i
    list_is m n a = rw (L.first_mask, L.rest_mask_law) (go L.follow)
      where
        go : Following r → list_here (rest_mask r.rest) (mask r.first) (suc n) i ≡ listed r.rest (sort_of_rest r.rest) (suc n) i
        go (others js e) =
            rw e (operands_are s types start l d O (mask js) js (sort_of_kinds js) (L.rest_want js e) (L.rest_some js e) (p + 1) (λ z. omega (arith, z)) (suc n) (mask r.first) r.first (sort_of_kinds r.first) L.first_want i 0 (omega arith))
        go (equal e w α σ) =
            let z : i ≡ p + 1 = omega arith in
            let two : suc n ≡ 2 = a ∙ ap (λ (v : Arity). operands v m) α in
            rw (e, two, z) (sides_are_law s types start l d O levels (p + 1) (λ y. omega (arith, y)) (omega arith) (mask r.first) r.first (sort_of_kinds r.first) L.first_want
            ∙ ap (λ (ρ : Sort). listed as_first ρ 2 (p + 1)) σ)

  -- ---- one node over its operands
  module _ (l d : ℕ) (O : (d : ℕ) → OperandIs s types start l d) (levels : l ≤ 32) (σ : Sort) (p : ℕ) (inside : start ≤ p) (k : Code) (n : ℕ) (R : OwnRead s (length types) (start + 1024) (suc l) d σ p k n) where
    abbrev below : Parsed Trees
    below = operands_by (reads l (inner d k n)) n (sort_of_kinds (row_of k).first) (sort_of_rest (row_of k).rest) (p + own_length k)

    abbrev ops_here : Ops
    ops_here = B.the_ops types p (row_at (byte_at s p)) (own_byte (row_at (byte_at s p)) s (p + 1))

    N : NodeAt s (length types) p k n
    N = own_stands s (length types) (start + 1024) (suc l) d σ p k n R

    next_here : p + own (row_at (byte_at s p)) + 1 ≡ p + own_length k
    unfolding byte_at
    next_here = let e = (columns_at (get_or s p 0) N.sign N.code_is).own_is in let f = ap (λ (r : Row). width r.number) N.row_is in omega (arith, e, f)

    binds_here : binds_of (row_at (byte_at s p)) (own_byte (row_at (byte_at s p)) s (p + 1)) ≡ declares (row_of k).number (number_of k n)
    unfolding byte_at
    binds_here = binds_there s types p N.sign N.code_is ∙ rw (← N.row_is, ← N.number_is) refl

    lists_here : (m : ℕ) → n ≡ suc m → Lists (row_at (byte_at s p)) (row_of k)
    unfolding byte_at
    lists_here m e =
        rw N.row_is (lists_at (get_or s p 0) N.sign N.code_is (has_operands (row_of N.sign).arity (number_of k n) m (sym e ∙ N.operands_are ∙ ap (λ (r : Row). operands r.arity (number_of k n)) N.row_is)))

    leaf_below : gives (p + own_length k) 0
        ≡ answered (operands_by (reads l (inner d k n)) 0 (sort_of_kinds (row_of k).first) (sort_of_rest (row_of k).rest) (p + own_length k)) (λ xs q. gives q (marked (right k (head_types (types_of types) xs)) (p + 1) 0 (first_wrong_in (types_of types) (p + own_length k) xs)))
    unfolding operands_by head_types first_wrong
    leaf_below = refl

    pub below_is : below_at (suc l) s types end d ops_here ≡ answered below (λ xs q. gives q (marked (right k (head_types (types_of types) xs)) (p + 1) 0 (first_wrong_in (types_of types) (p + own_length k) xs)))
    unfolding below_at read_below
    below_is = rw (count_there N, next_here, binds_here) (go n refl)
      where
        go : (m : ℕ) → n ≡ m
            → pick (eqb m 0) (gives (p + own_length k) 0) (read_list l s types end (inner d k n) (row_at (byte_at s p)) (p + 1) m (p + own_length k))
            ≡ answered (operands_by (reads l (inner d k n)) m (sort_of_kinds (row_of k).first) (sort_of_rest (row_of k).rest) (p + own_length k)) (λ xs q. gives q (marked (right k (head_types (types_of types) xs)) (p + 1) 0 (first_wrong_in (types_of types) (p + own_length k) xs)))
        go zero e = leaf_below
        go (suc m) e =
            simp (ne_eqb (suc m) 0 (λ z. omega (arith, z))) (sym (list_starts l s types end (inner d k n) (row_at (byte_at s p)) (p + 1) (suc m) (p + own_length k) (rest (row_at (byte_at s p))) (first (row_at (byte_at s p))) refl refl)
            ∙ list_is l (inner d k n) p (p + own_length k) (O (inner d k n)) levels inside (row_at (byte_at s p)) (row_of k) (lists_here m e) refl (number_of k n) m (sym e ∙ N.operands_are))

    -- the mark of the node itself
    mark_here : (xs : Trees) → marked (right k (head_types (types_of types) xs)) (p + 1) 0 (first_wrong_in (types_of types) (p + own_length k) xs) ≡ mark_of (first_wrong (types_of types) p (node k xs))
    unfolding first_wrong
    mark_here xs = go (right k (head_types (types_of types) xs)) (first_wrong_in (types_of types) (p + own_length k) xs)
      where
        go : (b : Bool) (o : Option ℕ) → marked b (p + 1) 0 o ≡ mark_of (pick b o (some p))
        go true o = refl
        go false o = refl

    read_here : (xs : Trees) (q : ℕ) → node_at s (length types) (start + 1024) (suc l) d σ p ≡ got k n → below ≡ got xs q → reads (suc l) d σ p ≡ got (node k xs) q
    unfolding formula_at node_by
    read_here xs q e f = rw (e, f) refl

    type_here : (x : Tree) (q : ℕ) → reads (suc l) d σ p ≡ got x q → ops_here.ty ≡ type_bit (head_type (types_of types) x)
    unfolding M.type_at
    type_here x q e =
        let S = read_stands s (length types) (start + 1024) (suc l) d σ p x q e in
        let T = has_type s types x (suc l) p q S in
        let i = R.in_bytes in
        let h : p < length s = omega (arith, i) in
        let t = type_there s types x (suc l) p q T.0 S T.1 in
        (simp (lt-leb (length s) p h) at t) ∙ ap type_bit (sym T.1)

    pub node_goes : node_at s (length types) (start + 1024) (suc l) d σ p ≡ got k n → (K : Ops → Got → Result Got Refusal) (L : Tree → ℕ → Result Got Refusal)
        → ((x : Tree) (q : ℕ) (o : Ops) → reads (suc l) d σ p ≡ got x q → o.ty ≡ type_bit (head_type (types_of types) x) → K o (record { next = q; bad = mark_of (first_wrong (types_of types) p x) }) ≡ L x q)
        → on_read (below_at (suc l) s types end d ops_here) (λ g. K ops_here g) ≡ answered (on_got below (λ xs q. got (node k xs) q)) L
    node_goes e K L h =
        ap (λ (a : Result Got Refusal). on_read a (λ g. K ops_here g)) below_is
        ∙ answered_read below (λ xs q. marked (right k (head_types (types_of types) xs)) (p + 1) 0 (first_wrong_in (types_of types) (p + own_length k) xs)) (λ g. K ops_here g)
        ∙ answered_same below _ _ (λ xs q f.
        let r = read_here xs q e f in
        ap (λ (b : ℕ). K ops_here (record { next = q; bad = b })) (mark_here xs) ∙ h (node k xs) q ops_here r (type_here (node k xs) q r))
        ∙ sym (answered_on below (λ xs q. got (node k xs) q) L)

  -- ---- every level
  has_here : (l d : ℕ) (σ : Sort) (p : ℕ) (x : Tree) (q : ℕ) → reads l d σ p ≡ got x q → (τ : Ty) × (head_type (types_of types) x ≡ some τ) × (sort_of_ty τ ≡ σ)
  has_here l d σ p x q e =
      let T = has_type s types x l p q (read_stands s (length types) (start + 1024) l d σ p x q e) in
      (T.0, T.1, sort_shaped x l (length types) d σ (types_of types) T.0 (types_of_data types) (read_formed s (length types) (start + 1024) l d σ p x q e) T.1)

  pub operand_is : (l : ℕ) → l ≤ 32 → (d : ℕ) → OperandIs s types start l d
  unfolding formula_at node_by
  operand_is zero levels d = record {
    goes = λ want w σ p W inside K L h. ap (λ (v : Head). on_head v (λ o. on_read (below_at 0 s types end d o) (λ g. K o g))) (head_is s types start d 0 want w σ p W)
        ∙ go σ p (λ o. on_read (below_at 0 s types end d o) (λ g. K o g)) L (B.the_ops types p (row_at (byte_at s p)) (own_byte (row_at (byte_at s p)) s (p + 1))) (node_at s (length types) (start + 1024) 0 d σ p) refl;
    has = λ σ p x q e. has_here 0 d σ p x q e;
  }
    where
      go : (σ : Sort) (p : ℕ) (M : Ops → Result Got Refusal) (L : Tree → ℕ → Result Got Refusal) (o : Ops) (z : Parsed Code) → node_at s (length types) (start + 1024) 0 d σ p ≡ z
          → on_head (to_head o z) M ≡ answered (node_by (λ d σ p. not_got cause.Deep p) d p z) L
      go σ p M L o (not_got c q) e = refl
      go σ p M L o (got k n) e = no_level s (length types) (start + 1024) d σ p k n (subst (OfGot (OwnRead s (length types) (start + 1024) 0 d σ p)) e (node_read s (length types) (start + 1024) 0 d σ p))
  operand_is (suc l) levels d = record {
    goes = λ want w σ p W inside K L h. ap (λ (v : Head). on_head v (λ o. on_read (below_at (suc l) s types end d o) (λ g. K o g))) (head_is s types start d (suc l) want w σ p W)
        ∙ go (operand_is l (omega arith)) σ p inside K L h (node_at s (length types) (start + 1024) (suc l) d σ p) refl;
    has = λ σ p x q e. has_here (suc l) d σ p x q e;
  }
    where
      go : ((d : ℕ) → OperandIs s types start l d) → (σ : Sort) (p : ℕ) → start ≤ p → (K : Ops → Got → Result Got Refusal) (L : Tree → ℕ → Result Got Refusal)
          → ((x : Tree) (q : ℕ) (o : Ops) → reads (suc l) d σ p ≡ got x q → o.ty ≡ type_bit (head_type (types_of types) x) → K o (record { next = q; bad = mark_of (first_wrong (types_of types) p x) }) ≡ L x q)
          → (z : Parsed Code) → node_at s (length types) (start + 1024) (suc l) d σ p ≡ z
          → on_head (to_head (B.the_ops types p (row_at (byte_at s p)) (own_byte (row_at (byte_at s p)) s (p + 1))) z) (λ o. on_read (below_at (suc l) s types end d o) (λ g. K o g)) ≡ answered (node_by (formula_at s (length types) (start + 1024) l) d p z) L
      go O σ p inside K L h (not_got c q) e = refl
      go O σ p inside K L h (got k n) e =
          node_goes l d O (omega arith) σ p inside k n (subst (OfGot (OwnRead s (length types) (start + 1024) (suc l) d σ p)) e (node_read s (length types) (start + 1024) (suc l) d σ p)) e K L h
