-- THE THEOREM: where an accepted source has its start value, each of its substitutes has the value listed.
use Prim.Native.Nat.{ℕ, suc, ◌-◌, ◌<◌, ◌^◌}
use mathlib.Core.Path.{◌≡◌, refl, ap, sym, ◌∙◌}
use mathlib.Core.Bool.{Bool, true, false, not, ◌&&◌}
use mathlib.Core.Option.{Option, some, none}
use mathlib.Core.List.{List, [], ◌∷◌, map, append-nil}
use native.Mathlib.Omega.{arith}
use lib.ListN.{length}
use lib.IntN.{ℤ, pos}
use lib.Dec.{eqb, ltb}
use borrow.Author.Tests.{eqb-true, ltb-true, leb-true}
use Rattle.formula.specs.Pick.{pick}
use Rattle.formula.specs.Codes as C
use Rattle.formula.specs.Codes.{Rel, Code, con, ident, bound, lit, rel, fun, many, qu, byte_of}
use Rattle.formula.specs.Types as T
use Rattle.formula.specs.Types.{Ty, base, pair, kind_of, one, types_of, among?, may, eq_ty}
use Rattle.formula.specs.NodeTable.{row_of, any_data, operands}
use Rattle.formula.specs.Tree.{Tree, node, Trees, nil, ◌▹◌, size, number_of, encode}
use Rattle.formula.specs.Formed.{Formed}
use Rattle.formula.specs.Formula.{Formula}
use Rattle.formula.specs.Typing.{type_of}
use Rattle.formula.specs.declared.Sort.{Sort}
use Rattle.formula.specs.declared.Sort.TheVariants as sort
use Rattle.formula.proofs.Choices.{never, none_some, and_left, and_right, agree}
use Rattle.formula.proofs.SameType.{eq_ty→eq}
use Rattle.formula.proofs.DataType.{data?, types_of_data}
use Rattle.formula.proofs.GoodType.{typed_good}
use Rattle.meaning.specs.Fold.{fold}
use Rattle.meaning.specs.Value.{Val, truth, int, boo, set, nats, nats1, ty_of}
use Rattle.meaning.specs.Sets.{subset}
use Rattle.meaning.specs.Operators.{signed, function}
use Rattle.meaning.specs.Defined.{◌>>=◌}
use Rattle.meaning.specs.Valuation.{Valuation}
use Rattle.meaning.specs.Meaning.{eval}
use Rattle.meaning.proofs.Lists.{some_inj}
use Rattle.meaning.proofs.Whole.{Cmp, cmp_z, is_eq, is_lt, is_le, swap, cmp_swap}
use Rattle.meaning.proofs.Literals.{literal_low, literal_high}
use Rattle.meaning.proofs.Operands.{read_int, is_int, read_one, reads_set, is_set, kind_data}
use Rattle.meaning.proofs.Has.{has_value}
use Rattle.keys.specs.Strip.{has_code, Stripped, bare, strip, strip_one}
use Rattle.keys.specs.Keys as K
use Rattle.keys.specs.Keys.{Shape, Condition, always, integers, sets, zero_left, zero_right, positive, negative, rows_of}
use Rattle.keys.specs.Substitutes.{Relation, turned, relation, word_of, zero?, positive?, negative?, meets, entry_of, literal?, met_entries, entries_by, candidates, substitutes}
use Rattle.keys.specs.Sound.{AllHold}
use Rattle.keys.proofs.Standing.{code_is, row_by}
use Rattle.keys.proofs.StripIs.{strip_is}
use Rattle.keys.proofs.SideTypes.{type_clash, int_only, set_only, Typed, typed_sides}
use Rattle.keys.proofs.Worlds.{int_meets, set_meets, plain_meets, any_meets, cmp_more, int_fine, set_fine, equal_fine, member_fine, two_numbers, int_says, set_says}
use Rattle.keys.proofs.Holds.{rows_hold, number_key, set_key, member_key, equal_key, equal_turned, nat_value, nat1_value, ordered_value, set_equal, set_strict, set_subset}

module _ {types : List ℕ} (ν : Valuation types) where
  -- ---- literals
  literal_value : (k : Code) (xs : Trees) (v : Val) → eqb (byte_of k) 34 ≡ true → eval ν (node k xs) [] ≡ some v → v ≡ int (signed (number_of k (size xs)))
  unfolding fold
  literal_value k nil v h e =
      let c : k ≡ lit (number_of k 0) = code_is k (lit 0) 0 (eqb-true (byte_of k) 34 h) in
      some_inj (sym e ∙ ap (λ (k : Code). eval ν (node k nil) []) c)
  literal_value k (y ▹ ys) v h e =
      let c : k ≡ lit (number_of k (suc (size ys))) = code_is k (lit 0) (suc (size ys)) (eqb-true (byte_of k) 34 h) in
      none_some (sym (ap (λ (k : Code). eval ν (node k (y ▹ ys)) []) c) ∙ e)

  -- a literal has the type of integers
  literal_type : (t : Tree) (v : Val) → has_code (lit 0) t ≡ true → eval ν t [] ≡ some v → ty_of v ≡ base T.int
  literal_type (node k xs) v h e = ap ty_of (literal_value k xs v h e)

  module _ (t : Tree) (x : ℤ) (e : eval ν t [] ≡ some (int x)) where
    number_is : has_code (lit 0) t ≡ true → x ≡ signed (word_of t)
    number_is h = go t e h
      where
        go : (t : Tree) → eval ν t [] ≡ some (int x) → has_code (lit 0) t ≡ true → x ≡ signed (word_of t)
        go (node k xs) e h = let z = literal_value k xs (int x) h e in cc

    zero_met : zero? t ≡ true → is_eq (cmp_z x (pos 0)) ≡ true
    zero_met h =
        let n = number_is (and_left (has_code (lit 0) t) _ h) in
        let w : word_of t ≡ 0 = eqb-true (word_of t) 0 (and_right (has_code (lit 0) t) _ h) in
        ap (λ (x : ℤ). is_eq (cmp_z x (pos 0))) (n ∙ ap signed w)

    positive_met : positive? t ≡ true → is_lt (swap (cmp_z x (pos 0))) ≡ true
    positive_met h =
        let n = number_is (and_left (has_code (lit 0) t) _ h) in
        let p = and_right (has_code (lit 0) t) _ h in
        let i = ltb-true 0 (word_of t) (and_left (ltb 0 (word_of t)) _ p) in
        let j = ltb-true (word_of t) (2 ^ 63) (and_right (ltb 0 (word_of t)) _ p) in
        ap (λ (x : ℤ). is_lt (swap (cmp_z x (pos 0)))) (n ∙ literal_low (word_of t) j) ∙ ap (λ (c : Cmp). is_lt (swap c)) (cmp_more (word_of t) 0 i)

    negative_met : word_of t < 2 ^ 64 → negative? t ≡ true → is_lt (cmp_z x (pos 0)) ≡ true
    negative_met k h =
        let n = number_is (and_left (has_code (lit 0) t) _ h) in
        let i = leb-true (2 ^ 63) (word_of t) (and_right (has_code (lit 0) t) _ h) in
        ap (λ (x : ℤ). is_lt (cmp_z x (pos 0))) (n ∙ literal_high (word_of t) i k)

  -- ---- values by types
  int_value : (t : Tree) → type_of (types_of types) 0 t ≡ some (base T.int) → (x : ℤ) × (eval ν t [] ≡ some (int x))
  int_value t e =
      let h = has_value ν t 0 (base T.int) e [] refl in
      let r = read_int h.0 (rw h.2 refl) in
      (r.0, h.1 ∙ ap some (sym (is_int h.0 r.0 r.1)))

  set_value : (t : Tree) → type_of (types_of types) 0 t ≡ some (base T.set) → (s : List ℤ) × (eval ν t [] ≡ some (set s))
  set_value t e =
      let h = has_value ν t 0 (base T.set) e [] refl in
      let r = read_one Rattle.meaning.specs.Value.as_set (one T.set ∷ []) reads_set h.0 (rw h.2 refl) in
      (r.0, h.1 ∙ ap some (sym (is_set h.0 r.0 r.1)))

  -- ---- all rows, by what the sides are
  Rows : Relation → Bool → Type 0
  Rows w b = AllHold ν (met_entries (map (entry_of (types_of types) w) (rows_of b w.shape)))

  module _ (w : Relation) (b : Bool) where
    module _ (x y : ℤ) (e : eval ν w.left [] ≡ some (int x)) (i : word_of w.left < 2 ^ 64) where
      numbers_meet : (zero? w.right ≡ true → is_eq (cmp_z y (pos 0)) ≡ true) → (may (T.same (base T.set)) (type_of (types_of types) 0 w.right) ≡ true → ⊥) → (c : Condition)
          → meets (types_of types) w.left w.right c ≡ true → int_meets (cmp_z x (pos 0)) (cmp_z y (pos 0)) c ≡ true
      numbers_meet z n always h = refl
      numbers_meet z n integers h = refl
      numbers_meet z n sets h = absurd (n h)
      numbers_meet z n zero_left h = zero_met w.left x e h
      numbers_meet z n zero_right h = z h
      numbers_meet z n positive h = positive_met w.left x e h
      numbers_meet z n negative h = negative_met w.left x e i h

      numbers_hold : (f : eval ν w.right [] ≡ some (int y)) → type_of (types_of types) 0 w.right ≡ some (base T.int) → int_says w.shape (cmp_z x (pos 0)) (cmp_z x y) b ≡ true → Rows w b
      unfolding Rows
      numbers_hold f t s =
          rows_hold ν w _ _ (numbers_meet (zero_met w.right y f) (λ h. type_clash (base T.set) (base T.int) _ t refl h))
          (number_key ν w.left w.right (two_numbers w.shape) x y e (λ _. f)) (rows_of b w.shape) (int_fine b x y w.shape s)

    module _ (s t : List ℤ) (e : eval ν w.left [] ≡ some (set s)) (f : eval ν w.right [] ≡ some (set t)) where
      no_literal : {A : Type 0} (a : Tree) (u : List ℤ) → eval ν a [] ≡ some (set u) → has_code (lit 0) a ≡ true → A
      no_literal a u e h = let z = literal_type a (set u) h e in let q : ◌≡◌ {A = ℕ} 0 1 = cc in absurd (omega (arith, q))

      sets_meet : type_of (types_of types) 0 w.right ≡ some (base T.set) → (c : Condition) → meets (types_of types) w.left w.right c ≡ true → set_meets c ≡ true
      sets_meet τ always h = refl
      sets_meet τ integers h = type_clash (base T.int) (base T.set) _ τ refl h
      sets_meet τ sets h = refl
      sets_meet τ zero_left h = no_literal w.left s e (and_left (has_code (lit 0) w.left) _ h)
      sets_meet τ zero_right h = no_literal w.right t f (and_left (has_code (lit 0) w.right) _ h)
      sets_meet τ positive h = no_literal w.left s e (and_left (has_code (lit 0) w.left) _ h)
      sets_meet τ negative h = no_literal w.left s e (and_left (has_code (lit 0) w.left) _ h)

      sets_hold : type_of (types_of types) 0 w.right ≡ some (base T.set) → set_says w.shape (subset s t) (subset t s) b ≡ true → Rows w b
      unfolding Rows
      sets_hold τ q = rows_hold ν w set_meets _ (sets_meet τ) (set_key ν w.left w.right s t e f) (rows_of b w.shape) (set_fine b (subset s t) (subset t s) w.shape q)

  says : (a b : Bool) (o : Option Val) → o ≡ some (truth a) → o ≡ some (truth b) → agree a b ≡ true
  says a b o e f = let z : a ≡ b = cc in rw z (agree_refl b)
    where
      agree_refl : (b : Bool) → agree b b ≡ true
      agree_refl true = refl
      agree_refl false = refl

  -- ---- = of values that are neither numbers nor sets
  module _ (l r : Tree) (b : Bool) (v w : Val) (e : eval ν l [] ≡ some v) (f : eval ν r [] ≡ some w) (τ : Ty) (t : type_of (types_of types) 0 r ≡ some τ) (v≡ : ty_of v ≡ τ) (w≡ : ty_of w ≡ τ)
      (no-int : eq_ty (base T.int) τ ≡ false) (no_set : eq_ty (base T.set) τ ≡ false) where
    other_literal : {A : Type 0} (a : Tree) (u : Val) → eval ν a [] ≡ some u → ty_of u ≡ τ → has_code (lit 0) a ≡ true → A
    other_literal a u e t h = never (sym no-int ∙ ap (eq_ty (base T.int)) (sym t ∙ literal_type a u h e))

    plain_meets_law : (c : Condition) → meets (types_of types) l r c ≡ true → plain_meets c ≡ true
    plain_meets_law always h = refl
    plain_meets_law integers h = type_clash (base T.int) τ _ t no-int h
    plain_meets_law sets h = type_clash (base T.set) τ _ t no_set h
    plain_meets_law zero_left h = other_literal l v e v≡ (and_left (has_code (lit 0) l) _ h)
    plain_meets_law zero_right h = other_literal r w f w≡ (and_left (has_code (lit 0) r) _ h)
    plain_meets_law positive h = other_literal l v e v≡ (and_left (has_code (lit 0) l) _ h)
    plain_meets_law negative h = other_literal l v e v≡ (and_left (has_code (lit 0) l) _ h)

    plain_hold : data? τ ≡ true → eval ν (node (rel C.eq) (l ▹ r ▹ nil)) [] ≡ some (truth b) → Rows (turned C.eq l r) b
    unfolding Rows
    plain_hold d h =
        rows_hold ν (turned C.eq l r) plain_meets _ plain_meets_law (equal_key ν l r b h (equal_turned ν l r v w b e f (ap data? v≡ ∙ d) (w≡ ∙ sym v≡) h)) (rows_of b K.equal) (equal_fine b)

  -- ---- each relation
  module _ (l r : Tree) (b : Bool) (i : word_of l < 2 ^ 64) (j : word_of r < 2 ^ 64) where
    Source : Rel → Type 0
    Source q = Typed (types_of types) q l r × (eval ν (node (rel q) (l ▹ r ▹ nil)) [] ≡ some (truth b))

    numbers : (q : Rel) (t : Typed (types_of types) q l r) → among? (kind_of t.left_type) (one T.int ∷ []) ≡ true → among? (kind_of t.right_type) (one T.int ∷ []) ≡ true
        → ((x : ℤ) × (eval ν l [] ≡ some (int x))) × ((y : ℤ) × (eval ν r [] ≡ some (int y))) × (type_of (types_of types) 0 l ≡ some (base T.int)) × (type_of (types_of types) 0 r ≡ some (base T.int))
    numbers q t m n =
        let tl = t.left_is ∙ ap some (int_only t.left_type m) in
        let tr = t.right_is ∙ ap some (int_only t.right_type n) in
        (int_value l tl, int_value r tr, tl, tr)

    set_pair : (q : Rel) (t : Typed (types_of types) q l r) → among? (kind_of t.left_type) (one T.set ∷ []) ≡ true → among? (kind_of t.right_type) (one T.set ∷ []) ≡ true
        → ((s : List ℤ) × (eval ν l [] ≡ some (set s))) × ((u : List ℤ) × (eval ν r [] ≡ some (set u))) × (type_of (types_of types) 0 r ≡ some (base T.set))
    set_pair q t m n =
        let tl = t.left_is ∙ ap some (set_only t.left_type m) in
        let tr = t.right_is ∙ ap some (set_only t.right_type n) in
        (set_value l tl, set_value r tr, tr)

    equal_holds : Source C.eq → Rows (turned C.eq l r) b
    unfolding Source
    equal_holds S = go S.0.left_type S.0.right_type S.0.left_is S.0.right_is S.0.first_may S.0.second_may
      where
        by : (τ : Ty) → type_of (types_of types) 0 l ≡ some τ → type_of (types_of types) 0 r ≡ some τ → data? τ ≡ true → Rows (turned C.eq l r) b
        by (base T.prop) tl tr d = never d
        by (base T.int) tl tr d =
            let x = int_value l tl in
            let y = int_value r tr in
            numbers_hold (turned C.eq l r) b x.0 y.0 x.1 i y.1 tr (says (is_eq (cmp_z x.0 y.0)) b _ (ordered_value ν l r x.0 y.0 x.1 y.1 C.eq _ refl) S.1)
        by (base T.boo) tl tr d = let v = has_value ν l 0 (base T.boo) tl [] refl in let w = has_value ν r 0 (base T.boo) tr [] refl in
            plain_hold l r b v.0 w.0 v.1 w.1 (base T.boo) tr v.2 w.2 refl refl d S.1
        by (base T.set) tl tr d =
            let s = set_value l tl in
            let t = set_value r tr in
            sets_hold (turned C.eq l r) b s.0 t.0 s.1 t.1 tr (says (subset s.0 t.0 && subset t.0 s.0) b _ (set_equal ν l r s.0 t.0 s.1 t.1) S.1)
        by (base T.nats) tl tr d = never d
        by (base T.nats1) tl tr d = never d
        by (pair σ ρ) tl tr d = let v = has_value ν l 0 (pair σ ρ) tl [] refl in let w = has_value ν r 0 (pair σ ρ) tr [] refl in
            plain_hold l r b v.0 w.0 v.1 w.1 (pair σ ρ) tr v.2 w.2 refl refl d S.1

        go : (σ τ : Ty) → type_of (types_of types) 0 l ≡ some σ → type_of (types_of types) 0 r ≡ some τ → among? (kind_of σ) any_data ≡ true → eq_ty σ τ ≡ true → Rows (turned C.eq l r) b
        go σ τ tl tr m n =
            let e = eq_ty→eq σ τ n in
            by τ (tl ∙ ap some e) tr (kind_data τ (typed_good r (types_of types) 0 τ (types_of_data types) tr) (ap (λ (σ : Ty). among? (kind_of σ) any_data) (sym e) ∙ m))

    less_holds : Source C.lt → Rows (turned C.lt l r) b
    unfolding Source
    less_holds S =
        let n = numbers C.lt S.0 S.0.first_may S.0.second_may in
        numbers_hold (turned C.lt l r) b n.0.0 n.1.0 n.0.1 i n.1.1 n.3
        (says (is_lt (cmp_z n.0.0 n.1.0)) b _ (ordered_value ν l r n.0.0 n.1.0 n.0.1 n.1.1 C.lt _ refl) S.1)

    less_equal_holds : Source C.le → Rows (turned C.le l r) b
    unfolding Source
    less_equal_holds S =
        let n = numbers C.le S.0 S.0.first_may S.0.second_may in
        numbers_hold (turned C.le l r) b n.0.0 n.1.0 n.0.1 i n.1.1 n.3
        (says (is_le (cmp_z n.0.0 n.1.0)) b _ (ordered_value ν l r n.0.0 n.1.0 n.0.1 n.1.1 C.le _ refl) S.1)

    greater_holds : Source C.gt → Rows (turned C.gt l r) b
    unfolding Source
    greater_holds S =
        let n = numbers C.gt S.0 S.0.first_may S.0.second_may in
        numbers_hold (turned C.gt l r) b n.1.0 n.0.0 n.1.1 j n.0.1 n.2
        (says (is_lt (cmp_z n.1.0 n.0.0)) b _ (ordered_value ν l r n.0.0 n.1.0 n.0.1 n.1.1 C.gt _ (ap (λ (c : Cmp). some (is_lt c)) (sym (cmp_swap n.0.0 n.1.0)))) S.1)

    greater_equal_holds : Source C.ge → Rows (turned C.ge l r) b
    unfolding Source
    greater_equal_holds S =
        let n = numbers C.ge S.0 S.0.first_may S.0.second_may in
        numbers_hold (turned C.ge l r) b n.1.0 n.0.0 n.1.1 j n.0.1 n.2
        (says (is_le (cmp_z n.1.0 n.0.0)) b _ (ordered_value ν l r n.0.0 n.1.0 n.0.1 n.1.1 C.ge _ (ap (λ (c : Cmp). some (is_le c)) (sym (cmp_swap n.0.0 n.1.0)))) S.1)

    subset_holds : Source C.sub → Rows (turned C.sub l r) b
    unfolding Source
    subset_holds S =
        let n = set_pair C.sub S.0 S.0.first_may S.0.second_may in
        sets_hold (turned C.sub l r) b n.0.0 n.1.0 n.0.1 n.1.1 n.2
        (says (subset n.0.0 n.1.0 && not (subset n.1.0 n.0.0)) b _ (set_strict ν l r n.0.0 n.1.0 n.0.1 n.1.1) S.1)

    subset_equal_holds : Source C.sube → Rows (turned C.sube l r) b
    unfolding Source
    subset_equal_holds S =
        let n = set_pair C.sube S.0 S.0.first_may S.0.second_may in
        sets_hold (turned C.sube l r) b n.0.0 n.1.0 n.0.1 n.1.1 n.2 (says (subset n.0.0 n.1.0) b _ (set_subset ν l r n.0.0 n.1.0 n.0.1 n.1.1) S.1)

    -- ---- ∈: ℕ, ℕ1 or a set
    constant_there : (c : C.Con) (t : Tree) (v : Val) → has_code (con c) t ≡ true → eval ν t [] ≡ some v → t ≡ node (con c) nil
    unfolding fold
    constant_there c (node k nil) v h e = ap (λ (k : Code). node k nil) (code_is k (con c) 0 (eqb-true (byte_of k) (C.con_byte c) h))
    constant_there c (node k (y ▹ ys)) v h e =
        none_some (sym (ap (λ (k : Code). eval ν (node k (y ▹ ys)) []) (code_is k (con c) (suc (size ys)) (eqb-true (byte_of k) (C.con_byte c) h))) ∙ e)

    natural_holds : (q : Shape) (x : ℤ) → eval ν l [] ≡ some (int x) → (may (T.same (base T.set)) (type_of (types_of types) 0 r) ≡ true → ⊥) → two_numbers q ≡ false
        → int_says q (cmp_z x (pos 0)) (cmp_z x (pos 0)) b ≡ true → Rows (record { shape = q; left = l; right = r }) b
    unfolding Rows
    natural_holds q x e n h s =
        let w : Relation = record { shape = q; left = l; right = r } in
        rows_hold ν w _ _ (numbers_meet w b x (pos 0) e i (λ z. refl) n) (number_key ν l r (two_numbers q) x (pos 0) e (λ z. never (sym h ∙ z))) (rows_of b q) (int_fine b x (pos 0) q s)

    member_holds : Source C.mem → Rows (turned C.mem l r) b
    unfolding Source Rows
    member_holds S = go (has_code (con C.nat) r) (has_code (con C.nat1) r) refl refl
      where
        x : (x : ℤ) × (eval ν l [] ≡ some (int x))
        x = int_value l (S.0.left_is ∙ ap some (int_only S.0.left_type S.0.first_may))

        v : (v : Val) × (eval ν r [] ≡ some v) × (ty_of v ≡ S.0.right_type)
        v = has_value ν r 0 S.0.right_type S.0.right_is [] refl

        no_set : (c : C.Con) → r ≡ node (con c) nil → may (T.same (base T.set)) (type_of (types_of types) 0 (node (con c) nil)) ≡ false → may (T.same (base T.set)) (type_of (types_of types) 0 r) ≡ true → ⊥
        no_set c e n h = never (sym n ∙ ap (λ (t : Tree). may (T.same (base T.set)) (type_of (types_of types) 0 t)) (sym e) ∙ h)

        go : (m n : Bool) → has_code (con C.nat) r ≡ m → has_code (con C.nat1) r ≡ n → AllHold ν (met_entries (map (entry_of (types_of types) (record { shape = pick m K.inℕ (pick n K.inℕ1 K.in_set); left = l; right = r })) (rows_of b (pick m K.inℕ (pick n K.inℕ1 K.in_set)))))
        go true n p q =
            let z = constant_there C.nat r v.0 p v.1 in
            natural_holds K.inℕ x.0 x.1 (no_set C.nat z (unfold type_of in refl)) refl
            (says _ b _ (nat_value ν l x.0 x.1 ∙ ap (λ (c : Cmp). some (truth (is_le c))) (cmp_swap x.0 (pos 0))) (ap (λ (t : Tree). eval ν (node (rel C.mem) (l ▹ t ▹ nil)) []) (sym z) ∙ S.1))
        go false true p q =
            let z = constant_there C.nat1 r v.0 q v.1 in
            natural_holds K.inℕ1 x.0 x.1 (no_set C.nat1 z (unfold type_of in refl)) refl
            (says _ b _ (nat1_value ν l x.0 x.1 ∙ ap (λ (c : Cmp). some (truth (is_lt c))) (cmp_swap x.0 (pos 0))) (ap (λ (t : Tree). eval ν (node (rel C.mem) (l ▹ t ▹ nil)) []) (sym z) ∙ S.1))
        go false false p q = rows_hold ν (record { shape = K.in_set; left = l; right = r }) any_meets _ (λ c h. refl) (member_key ν l r b S.1) (rows_of b K.in_set) (member_fine b)

    relation_holds : (q : Rel) → Source q → Rows (turned q l r) b
    relation_holds C.eq = equal_holds
    relation_holds C.lt = less_holds
    relation_holds C.le = less_equal_holds
    relation_holds C.gt = greater_holds
    relation_holds C.ge = greater_equal_holds
    relation_holds C.mem = member_holds
    relation_holds C.sub = subset_holds
    relation_holds C.sube = subset_equal_holds

  -- ---- ¬
  negated_value : (y : Tree) (b : Bool) → eval ν (node (fun C.neg) (y ▹ nil)) [] ≡ some (truth b) → eval ν y [] ≡ some (truth (not b))
  unfolding fold
  negated_value y b e = go (eval ν y []) (e)
    where
      go : (o : Option Val) → (((o >>= λ v. some (v ∷ [])) >>= function C.neg) ≡ some (truth b)) → o ≡ some (truth (not b))
      go none e = none_some e
      go (some (truth true)) e = let z : false ≡ b = cc in rw (← z) refl
      go (some (truth false)) e = let z : true ≡ b = cc in rw (← z) refl
      go (some (int z)) e = none_some e
      go (some (boo z)) e = none_some e
      go (some (set z)) e = none_some e
      go (some nats) e = none_some e
      go (some nats1) e = none_some e
      go (some (Rattle.meaning.specs.Value.pair v w)) e = none_some e

  abbrev Holds : Stripped → Type 0
  Holds z = eval ν z.predicate [] ≡ some (truth z.value)

  strip_case : (k : Code) (xs : Trees) (b : Bool) → eval ν (node k xs) [] ≡ some (truth b) → (byte_of k ≡ 3 → Holds (strip_one b (node k xs) xs)) → (v : Bool) → eqb (byte_of k) 3 ≡ v
      → Holds (pick v (strip_one b (node k xs) xs) (bare b (node k xs)))
  strip_case k xs b e f true q = f (eqb-true (byte_of k) 3 q)
  strip_case k xs b e f false q = e

  mutual
    unfolding strip Formed

    strip_holds : (x : Tree) (l t d : ℕ) (σ : Sort) (b : Bool) → Formed l t d σ x → eval ν x [] ≡ some (truth b) → Holds (strip b x)
    strip_holds (node k xs) l t d σ b F e = strip_case k xs b e (λ h. one_holds xs k l t d σ b F e h) (eqb (byte_of k) 3) refl

    one_holds : (xs : Trees) (k : Code) (l t d : ℕ) (σ : Sort) (b : Bool) → Formed l t d σ (node k xs) → eval ν (node k xs) [] ≡ some (truth b) → byte_of k ≡ 3 → Holds (strip_one b (node k xs) xs)
    one_holds nil k l t d σ b F e h = e
    one_holds (y ▹ nil) k l t d σ b F e h =
        strip_holds y (l - 1) t _ _ (not b) F.2.0 (negated_value y b (ap (λ (k : Code). eval ν (node k (y ▹ nil)) []) (sym (code_is k (fun C.neg) 1 h)) ∙ e))
    one_holds (y ▹ z ▹ zs) k l t d σ b F e h =
        let n : suc (suc (size zs)) ≡ operands (row_of k).arity (number_of k (suc (suc (size zs)))) = F.1.operands_are in
        let m : suc (suc (size zs)) ≡ 1 = rw (row_by k (fun C.neg) h) at n in absurd (omega (arith, m))

  -- ---- a source without ¬
  self_holds : (x : Tree) (b : Bool) → eval ν x [] ≡ some (truth b) → AllHold ν (met_entries (pick (literal? x) [] (some (record { key = x; value = b }) ∷ [])))
  self_holds x b e = go (literal? x)
    where
      go : (v : Bool) → AllHold ν (met_entries (pick v [] (some (record { key = x; value = b }) ∷ [])))
      go true = tt
      go false = (e, tt)

  side_word : (t : Tree) (l n d : ℕ) (σ : Sort) → Formed l n d σ t → word_of t < 2 ^ 64
  unfolding Formed
  side_word (node k xs) l n d σ F = F.1.word_in

  source_holds : (x : Tree) (b : Bool) (n : ℕ) (τ : Ty) → Formed n (length types) 0 sort.Predicate x → type_of (types_of types) 0 x ≡ some τ → eval ν x [] ≡ some (truth b)
      → AllHold ν (met_entries (entries_by (types_of types) b x (relation x)))
  unfolding Formed Rows Source
  source_holds (node (con c) xs) b n τ F t e = self_holds (node (con c) xs) b e
  source_holds (node (ident k) xs) b n τ F t e = self_holds (node (ident k) xs) b e
  source_holds (node (bound k) xs) b n τ F t e = self_holds (node (bound k) xs) b e
  source_holds (node (lit w) xs) b n τ F t e = self_holds (node (lit w) xs) b e
  source_holds (node (rel q) nil) b n τ F t e = self_holds (node (rel q) nil) b e
  source_holds (node (rel q) (l ▹ nil)) b n τ F t e = self_holds (node (rel q) (l ▹ nil)) b e
  source_holds (node (rel q) (l ▹ r ▹ nil)) b n τ F t e =
      relation_holds l r b (side_word l _ _ _ _ F.2.0) (side_word r _ _ _ _ F.2.1.0) q (typed_sides (types_of types) q l r τ t, e)
  source_holds (node (rel q) (l ▹ r ▹ x ▹ xs)) b n τ F t e = self_holds (node (rel q) (l ▹ r ▹ x ▹ xs)) b e
  source_holds (node (fun f) xs) b n τ F t e = self_holds (node (fun f) xs) b e
  source_holds (node (many m) xs) b n τ F t e = self_holds (node (many m) xs) b e
  source_holds (node (qu v k) xs) b n τ F t e = self_holds (node (qu v k) xs) b e

  -- THE THEOREM
  pub substitutes_hold : (x : Tree) (starts : Bool) → Formula types sort.Predicate x → eval ν x [] ≡ some (truth starts) → AllHold ν (substitutes types starts x)
  unfolding substitutes candidates
  substitutes_hold x starts F e =
      let B = strip_is (encode x) types x 32 32 0 starts F.type (omega arith) F.short F.formed ([], sym (append-nil (encode x))) F.typed in
      let z = strip starts x in
      source_holds z.predicate z.value 32 B.type B.formed B.typed (strip_holds x 32 (length types) 0 sort.Predicate starts F.formed e)
