-- THE THEOREM: each key of an accepted source is a typed predicate.
use Prim.Native.Nat.{ℕ}
use mathlib.Core.Path.{◌≡◌, refl, ap, sym, ◌∙◌}
use mathlib.Core.Bool.{Bool, true, false, ◌&&◌}
use mathlib.Core.Option.{Option, some, none}
use mathlib.Core.List.{List, [], ◌∷◌, map, append-nil}
use native.Mathlib.Omega.{arith}
use borrow.Author.Tests.{eqb-true}
use Rattle.formula.specs.Pick.{pick}
use Rattle.formula.specs.Codes as C
use Rattle.formula.specs.Codes.{Rel, Code, byte_of, con, ident, bound, lit, rel, fun, many, qu}
use Rattle.formula.specs.Types as T
use Rattle.formula.specs.Types.{Ty, base, pair, kind_of, one, types_of, among?, eq_ty}
use Rattle.formula.specs.NodeTable.{Row, row_of, Result, is, any_data}
use Rattle.formula.specs.Tree.{Tree, node, nil, ◌▹◌, size, number_of, encode}
use Rattle.formula.specs.Formula.{Formula}
use Rattle.formula.specs.Formed.{inner}
use Rattle.formula.specs.Typing.{result_of, right, well_made, type_of, types_in}
use Rattle.formula.specs.declared.Sort.TheVariants as sort
use Rattle.formula.proofs.Choices.{never, and_left, and_right, pick_some}
use Rattle.formula.proofs.SameType.{eq_ty→eq, eq→eq_ty}
use Rattle.meaning.proofs.Lists.{is_some, some_inj}
use Rattle.meaning.proofs.Whole.{Cmp, same}
use Rattle.meaning.proofs.Truths.{predicate_type}
use Rattle.keys.specs.Strip.{has_code, strip}
use Rattle.keys.specs.Keys as K
use Rattle.keys.specs.Keys.{Side, L, R, Z, Key, key, in_nat, in_nat1, Shape, Condition, Marked, rows_of}
use Rattle.keys.specs.Substitutes.{Relation, turned, relation, side, key_tree, meets, entry_of, literal?, met_entries, entries_by, candidates, substitutes}
use Rattle.keys.specs.Sound.{AllTyped}
use Rattle.keys.proofs.SideTypes.{type_clash, int_only, set_only, Typed, typed_sides}
use Rattle.keys.proofs.Standing.{row_by}
use Rattle.keys.proofs.StripIs.{strip_is}
use Rattle.keys.proofs.TableIs.{every}
use Rattle.keys.proofs.Worlds.{implies, number?, ordered, int_value, two_numbers, set_meets, set_value, plain_meets, crossed, equal_value, any_meets, member_value}
use Rattle.keys.proofs.Holds.{rows_have}

-- ---- rows whose condition may hold have keys of these sides: one computed test
abbrev sorted : (Condition → Bool) → (Key → Option Bool) → Marked → Bool
sorted met value m = implies (met m.condition) (is_some (value m.key_is))

abbrev number_meets : Condition → Bool
number_meets K.always = true
number_meets K.integers = true
number_meets K.sets = false
number_meets K.zero_left = true
number_meets K.zero_right = true
number_meets K.positive = true
number_meets K.negative = true

abbrev number_key : Shape → Key → Option Bool
number_key q = int_value (two_numbers q) same same same

abbrev numbers : Bool → Shape → Bool
numbers b q = every (sorted number_meets (number_key q)) (rows_of b q)

abbrev sets_only : Bool → Shape → Bool
sets_only b q = every (sorted set_meets (set_value true true)) (rows_of b q)

abbrev rest : Bool → Bool
rest b = every (sorted plain_meets (equal_value true)) (rows_of b K.equal) && every (sorted any_meets (member_value true)) (rows_of b K.in_set)

number_test : (b : Bool) → (numbers b K.equal ≡ true) × (numbers b K.less ≡ true) × (numbers b K.less_equal ≡ true) × (numbers b K.inℕ ≡ true) × (numbers b K.inℕ1 ≡ true)
unfolding rows_of
number_test = elim [ true ↦ (refl, refl, refl, refl, refl) | false ↦ (refl, refl, refl, refl, refl) ]

set_test_law : (b : Bool) → (sets_only b K.equal ≡ true) × (sets_only b K.subset ≡ true) × (sets_only b K.subset_equal ≡ true)
unfolding rows_of
set_test_law = elim [ true ↦ (refl, refl, refl) | false ↦ (refl, refl, refl) ]

rest_test : (b : Bool) → rest b ≡ true
unfolding rows_of
rest_test = elim [ true ↦ refl | false ↦ refl ]

met : (a b : Bool) → implies a b ≡ true → a ≡ true → b ≡ true
met true b e h = e
met false b e h = never h

there : (b : Bool) (o : Option Bool) → is_some (pick b o none) ≡ true → (b ≡ true) × (is_some o ≡ true)
there true o e = (refl, e)
there false o e = never e

module _ (Γ : List Ty) where
  abbrev Predicate : Tree → Type 0
  Predicate x = type_of Γ 0 x ≡ some (base T.prop)

  -- rows of which the keys are typed
  typed_rows : (q : Relation) (met? : Condition → Bool) (value : Key → Option Bool) → ((c : Condition) → meets Γ q.left q.right c ≡ true → met? c ≡ true)
      → ((k : Key) → is_some (value k) ≡ true → Predicate (key_tree q.left q.right k)) → (ms : List Marked) → every (sorted met? value) ms ≡ true → AllTyped Γ (met_entries (map (entry_of Γ q) ms))
  typed_rows q met? value M W = rows_have _ Γ q (sorted met? value) (λ m e p. W m.key_is (met (met? m.condition) _ e (M m.condition p)))

  -- ---- relations of numbers, and of sets
  number_relation : (q : Rel) (a b : Tree) → type_of Γ 0 a ≡ some (base T.int) → type_of Γ 0 b ≡ some (base T.int) → is_some (number_key K.equal (key q L R)) ≡ true → Predicate (node (rel q) (a ▹ b ▹ nil))
  unfolding type_of
  number_relation C.eq a b e f h = rw (e, f) refl
  number_relation C.lt a b e f h = rw (e, f) refl
  number_relation C.le a b e f h = rw (e, f) refl
  number_relation C.gt a b e f h = rw (e, f) refl
  number_relation C.ge a b e f h = rw (e, f) refl
  number_relation C.mem a b e f h = never h
  number_relation C.sub a b e f h = never h
  number_relation C.sube a b e f h = never h

  set_relation : (q : Rel) (a b : Tree) → type_of Γ 0 a ≡ some (base T.set) → type_of Γ 0 b ≡ some (base T.set) → is_some (set_value true true (key q L R)) ≡ true → Predicate (node (rel q) (a ▹ b ▹ nil))
  unfolding type_of
  set_relation C.eq a b e f h = rw (e, f) refl
  set_relation C.lt a b e f h = never h
  set_relation C.le a b e f h = never h
  set_relation C.gt a b e f h = never h
  set_relation C.ge a b e f h = never h
  set_relation C.mem a b e f h = never h
  set_relation C.sub a b e f h = rw (e, f) refl
  set_relation C.sube a b e f h = rw (e, f) refl

  -- ---- keys
  same_some : (q : Rel) (c d : Cmp) → is_some (ordered q c) ≡ is_some (ordered q d)
  same_some C.eq c d = refl
  same_some C.lt c d = refl
  same_some C.le c d = refl
  same_some C.gt c d = refl
  same_some C.ge c d = refl
  same_some C.mem c d = refl
  same_some C.sub c d = refl
  same_some C.sube c d = refl

  module _ (l r : Tree) (h : Bool) (e : type_of Γ 0 l ≡ some (base T.int)) (f : h ≡ true → type_of Γ 0 r ≡ some (base T.int)) where
    number_side : (a : Side) → number? h a ≡ true → type_of Γ 0 (side l r a) ≡ some (base T.int)
    unfolding type_of
    number_side L n = e
    number_side R n = f n
    number_side Z n = refl

    number_keys : (k : Key) → is_some (int_value h same same same k) ≡ true → Predicate (key_tree l r k)
    unfolding type_of
    number_keys (key q a b) p =
        let w = there (number? h a && number? h b) _ p in
        number_relation q (side l r a) (side l r b) (number_side a (and_left (number? h a) _ w.0)) (number_side b (and_right (number? h a) _ w.0)) (same_some q _ _ ∙ w.1)
    number_keys (in_nat a) p = rw (number_side a (there (number? h a) _ p).0) refl
    number_keys (in_nat1 a) p = rw (number_side a (there (number? h a) _ p).0) refl

  module _ (l r : Tree) (e : type_of Γ 0 l ≡ some (base T.set)) (f : type_of Γ 0 r ≡ some (base T.set)) where
    set_keys : (k : Key) → is_some (set_value true true k) ≡ true → Predicate (key_tree l r k)
    set_keys (key q L R) p = set_relation q l r e f p
    set_keys (key q R L) p = set_relation q r l f e p
    set_keys (key q L L) p = never p
    set_keys (key q L Z) p = never p
    set_keys (key q R R) p = never p
    set_keys (key q R Z) p = never p
    set_keys (key q Z L) p = never p
    set_keys (key q Z R) p = never p
    set_keys (key q Z Z) p = never p
    set_keys (in_nat a) p = never p
    set_keys (in_nat1 a) p = never p

  crossed_keys : (l r : Tree) → Predicate (node (rel C.eq) (l ▹ r ▹ nil)) → Predicate (node (rel C.eq) (r ▹ l ▹ nil)) → (x y : Side) → is_some (crossed true x y) ≡ true → Predicate (key_tree l r (key C.eq x y))
  crossed_keys l r e f L R p = e
  crossed_keys l r e f R L p = f
  crossed_keys l r e f L L p = never p
  crossed_keys l r e f L Z p = never p
  crossed_keys l r e f R R p = never p
  crossed_keys l r e f R Z p = never p
  crossed_keys l r e f Z L p = never p
  crossed_keys l r e f Z R p = never p
  crossed_keys l r e f Z Z p = never p

  equal_keys : (l r : Tree) → Predicate (node (rel C.eq) (l ▹ r ▹ nil)) → Predicate (node (rel C.eq) (r ▹ l ▹ nil)) → (k : Key) → is_some (equal_value true k) ≡ true → Predicate (key_tree l r k)
  equal_keys l r e f (key C.eq x y) p = crossed_keys l r e f x y p
  equal_keys l r e f (key C.lt x y) p = never p
  equal_keys l r e f (key C.le x y) p = never p
  equal_keys l r e f (key C.gt x y) p = never p
  equal_keys l r e f (key C.ge x y) p = never p
  equal_keys l r e f (key C.mem x y) p = never p
  equal_keys l r e f (key C.sub x y) p = never p
  equal_keys l r e f (key C.sube x y) p = never p
  equal_keys l r e f (in_nat a) p = never p
  equal_keys l r e f (in_nat1 a) p = never p

  member_keys : (l r : Tree) → Predicate (node (rel C.mem) (l ▹ r ▹ nil)) → (k : Key) → is_some (member_value true k) ≡ true → Predicate (key_tree l r k)
  member_keys l r e (key C.mem L R) p = e
  member_keys l r e (key C.mem L L) p = never p
  member_keys l r e (key C.mem L Z) p = never p
  member_keys l r e (key C.mem R x) p = never p
  member_keys l r e (key C.mem Z x) p = never p
  member_keys l r e (key C.eq x y) p = never p
  member_keys l r e (key C.lt x y) p = never p
  member_keys l r e (key C.le x y) p = never p
  member_keys l r e (key C.gt x y) p = never p
  member_keys l r e (key C.ge x y) p = never p
  member_keys l r e (key C.sub x y) p = never p
  member_keys l r e (key C.sube x y) p = never p
  member_keys l r e (in_nat a) p = never p
  member_keys l r e (in_nat1 a) p = never p

  -- ---- conditions
  -- a code with a type of its own gives it
  coded_type : (j : Code) (σ : Ty) → (row_of j).result ≡ is σ → (t : Tree) (τ : Ty) → has_code j t ≡ true → type_of Γ 0 t ≡ some τ → τ ≡ σ
  unfolding type_of
  coded_type j σ s (node k xs) τ h e =
      let r : (row_of k).result ≡ is σ = ap (λ (r : Row). r.result) (row_by k j (eqb-true (byte_of k) (byte_of j) h)) ∙ s in
      let os = types_in Γ (inner 0 k (size xs)) xs in
      let z = pick_some (well_made Γ 0 k (size xs) && right k os) (result_of (row_of k).result Γ (number_of k (size xs)) os) τ e in
      some_inj (sym z.1 ∙ ap (λ (ρ : Result). result_of ρ Γ (number_of k (size xs)) os) r)

  no_literal : {A : Type 0} (t : Tree) (τ : Ty) → type_of Γ 0 t ≡ some τ → eq_ty (base T.int) τ ≡ false → has_code (lit 0) t ≡ true → A
  no_literal t τ e n h = never (sym n ∙ ap (eq_ty (base T.int)) (coded_type (lit 0) (base T.int) refl t τ h e))

  number_meets_law : (l r : Tree) (τ : Ty) → type_of Γ 0 r ≡ some τ → eq_ty (base T.set) τ ≡ false → (c : Condition) → meets Γ l r c ≡ true → number_meets c ≡ true
  number_meets_law l r τ t n K.always h = refl
  number_meets_law l r τ t n K.integers h = refl
  number_meets_law l r τ t n K.sets h = type_clash (base T.set) τ _ t n h
  number_meets_law l r τ t n K.zero_left h = refl
  number_meets_law l r τ t n K.zero_right h = refl
  number_meets_law l r τ t n K.positive h = refl
  number_meets_law l r τ t n K.negative h = refl

  -- sides that are no numbers
  module _ (l r : Tree) (τ : Ty) (e : type_of Γ 0 l ≡ some τ) (f : type_of Γ 0 r ≡ some τ) (n : eq_ty (base T.int) τ ≡ false) where
    set_meets_law : (c : Condition) → meets Γ l r c ≡ true → set_meets c ≡ true
    set_meets_law K.always h = refl
    set_meets_law K.integers h = type_clash (base T.int) τ _ f n h
    set_meets_law K.sets h = refl
    set_meets_law K.zero_left h = no_literal l τ e n (and_left (has_code (lit 0) l) _ h)
    set_meets_law K.zero_right h = no_literal r τ f n (and_left (has_code (lit 0) r) _ h)
    set_meets_law K.positive h = no_literal l τ e n (and_left (has_code (lit 0) l) _ h)
    set_meets_law K.negative h = no_literal l τ e n (and_left (has_code (lit 0) l) _ h)

    plain_meets_law : eq_ty (base T.set) τ ≡ false → (c : Condition) → meets Γ l r c ≡ true → plain_meets c ≡ true
    plain_meets_law m K.always h = refl
    plain_meets_law m K.integers h = set_meets_law K.integers h
    plain_meets_law m K.sets h = type_clash (base T.set) τ _ f m h
    plain_meets_law m K.zero_left h = set_meets_law K.zero_left h
    plain_meets_law m K.zero_right h = set_meets_law K.zero_right h
    plain_meets_law m K.positive h = set_meets_law K.positive h
    plain_meets_law m K.negative h = set_meets_law K.negative h

  -- ---- each relation
  module _ (l r : Tree) (b : Bool) where
    Rows : Relation → Type 0
    Rows w = AllTyped Γ (met_entries (map (entry_of Γ w) (rows_of b w.shape)))

    numbers_typed : (w : Relation) → type_of Γ 0 w.left ≡ some (base T.int) → type_of Γ 0 w.right ≡ some (base T.int) → numbers b w.shape ≡ true → Rows w
    unfolding Rows
    numbers_typed w e f h =
        typed_rows w number_meets (number_key w.shape) (number_meets_law w.left w.right (base T.int) f refl) (number_keys w.left w.right (two_numbers w.shape) e (λ _. f)) (rows_of b w.shape) h

    natural_typed : (q : Shape) (τ : Ty) → type_of Γ 0 l ≡ some (base T.int) → type_of Γ 0 r ≡ some τ → eq_ty (base T.set) τ ≡ false → two_numbers q ≡ false → numbers b q ≡ true
        → Rows (record { shape = q; left = l; right = r })
    unfolding Rows
    natural_typed q τ e f n z h =
        typed_rows (record { shape = q; left = l; right = r }) number_meets (number_key q) (number_meets_law l r τ f n) (number_keys l r (two_numbers q) e (λ y. never (sym z ∙ y))) (rows_of b q) h

    sets_typed : (w : Relation) → type_of Γ 0 w.left ≡ some (base T.set) → type_of Γ 0 w.right ≡ some (base T.set) → sets_only b w.shape ≡ true → Rows w
    unfolding Rows
    sets_typed w e f h = typed_rows w set_meets (set_value true true) (set_meets_law w.left w.right (base T.set) e f refl) (set_keys w.left w.right e f) (rows_of b w.shape) h

    plain_typed : (τ : Ty) → type_of Γ 0 l ≡ some τ → type_of Γ 0 r ≡ some τ → eq_ty (base T.int) τ ≡ false → eq_ty (base T.set) τ ≡ false → among? (kind_of τ) any_data ≡ true → Rows (turned C.eq l r)
    unfolding Rows type_of
    plain_typed τ e f n m d =
        let s = eq→eq_ty τ τ refl in
        typed_rows (turned C.eq l r) plain_meets (equal_value true) (plain_meets_law l r τ e f n m) (equal_keys l r (rw (e, f, d, s) refl) (rw (f, e, d, s) refl)) (rows_of b K.equal) (and_left _ _ (rest_test b))

    equal_typed : Typed Γ C.eq l r → Rows (turned C.eq l r)
    equal_typed t = by t.right_type (t.left_is ∙ ap some e) t.right_is (ap (λ (τ : Ty). among? (kind_of τ) any_data) (sym e) ∙ t.first_may)
      where
        e : t.left_type ≡ t.right_type
        e = eq_ty→eq t.left_type t.right_type t.second_may

        by : (τ : Ty) → type_of Γ 0 l ≡ some τ → type_of Γ 0 r ≡ some τ → among? (kind_of τ) any_data ≡ true → Rows (turned C.eq l r)
        by (base T.prop) tl tr d = never d
        by (base T.int) tl tr d = numbers_typed (turned C.eq l r) tl tr (number_test b).0
        by (base T.boo) tl tr d = plain_typed (base T.boo) tl tr refl refl d
        by (base T.set) tl tr d = sets_typed (turned C.eq l r) tl tr (set_test_law b).0
        by (base T.nats) tl tr d = never d
        by (base T.nats1) tl tr d = never d
        by (pair σ ρ) tl tr d = plain_typed (pair σ ρ) tl tr refl refl d

    left_int : (q : Rel) (t : Typed Γ q l r) → among? (kind_of t.left_type) (one T.int ∷ []) ≡ true → type_of Γ 0 l ≡ some (base T.int)
    left_int q t h = t.left_is ∙ ap some (int_only t.left_type h)

    right_int : (q : Rel) (t : Typed Γ q l r) → among? (kind_of t.right_type) (one T.int ∷ []) ≡ true → type_of Γ 0 r ≡ some (base T.int)
    right_int q t h = t.right_is ∙ ap some (int_only t.right_type h)

    left_set : (q : Rel) (t : Typed Γ q l r) → among? (kind_of t.left_type) (one T.set ∷ []) ≡ true → type_of Γ 0 l ≡ some (base T.set)
    left_set q t h = t.left_is ∙ ap some (set_only t.left_type h)

    right_set : (q : Rel) (t : Typed Γ q l r) → among? (kind_of t.right_type) (one T.set ∷ []) ≡ true → type_of Γ 0 r ≡ some (base T.set)
    right_set q t h = t.right_is ∙ ap some (set_only t.right_type h)

    member_typed : Typed Γ C.mem l r → Predicate (node (rel C.mem) (l ▹ r ▹ nil)) → Rows (turned C.mem l r)
    unfolding Rows
    member_typed t p = go (has_code (con C.nat) r) (has_code (con C.nat1) r) refl refl
      where
        x : type_of Γ 0 l ≡ some (base T.int)
        x = left_int C.mem t t.first_may

        go : (m n : Bool) → has_code (con C.nat) r ≡ m → has_code (con C.nat1) r ≡ n → AllTyped Γ (met_entries (map (entry_of Γ (record { shape = pick m K.inℕ (pick n K.inℕ1 K.in_set); left = l; right = r })) (rows_of b (pick m K.inℕ (pick n K.inℕ1 K.in_set)))))
        go true n h k = natural_typed K.inℕ (base T.nats) x (t.right_is ∙ ap some (coded_type (con C.nat) (base T.nats) refl r t.right_type h t.right_is)) refl refl (number_test b).3
        go false true h k = natural_typed K.inℕ1 (base T.nats1) x (t.right_is ∙ ap some (coded_type (con C.nat1) (base T.nats1) refl r t.right_type k t.right_is)) refl refl (number_test b).4
        go false false h k =
            typed_rows (record { shape = K.in_set; left = l; right = r }) any_meets (member_value true) (λ c h. refl) (member_keys l r p) (rows_of b K.in_set) (and_right (every (sorted plain_meets (equal_value true)) (rows_of b K.equal)) _ (rest_test b))

    relation_typed : (q : Rel) → Typed Γ q l r → Predicate (node (rel q) (l ▹ r ▹ nil)) → Rows (turned q l r)
    relation_typed C.eq t p = equal_typed t
    relation_typed C.lt t p = numbers_typed (turned C.lt l r) (left_int C.lt t t.first_may) (right_int C.lt t t.second_may) (number_test b).1
    relation_typed C.le t p = numbers_typed (turned C.le l r) (left_int C.le t t.first_may) (right_int C.le t t.second_may) (number_test b).2
    relation_typed C.gt t p = numbers_typed (turned C.gt l r) (right_int C.gt t t.second_may) (left_int C.gt t t.first_may) (number_test b).1
    relation_typed C.ge t p = numbers_typed (turned C.ge l r) (right_int C.ge t t.second_may) (left_int C.ge t t.first_may) (number_test b).2
    relation_typed C.mem t p = member_typed t p
    relation_typed C.sub t p = sets_typed (turned C.sub l r) (left_set C.sub t t.first_may) (right_set C.sub t t.second_may) (set_test_law b).1
    relation_typed C.sube t p = sets_typed (turned C.sube l r) (left_set C.sube t t.first_may) (right_set C.sube t t.second_may) (set_test_law b).2

  -- ---- a source without ¬
  self_typed : (x : Tree) (b : Bool) → Predicate x → AllTyped Γ (met_entries (pick (literal? x) [] (some (record { key = x; value = b }) ∷ [])))
  self_typed x b e = go (literal? x)
    where
      go : (v : Bool) → AllTyped Γ (met_entries (pick v [] (some (record { key = x; value = b }) ∷ [])))
      go true = tt
      go false = (e, tt)

  source_typed : (x : Tree) (b : Bool) → Predicate x → AllTyped Γ (met_entries (entries_by Γ b x (relation x)))
  unfolding Rows
  source_typed (node (con c) xs) b e = self_typed (node (con c) xs) b e
  source_typed (node (ident k) xs) b e = self_typed (node (ident k) xs) b e
  source_typed (node (bound k) xs) b e = self_typed (node (bound k) xs) b e
  source_typed (node (lit w) xs) b e = self_typed (node (lit w) xs) b e
  source_typed (node (rel q) nil) b e = self_typed (node (rel q) nil) b e
  source_typed (node (rel q) (l ▹ nil)) b e = self_typed (node (rel q) (l ▹ nil)) b e
  source_typed (node (rel q) (l ▹ r ▹ nil)) b e = relation_typed l r b q (typed_sides Γ q l r (base T.prop) e) e
  source_typed (node (rel q) (l ▹ r ▹ x ▹ xs)) b e = self_typed (node (rel q) (l ▹ r ▹ x ▹ xs)) b e
  source_typed (node (fun f) xs) b e = self_typed (node (fun f) xs) b e
  source_typed (node (many m) xs) b e = self_typed (node (many m) xs) b e
  source_typed (node (qu v k) xs) b e = self_typed (node (qu v k) xs) b e

-- THE THEOREM
pub substitutes_typed : (types : List ℕ) (x : Tree) (starts : Bool) → Formula types sort.Predicate x → AllTyped (types_of types) (substitutes types starts x)
unfolding substitutes candidates
substitutes_typed types x starts F =
    let B = strip_is (encode x) types x 32 32 0 starts F.type (omega arith) F.short F.formed ([], sym (append-nil (encode x))) F.typed in
    let z = strip starts x in
    let G : Formula types sort.Predicate z.predicate = record { formed = B.formed; short = B.short; type = B.type; typed = B.typed } in
    source_typed (types_of types) z.predicate z.value (predicate_type types z.predicate G)
