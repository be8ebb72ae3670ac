-- THE THEOREM: an accepted formula has exactly one value, of its type, at each valuation and each choice of its bound variables.
use Prim.Native.Nat.{ℕ, zero, suc, ◌+◌}
use mathlib.Core.Path.{◌≡◌, refl, ap, ap₂, sym, ◌∙◌, subst}
use mathlib.Core.List.{List, [], ◌∷◌, map}
use mathlib.Core.Bool.{Bool, true, ◌&&◌}
use mathlib.Core.Option.{Option, some, none}
use native.Mathlib.Omega.{arith}
use lib.ListN.{length}
use lib.IntN.{ℤ}
use borrow.Author.Tests.{leb-false}
use Rattle.formula.specs.Codes as C
use Rattle.formula.specs.Codes.{Con, Rel, Fun, Many, Bind, Code, con, ident, bound, lit, rel, fun, many, qu}
use Rattle.formula.specs.Types as T
use Rattle.formula.specs.Types.{Ty, base, one, kind_of, among?, among, type_at, types_of}
use Rattle.formula.specs.NodeTable.{row_of}
use Rattle.formula.specs.Tree.{Tree, node, Trees, nil, ◌▹◌, size, number_of}
use Rattle.formula.specs.Formed.{inner}
use Rattle.formula.specs.Typing.{result_of, right, well_made, type_of, types_in}
use Rattle.formula.proofs.Choices.{none_some, and_left, and_right, pick_some}
use Rattle.formula.proofs.DataType.{types_of_data}
use Rattle.formula.proofs.GoodType.{goods, typed_goods}
use Rattle.meaning.specs.Defined.{◌>>=◌, nth, each}
use Rattle.meaning.specs.Value.{Val, truth, int, set, ty_of}
use Rattle.meaning.specs.Operators.{constant, signed, relation, function, several, all_true, some_true}
use Rattle.meaning.specs.Fold.{fold, folds}
use Rattle.meaning.specs.Valuation.{interval, Valuation}
use Rattle.meaning.specs.Meaning.{Sense, choices, truth_at, int_at, guarded, collect, binder, values, sense, eval, Meaning}
use Rattle.meaning.proofs.Lists.{All, All2, all_map, all_concat, some_inj, two_steps, each_some, nth_there}
use Rattle.meaning.proofs.Relate.{folds_size}
use Rattle.meaning.proofs.NodeRows.{made_arity, made_number, con_arity, con_result, rel_row_law, fun_row_law, many_row_law, many_count}
use Rattle.meaning.proofs.Operands.{Has, read_truth, read_int, relation_has, function_has, several_has, then_has}

-- ---- choices
pub choices_length : (I : List ℤ) (n : ℕ) (ρ : List ℤ) → All (λ σ. length σ ≡ length ρ + n) (choices I n ρ)
choices_length I zero ρ = (omega arith, tt)
choices_length I (suc n) ρ = all_concat (λ σ. length σ ≡ length ρ + suc n) (λ z. choices I n (z ∷ ρ)) I (λ z. all_map (choices I n (z ∷ ρ)) (λ σ e. e ∙ omega arith) (choices_length I n (z ∷ ρ)))

-- ---- readings that have a value of a type at every d values
abbrev pub At : ℕ → Sense → Ty → Type 0
At d s τ = (ρ : List ℤ) → length ρ ≡ d → Has (s ρ) τ

values_has : (d : ℕ) (ss : List Sense) (τs : List Ty) → All2 (At d) ss τs → (ρ : List ℤ) → length ρ ≡ d
    → (vs : List Val) × (values ss ρ ≡ some vs) × (map ty_of vs ≡ τs) × (length vs ≡ length ss)
values_has d [] [] a ρ q = ([], refl, refl, refl)
values_has d [] (τ ∷ τs) a ρ q = absurd a
values_has d (s ∷ ss) [] a ρ q = absurd a
values_has d (s ∷ ss) (τ ∷ τs) a ρ q =
    let x = a.0 ρ q in
    let y = values_has d ss τs a.1 ρ q in
    (x.0 ∷ y.0, two_steps (s ρ) (values ss ρ) ◌∷◌ x.1 y.1, ap₂ ◌∷◌ x.2 y.2, ap suc y.3)

nth_has : (vs : List Val) (k : ℕ) (τ : Ty) → type_at (map ty_of vs) k ≡ some τ → Has (nth vs k) τ
nth_has [] k τ e = none_some e
nth_has (v ∷ vs) zero τ e = (v, refl, some_inj e)
nth_has (v ∷ vs) (suc k) τ e = nth_has vs k τ e

-- ---- binders
module _ {A B : Type 0} (R : A → B → Type 0) (P : List A → List B → Type 0) where
  one_operand : ((a : A) (b : B) → R a b → P (a ∷ []) (b ∷ [])) → (xs : List A) (ys : List B) → All2 R xs ys → length xs ≡ 1 → P xs ys
  one_operand h [] ys a n = absurd (omega arith)
  one_operand h (x ∷ []) [] a n = absurd a
  one_operand h (x ∷ []) (y ∷ []) a n = h x y a.0
  one_operand h (x ∷ []) (y ∷ z ∷ zs) a n = absurd a.1
  one_operand h (x ∷ w ∷ xs) ys a n = absurd (omega arith)

  two_operands : ((a a' : A) (b b' : B) → R a b → R a' b' → P (a ∷ a' ∷ []) (b ∷ b' ∷ [])) → (xs : List A) (ys : List B) → All2 R xs ys → length xs ≡ 2 → P xs ys
  two_operands h [] ys a n = absurd (omega arith)
  two_operands h (x ∷ []) ys a n = absurd (omega arith)
  two_operands h (x ∷ w ∷ []) [] a n = absurd a
  two_operands h (x ∷ w ∷ []) (y ∷ []) a n = absurd a.1
  two_operands h (x ∷ w ∷ []) (y ∷ z ∷ []) a n = h x w y z a.0 a.1.0
  two_operands h (x ∷ w ∷ []) (y ∷ z ∷ u ∷ us) a n = absurd a.1.1
  two_operands h (x ∷ w ∷ v ∷ xs) ys a n = absurd (omega arith)

truth_at_law : (s : Sense) (ρ : List ℤ) (τ : Ty) → among? (kind_of τ) (one T.prop ∷ []) ≡ true → Has (s ρ) τ → (b : Bool) × (truth_at s ρ ≡ some b)
truth_at_law s ρ τ e h = let x = read_truth h.0 (rw h.2 e) in (x.0, rw h.1 x.1)

int_at_law : (s : Sense) (ρ : List ℤ) (τ : Ty) → among? (kind_of τ) (one T.int ∷ []) ≡ true → Has (s ρ) τ → (z : ℤ) × (int_at s ρ ≡ some z)
int_at_law s ρ τ e h = let x = read_int h.0 (rw h.2 e) in (x.0, rw h.1 x.1)

pair_at : (o : Option Bool) (p : Option ℤ) → (b : Bool) × (o ≡ some b) → (z : ℤ) × (p ≡ some z) → (x : Bool × ℤ) × ((o >>= λ b. p >>= λ z. some (b, z)) ≡ some x)
pair_at o p b z = ((b.0, z.0), rw (b.1, z.1))

module _ (ρs : List (List ℤ)) where
  quantified : (f : List Bool → Bool) (s : Sense) (τ : Ty) → among? (kind_of τ) (one T.prop ∷ []) ≡ true → All (λ ρ. Has (s ρ) τ) ρs
      → Has (each (truth_at s) ρs >>= λ bs. some (truth (f bs))) (base T.prop)
  quantified f s τ e h =
      let k = each_some (truth_at s) ρs (all_map ρs (λ ρ. truth_at_law s ρ τ e) h) in
      (truth (f k.0), rw k.1, refl)

  both_at : (p s : Sense) (τ υ : Ty) → among? (kind_of τ) (one T.prop ∷ []) ≡ true → among? (kind_of υ) (one T.int ∷ []) ≡ true
      → (l : List (List ℤ)) → All (λ ρ. Has (p ρ) τ) l → All (λ ρ. Has (s ρ) υ) l → All (λ ρ. (x : Bool × ℤ) × (guarded p s ρ ≡ some x)) l
  both_at p s τ υ e f [] a b = tt
  both_at p s τ υ e f (ρ ∷ l) a b =
      (pair_at (truth_at p ρ) (int_at s ρ) (truth_at_law p ρ τ e a.0) (int_at_law s ρ υ f b.0), both_at p s τ υ e f l a.1 b.1)

  collected : (p s : Sense) (τ υ : Ty) → among? (kind_of τ) (one T.prop ∷ []) ≡ true → among? (kind_of υ) (one T.int ∷ []) ≡ true
      → All (λ ρ. Has (p ρ) τ) ρs → All (λ ρ. Has (s ρ) υ) ρs → Has (binder C.compr (p ∷ s ∷ []) ρs) (base T.set)
  collected p s τ υ e f a b =
      let k = each_some (guarded p s) ρs (both_at p s τ υ e f ρs a b) in
      (set (collect k.0), rw k.1, refl)

-- ---- every node
module _ {types : List ℕ} (ν : Valuation types) where
  abbrev Γ : List Ty
  Γ = types_of types

  -- of operands that have values of these types, a node that the table allows has a value of the type that the table says
  module _ (d : ℕ) (τ : Ty) where
    abbrev Node : Code → List Sense → List Ty → Type 0
    Node k ss τs = goods τs ≡ true → well_made Γ d k (length ss) ≡ true → right k (map some τs) ≡ true
        → result_of (row_of k).result Γ (number_of k (length ss)) (map some τs) ≡ some τ → At d (sense ν k ss) τ

    con_has : (c : Con) (ss : List Sense) (τs : List Ty) → Node (con c) ss τs
    con_has c [] τs g m e q ρ l = (constant c, refl, some_inj (rw (con_result c) at q))
    con_has c (s ∷ ss) τs g m e q ρ l = let n = rw (con_arity c) at (made_arity Γ d (con c) (suc (length ss)) m) in absurd (omega arith)

    ident_has : (k : ℕ) (ss : List Sense) (τs : List Ty) → Node (ident k) ss τs
    ident_has k [] τs g m e q ρ l = nth_has ν.ids k τ (rw ν.fits q)
    ident_has k (s ∷ ss) τs g m e q ρ l = let n = made_arity Γ d (ident k) (suc (length ss)) m in absurd (omega arith)

    bound_has : (i : ℕ) (ss : List Sense) (τs : List Ty) → Node (bound i) ss τs
    bound_has i [] τs g m e q ρ l =
        let h = leb-false d i (made_number Γ d (bound i) 0 m) in
        let z = nth_there ρ i (omega arith) in
        (int z.0, rw z.1, some_inj q)
    bound_has i (s ∷ ss) τs g m e q ρ l = let n = made_arity Γ d (bound i) (suc (length ss)) m in absurd (omega arith)

    lit_has : (w : ℕ) (ss : List Sense) (τs : List Ty) → Node (lit w) ss τs
    lit_has w [] τs g m e q ρ l = (int (signed w), refl, some_inj q)
    lit_has w (s ∷ ss) τs g m e q ρ l = let n = made_arity Γ d (lit w) (suc (length ss)) m in absurd (omega arith)

    rel_has : (r : Rel) (ss : List Sense) (τs : List Ty) → All2 (At d) ss τs → Node (rel r) ss τs
    rel_has r ss τs a g m e q ρ l =
        let v = values_has d ss τs a ρ l in
        let n : length ss ≡ 2 = rw (rel_row_law r 0).0 at (made_arity Γ d (rel r) (length ss) m) in
        let t = some_inj (rw (rel_row_law r 0).1 at q) in
        subst (Has (sense ν (rel r) ss ρ)) t
        (then_has (base T.prop) (values ss ρ) (relation r) v.1 (relation_has v.0 r (rw v.2 g) (v.3 ∙ n) (rw v.2 e)))

    fun_has : (f : Fun) (ss : List Sense) (τs : List Ty) → All2 (At d) ss τs → Node (fun f) ss τs
    fun_has f ss τs a g m e q ρ l =
        let v = values_has d ss τs a ρ l in
        let n = made_arity Γ d (fun f) (length ss) m in
        then_has τ (values ss ρ) (function f) v.1 (function_has v.0 f Γ τ (rw v.2 e) (v.3 ∙ n) (rw v.2 q))

    many_has : (f : Many) (ss : List Sense) (τs : List Ty) → All2 (At d) ss τs → Node (many f) ss τs
    many_has f ss τs a g m e q ρ l =
        let v = values_has d ss τs a ρ l in
        let n = many_count f (length ss) (length Γ) d (made_number Γ d (many f) (length ss) m) in
        then_has τ (values ss ρ) (several f) v.1 (several_has v.0 f Γ (length ss) τ (rw v.2 e) (rw v.3 n) (rw v.2 q))

    -- all choices of n more variables
    extended : (n : ℕ) (s : Sense) (σ : Ty) → At (d + n) s σ → (ρ : List ℤ) → length ρ ≡ d → All (λ r. Has (s r) σ) (choices (interval ν.lo ν.hi) n ρ)
    extended n s σ h ρ l = all_map (choices (interval ν.lo ν.hi) n ρ) (λ r e. h r (e ∙ ap (λ (m : ℕ). m + n) l)) (choices_length (interval ν.lo ν.hi) n ρ)

    quant_has : (f : List Bool → Bool) (n : ℕ) (s : Sense) (σ : Ty) → At (d + n) s σ → right (qu C.all n) (some σ ∷ []) ≡ true → base T.prop ≡ τ → (ρ : List ℤ) → length ρ ≡ d
        → Has (each (truth_at s) (choices (interval ν.lo ν.hi) n ρ) >>= λ bs. some (truth (f bs))) τ
    quant_has f n s σ h e q ρ l =
        let k = quantified (choices (interval ν.lo ν.hi) n ρ) f s σ (and_left _ true e) (extended n s σ h ρ l) in
        (k.0, k.1, k.2 ∙ q)

    qu_has : (b : Bind) (n : ℕ) (ss : List Sense) (τs : List Ty) → All2 (At (inner d (qu b n) (length ss))) ss τs → Node (qu b n) ss τs
    qu_has C.all n ss τs a g m e q ρ l =
        one_operand (At (d + n)) (λ ss τs. right (qu C.all n) (map some τs) ≡ true → Has (sense ν (qu C.all n) ss ρ) τ)
        (λ s σ h e. quant_has all_true n s σ h e (some_inj q) ρ l) ss τs a (made_arity Γ d (qu C.all n) (length ss) m) e
    qu_has C.ex n ss τs a g m e q ρ l =
        one_operand (At (d + n)) (λ ss τs. right (qu C.ex n) (map some τs) ≡ true → Has (sense ν (qu C.ex n) ss ρ) τ)
        (λ s σ h e. quant_has some_true n s σ h e (some_inj q) ρ l) ss τs a (made_arity Γ d (qu C.ex n) (length ss) m) e
    qu_has C.compr n ss τs a g m e q ρ l =
        two_operands (At (d + n)) (λ ss τs. right (qu C.compr n) (map some τs) ≡ true → Has (sense ν (qu C.compr n) ss ρ) τ)
        (λ p s σ υ h i e.
        let k = collected (choices (interval ν.lo ν.hi) n ρ) p s σ υ (and_left _ _ e) (and_left _ true (and_right (among? (kind_of σ) (one T.prop ∷ [])) _ e)) (extended n p σ h ρ l) (extended n s υ i ρ l) in
        (k.0, k.1, k.2 ∙ some_inj q))
        ss τs a (made_arity Γ d (qu C.compr n) (length ss) m) e

    node_has : (k : Code) (ss : List Sense) (τs : List Ty) → All2 (At (inner d k (length ss))) ss τs → Node k ss τs
    node_has (con c) ss τs a = con_has c ss τs
    node_has (ident k) ss τs a = ident_has k ss τs
    node_has (bound i) ss τs a = bound_has i ss τs
    node_has (lit w) ss τs a = lit_has w ss τs
    node_has (rel r) ss τs a = rel_has r ss τs (subst (λ (e : ℕ). All2 (At e) ss τs) (omega (arith, (rel_row_law r 0).2)) a)
    node_has (fun f) ss τs a = fun_has f ss τs (subst (λ (e : ℕ). All2 (At e) ss τs) (omega (arith, fun_row_law f 0)) a)
    node_has (many m) ss τs a = many_has m ss τs (subst (λ (e : ℕ). All2 (At e) ss τs) (omega (arith, many_row_law m (length ss))) a)
    node_has (qu b n) ss τs a = qu_has b n ss τs a

  mutual
    unfolding type_of fold

    pub has_value : (x : Tree) (d : ℕ) (τ : Ty) → type_of Γ d x ≡ some τ → At d (eval ν x) τ
    has_value (node k xs) d τ e =
        let n = size xs in
        let os = types_in Γ (inner d k n) xs in
        let w = pick_some (well_made Γ d k n && right k os) (result_of (row_of k).result Γ (number_of k n) os) τ e in
        let m = and_right (well_made Γ d k n) (right k os) w.0 in
        let g = typed_goods xs Γ (inner d k n) (among (row_of k).first) (row_of k).rest (types_of_data types) m in
        let a = have_values xs (inner d k n) g.0 g.1 in
        let z = folds_size (sense ν) xs in
        node_has d τ k (folds (sense ν) xs) g.0 (rw z a) g.2 (rw z (and_left (well_made Γ d k n) _ w.0)) (rw g.1 at m) (rw z (rw g.1 at w.1))

    have_values : (xs : Trees) (d : ℕ) (τs : List Ty) → types_in Γ d xs ≡ map some τs → All2 (At d) (folds (sense ν) xs) τs
    have_values nil d [] e = tt
    have_values nil d (τ ∷ τs) e = absurd (let z : ◌≡◌ {A = ℕ} 0 1 = cc in omega (arith, z))
    have_values (x ▹ xs) d [] e = absurd (let z : ◌≡◌ {A = ℕ} 0 1 = cc in omega (arith, z))
    have_values (x ▹ xs) d (τ ∷ τs) e = (has_value x d τ (cc), have_values xs d τs (cc))

  module _ (d : ℕ) (τ : Ty) (x : Tree) (e : type_of Γ d x ≡ some τ) (ρ : List ℤ) (l : length ρ ≡ d) where
    -- a formula of type τ under d variables has a value of type τ at each choice of d integers for them, ..
    pub has : Meaning ν d τ x e ρ l
    has = let h = has_value x d τ e ρ l in record { value = h.0; is = h.1; type = h.2 }

    -- .. and one only: it is what the fold reads
    pub one_value : (m : Meaning ν d τ x e ρ l) (v : Val) → eval ν x ρ ≡ some v → m.value ≡ v
    one_value m v q = some_inj (sym m.is ∙ q)

    -- no law about typed formulas meets the fold's "no value"
    pub not_none : eval ν x ρ ≡ none → ⊥
    not_none q = none_some (sym q ∙ has.is)

    -- the meaning, as a function of typed formulas alone
    pub meaning : Val
    meaning = has.value

    pub meaning_type : ty_of meaning ≡ τ
    unfolding meaning
    meaning_type = has.type

    -- on typed formulas it is the fold
    pub meaning_is : eval ν x ρ ≡ some meaning
    unfolding meaning
    meaning_is = has.is
