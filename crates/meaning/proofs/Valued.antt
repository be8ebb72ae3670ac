-- Nothing else has a value: a tree that the table allows and that is read to a value has a type, the type of that value.
use Prim.Native.Nat.{ℕ, zero, suc, ◌+◌, ◌-◌, ◌≤◌}
use mathlib.Core.Path.{◌≡◌, refl, ap, ap₂, sym, ◌∙◌, subst}
use mathlib.Core.List.Memᴰ
use mathlib.Core.List.{List, [], ◌∷◌, map}
use mathlib.Core.Bool.{Bool, true}
use mathlib.Core.Option.{Option, some, none}
use native.Mathlib.Omega.{arith}
use lib.ListN.{length, length-map}
use lib.IntN.{ℤ, pos, negsuc}
use lib.Signed.{le_z}
use borrow.Author.Tests.{le-leb}
use Rattle.formula.specs.Codes as C
use Rattle.formula.specs.Codes.{Rel, Fun, Many, Bind, Code, con, ident, bound, lit, rel, fun, many, qu}
use Rattle.formula.specs.Types as T
use Rattle.formula.specs.Types.{Ty, one, kind_of, among?, among, these, may_all, type_of_byte, types_of}
use Rattle.formula.specs.NodeTable.{any_data}
use Rattle.formula.specs.Tree.{Tree, node, Trees, nil, ◌▹◌, size}
use Rattle.formula.specs.Formed.{Allowed, Formed, AllFormed, inner}
use Rattle.formula.specs.Typing.{right, type_of, types_in}
use Rattle.formula.specs.declared.Sort.{Sort}
use Rattle.formula.proofs.Choices.{none_some, and_both}
use Rattle.formula.proofs.SameType.{eq→eq_ty}
use Rattle.formula.proofs.NodeType.{node_type, allowed_made}
use Rattle.meaning.specs.Defined.{◌>>=◌, nth, each, nullary}
use Rattle.meaning.specs.Value.{Val, truth, int, boo, set, nats, nats1, pair, ty_of, as_truth, as_int, as_boo, as_set, as_pair, as_data}
use Rattle.meaning.specs.Operators.{equal, member_of, relation, function, several}
use Rattle.meaning.specs.Fold.{fold, folds}
use Rattle.meaning.specs.Valuation.{interval, Valuation}
use Rattle.meaning.specs.Meaning.{Sense, choices, truth_at, int_at, guarded, binder, values, sense, eval}
use Rattle.meaning.proofs.Lists.{is_some, some_inj, step_inv}
use Rattle.meaning.proofs.Relate.{folds_size}
use Rattle.meaning.proofs.NodeRows.{con_row_law, rel_row_law, fun_row_law, many_row_law}
use Rattle.meaning.proofs.Operands.{is_int, is_boo, is_set, is_pair, reads_truth, reads_int, reads_set, reads_data, reads_member, was_read}
use Rattle.meaning.proofs.Has.{has_value}
use Rattle.meaning.proofs.Members.{In, in_concat, each_in}
use Rattle.meaning.proofs.Interval.{in_interval}

-- ---- what an operator was given, where it gave a value
equal_kinds : (v w : Val) (b : Bool) → equal v w ≡ some b → (among? (kind_of (ty_of v)) any_data ≡ true) × (ty_of v ≡ ty_of w)
unfolding equal
equal_kinds (truth c) w b e = none_some e
equal_kinds (int z) w b e = let i = step_inv (as_int w) e in (refl, ap ty_of (is_int w i.0 i.1))
equal_kinds (boo c) w b e = let i = step_inv (as_boo w) e in (refl, ap ty_of (is_boo w i.0 i.1))
equal_kinds (set s) w b e = let i = step_inv (as_set w) e in (refl, ap ty_of (is_set w i.0 i.1))
equal_kinds nats w b e = none_some e
equal_kinds nats1 w b e = none_some e
equal_kinds (pair v₁ v₂) w b e =
    let i = step_inv (as_pair w) e in
    let j = step_inv (equal v₁ i.0.0) i.2 in
    let k = step_inv (equal v₂ i.0.1) j.2 in
    (refl, ap₂ T.pair (equal_kinds v₁ i.0.0 j.0 j.1).1 (equal_kinds v₂ i.0.1 k.0 k.1).1 ∙ ap ty_of (is_pair w i.0 i.1))

abbrev Types : List Val → List (Option Ty)
Types vs = map some (map ty_of vs)

eq_right : (vs : List Val) (u : Val) → relation C.eq vs ≡ some u → right (rel C.eq) (Types vs) ≡ true
eq_right [] u e = none_some e
eq_right (v ∷ []) u e = none_some e
eq_right (v ∷ w ∷ []) u e =
    let i = step_inv (equal v w) e in
    let k = equal_kinds v w i.0 i.1 in
    and_both _ _ k.0 (and_both _ _ (eq→eq_ty (ty_of v) (ty_of w) k.1) refl)
eq_right (v ∷ w ∷ x ∷ vs) u e = none_some e

mem_right : (vs : List Val) (u : Val) → relation C.mem vs ≡ some u → right (rel C.mem) (Types vs) ≡ true
mem_right [] u e = none_some e
mem_right (v ∷ []) u e = none_some e
mem_right (v ∷ w ∷ []) u e =
    let i = step_inv (as_int v) e in
    let j = step_inv (member_of i.0 w) i.2 in
    and_both _ _ (sym (reads_int v) ∙ ap is_some i.1) (and_both _ _ (sym (reads_member i.0 w) ∙ ap is_some j.1) refl)
mem_right (v ∷ w ∷ x ∷ vs) u e = none_some e

module _ (vs : List Val) (u : Val) where
  by_truths : (f : List Bool → Option Val) → (each as_truth vs >>= f) ≡ some u → may_all (among (one T.prop ∷ [])) (these (one T.prop ∷ [])) (Types vs) ≡ true
  by_truths f e = let i = step_inv (each as_truth vs) e in was_read as_truth (one T.prop ∷ []) reads_truth vs i.0 i.1

  by_ints : (f : List ℤ → Option Val) → (each as_int vs >>= f) ≡ some u → may_all (among (one T.int ∷ [])) (these (one T.int ∷ [])) (Types vs) ≡ true
  by_ints f e = let i = step_inv (each as_int vs) e in was_read as_int (one T.int ∷ []) reads_int vs i.0 i.1

  by_sets : (f : List (List ℤ) → Option Val) → (each as_set vs >>= f) ≡ some u → may_all (among (one T.set ∷ [])) (these (one T.set ∷ [])) (Types vs) ≡ true
  by_sets f e = let i = step_inv (each as_set vs) e in was_read as_set (one T.set ∷ []) reads_set vs i.0 i.1

  by_data : (f : List Val → Option Val) → (each as_data vs >>= f) ≡ some u → may_all (among any_data) (these any_data) (Types vs) ≡ true
  by_data f e = let i = step_inv (each as_data vs) e in was_read as_data any_data reads_data vs i.0 i.1

  relation_right : (r : Rel) → relation r vs ≡ some u → right (rel r) (Types vs) ≡ true
  relation_right C.eq e = eq_right vs u e
  relation_right C.lt e = by_ints _ e
  relation_right C.le e = by_ints _ e
  relation_right C.gt e = by_ints _ e
  relation_right C.ge e = by_ints _ e
  relation_right C.mem e = mem_right vs u e
  relation_right C.sub e = by_sets _ e
  relation_right C.sube e = by_sets _ e

  function_right : (f : Fun) → function f vs ≡ some u → right (fun f) (Types vs) ≡ true
  function_right C.neg e = by_truths _ e
  function_right C.imp e = by_truths _ e
  function_right C.iff e = by_truths _ e
  function_right C.minus e = by_ints _ e
  function_right C.uminus e = by_ints _ e
  function_right C.diff e = by_sets _ e
  function_right C.bool e = by_truths _ e
  function_right C.mapsto e = by_data _ e

  several_right : (m : Many) → several m vs ≡ some u → right (many m) (Types vs) ≡ true
  several_right C.and e = by_truths _ e
  several_right C.or e = by_truths _ e
  several_right C.add e = by_ints _ e
  several_right C.mul e = by_ints _ e
  several_right C.union e = by_sets _ e
  several_right C.inter e = by_sets _ e
  several_right C.ext e = by_ints _ e

-- ---- there is a choice, since lo ≤ hi
le_z_refl : (z : ℤ) → le_z z z ≡ true
le_z_refl (pos a) = le-leb a a (omega arith)
le_z_refl (negsuc a) = le-leb a a (omega arith)

a_choice : (I : List ℤ) (z : ℤ) → In z I → (n : ℕ) (ρ : List ℤ) → (σ : List ℤ) × In σ (choices I n ρ) × (length σ ≡ length ρ + n)
a_choice I z m zero ρ = (ρ, Memᴰ.head refl, omega arith)
a_choice I z m (suc n) ρ = let r = a_choice I z m n (z ∷ ρ) in let h = r.2 in (r.0, in_concat (λ z. choices I n (z ∷ ρ)) I m r.1, omega arith)

some_truth : (o : Option Val) (b : Bool) → (o >>= as_truth) ≡ some b → (v : Val) × (o ≡ some v) × (among? (kind_of (ty_of v)) (one T.prop ∷ []) ≡ true)
some_truth o b e = let i = step_inv o e in (i.0, i.1, sym (reads_truth i.0) ∙ ap is_some i.2)

some_int : (o : Option Val) (z : ℤ) → (o >>= as_int) ≡ some z → (v : Val) × (o ≡ some v) × (among? (kind_of (ty_of v)) (one T.int ∷ []) ≡ true)
some_int o z e = let i = step_inv o e in (i.0, i.1, sym (reads_int i.0) ∙ ap is_some i.2)

nth_none : {A : Type 0} (l : List A) (k : ℕ) → length l ≤ k → nth l k ≡ none
nth_none [] k h = refl
nth_none (x ∷ l) zero h = absurd (omega arith)
nth_none (x ∷ l) (suc k) h = nth_none l k (omega arith)

values_one : (p : Sense) (σ : List ℤ) (v : Val) → p σ ≡ some v → values (p ∷ []) σ ≡ some (v ∷ [])
values_one p σ v e = rw e

values_two : (p s : Sense) (σ : List ℤ) (v w : Val) → p σ ≡ some v → s σ ≡ some w → values (p ∷ s ∷ []) σ ≡ some (v ∷ w ∷ [])
values_two p s σ v w e q = rw (e, q)

module _ {types : List ℕ} (ν : Valuation types) where
  abbrev Γ : List Ty
  Γ = types_of types

  abbrev I : List ℤ
  I = interval ν.lo ν.hi

  -- where a node has a value, its operands have values of kinds that may stand there, at some choice of the variables bound below it
  pub record Given (k : Code) (ss : List Sense) (d : ℕ) : Type 0 where
    pub choice : List ℤ
    pub long : length choice ≡ inner d k (length ss)
    pub operands : List Val
    pub read : values ss choice ≡ some operands
    pub stand : right k (Types operands) ≡ true

  leaf_given : (k : Code) (o : Option Val) (ss : List Sense) (d : ℕ) (ρ : List ℤ) → length ρ ≡ inner d k 0 → (v : Val) → nullary o ss ≡ some v → Given k ss d
  leaf_given k o [] d ρ l v e = record { choice = ρ; long = l; operands = []; read = refl; stand = refl }
  leaf_given k o (s ∷ ss) d ρ l v e = none_some e

  plain_given : (k : Code) (ss : List Sense) (d : ℕ) (ρ : List ℤ) → length ρ ≡ inner d k (length ss) → (f : List Val → Option Val) (v : Val)
      → ((vs : List Val) → f vs ≡ some v → right k (Types vs) ≡ true) → (values ss ρ >>= f) ≡ some v → Given k ss d
  plain_given k ss d ρ l f v h e = let i = step_inv (values ss ρ) e in record { choice = ρ; long = l; operands = i.0; read = i.1; stand = h i.0 i.2 }

  module _ (n d : ℕ) (ρ : List ℤ) (l : length ρ ≡ d) where
    first : (σ : List ℤ) × In σ (choices I n ρ) × (length σ ≡ length ρ + n)
    first = a_choice I ν.lo (in_interval ν.lo ν.hi ν.ordered ν.lo (le_z_refl ν.lo) ν.ordered) n ρ

    first_long : length first.0 ≡ d + n
    first_long = first.2 ∙ ap (λ (m : ℕ). m + n) l

    quant_given : (k : Code) (f : List Bool → Val) (p : Sense) (v : Val) → ((u : Val) → among? (kind_of (ty_of u)) (one T.prop ∷ []) ≡ true → right k (Types (u ∷ [])) ≡ true) → inner d k 1 ≡ d + n
        → (each (truth_at p) (choices I n ρ) >>= λ bs. some (f bs)) ≡ some v → Given k (p ∷ []) d
    quant_given k f p v h b e =
        let i = step_inv (each (truth_at p) (choices I n ρ)) e in
        let r = each_in (truth_at p) (choices I n ρ) i.0 i.1 first.1 in
        let t = some_truth (p first.0) r.0 r.1 in
        record { choice = first.0; long = first_long ∙ sym b; operands = t.0 ∷ []; read = values_one p first.0 t.0 t.1; stand = h t.0 t.2 }

    compr_given : (p s : Sense) (f : List (Bool × ℤ) → Val) (v : Val) → (each (guarded p s) (choices I n ρ) >>= λ xs. some (f xs)) ≡ some v → Given (qu C.compr n) (p ∷ s ∷ []) d
    compr_given p s f v e =
        let i = step_inv (each (guarded p s) (choices I n ρ)) e in
        let r = each_in (guarded p s) (choices I n ρ) i.0 i.1 first.1 in
        let j = step_inv (truth_at p first.0) r.1 in
        let k = step_inv (int_at s first.0) j.2 in
        let t = some_truth (p first.0) j.0 j.1 in
        let z = some_int (s first.0) k.0 k.1 in
        record { choice = first.0; long = first_long; operands = t.0 ∷ z.0 ∷ []; read = values_two p s first.0 t.0 z.0 t.1 z.1; stand = and_both _ _ t.2 (and_both _ _ z.2 refl) }

    binder_given : (b : Bind) (ss : List Sense) (v : Val) → binder b ss (choices I n ρ) ≡ some v → Given (qu b n) ss d
    binder_given C.all [] v e = none_some e
    binder_given C.all (p ∷ []) v e = quant_given (qu C.all n) _ p v (λ u h. and_both _ _ h refl) refl e
    binder_given C.all (p ∷ s ∷ ss) v e = none_some e
    binder_given C.ex [] v e = none_some e
    binder_given C.ex (p ∷ []) v e = quant_given (qu C.ex n) _ p v (λ u h. and_both _ _ h refl) refl e
    binder_given C.ex (p ∷ s ∷ ss) v e = none_some e
    binder_given C.compr [] v e = none_some e
    binder_given C.compr (p ∷ []) v e = none_some e
    binder_given C.compr (p ∷ s ∷ []) v e = compr_given p s _ v e
    binder_given C.compr (p ∷ s ∷ u ∷ ss) v e = none_some e

  node_given : (k : Code) (ss : List Sense) (d : ℕ) (ρ : List ℤ) → length ρ ≡ d → (v : Val) → sense ν k ss ρ ≡ some v → Given k ss d
  node_given (con c) ss d ρ l v e = leaf_given (con c) _ ss d ρ (omega (arith, con_row_law c 0)) v e
  node_given (ident k) ss d ρ l v e = leaf_given (ident k) _ ss d ρ (omega arith) v e
  node_given (bound i) ss d ρ l v e = leaf_given (bound i) _ ss d ρ (omega arith) v e
  node_given (lit w) ss d ρ l v e = leaf_given (lit w) _ ss d ρ (omega arith) v e
  node_given (rel r) ss d ρ l v e = plain_given (rel r) ss d ρ (omega (arith, (rel_row_law r 0).2)) (relation r) v (λ vs q. relation_right vs v r q) e
  node_given (fun f) ss d ρ l v e = plain_given (fun f) ss d ρ (omega (arith, fun_row_law f 0)) (function f) v (λ vs q. function_right vs v f q) e
  node_given (many m) ss d ρ l v e = plain_given (many m) ss d ρ (omega (arith, many_row_law m (length ss))) (several m) v (λ vs q. several_right vs v m q) e
  node_given (qu b n) ss d ρ l v e = binder_given n d ρ l b ss v e

  types_size : (xs : Trees) (d : ℕ) → length (types_in Γ d xs) ≡ size xs
  unfolding types_in
  types_size nil d = refl
  types_size (x ▹ xs) d = ap suc (types_size xs d)

  node_typed : (d : ℕ) (σ : Sort) (k : Code) (xs : Trees) → Allowed (length Γ) d σ k (size xs) → (τs : List Ty) → length τs ≡ size xs
      → types_in Γ (inner d k (size xs)) xs ≡ map some τs → right k (map some τs) ≡ true → (τ : Ty) × (type_of Γ d (node k xs) ≡ some τ)
  unfolding type_of
  node_typed d σ k xs A τs s o r = let t = node_type Γ d σ k (size xs) A τs s in (t.0, rw (o, allowed_made Γ d σ k (size xs) A, r) t.1)

  same_type : (x : Tree) (d : ℕ) (τ : Ty) → type_of Γ d x ≡ some τ → (ρ : List ℤ) → length ρ ≡ d → (v : Val) → eval ν x ρ ≡ some v → type_of Γ d x ≡ some (ty_of v)
  same_type x d τ t ρ q v e = let h = has_value ν x d τ t ρ q in t ∙ ap some (sym h.2 ∙ ap ty_of (some_inj (sym h.1 ∙ e)))

  mutual
    unfolding type_of fold Formed

    -- a tree that the table allows and that has a value has the type of that value
    pub value_typed : (x : Tree) (l d : ℕ) (σ : Sort) → Formed l (length Γ) d σ x → (ρ : List ℤ) → length ρ ≡ d → (v : Val) → eval ν x ρ ≡ some v → type_of Γ d x ≡ some (ty_of v)
    value_typed (node k xs) l d σ F ρ q v e =
        let n = size xs in
        let g = node_given k (folds (sense ν) xs) d ρ q v e in
        let z = folds_size (sense ν) xs in
        let o = values_typed xs (l - 1) (inner d k n) _ _ F.2 g.choice (g.long ∙ ap (inner d k) z) g.operands g.read in
        let s : length (map ty_of g.operands) ≡ n = sym (length-map (map ty_of g.operands) some) ∙ ap length (sym o) ∙ types_size xs (inner d k n) in
        let t = node_typed d σ k xs F.1 (map ty_of g.operands) s o g.stand in
        same_type (node k xs) d t.0 t.1 ρ q v e

    pub values_typed : (xs : Trees) (l d : ℕ) (σ υ : Sort) → AllFormed l (length Γ) d σ υ xs → (ρ : List ℤ) → length ρ ≡ d → (vs : List Val) → values (folds (sense ν) xs) ρ ≡ some vs
        → types_in Γ d xs ≡ Types vs
    values_typed nil l d σ υ F ρ q vs e = ap Types (some_inj e)
    values_typed (x ▹ xs) l d σ υ F ρ q vs e =
        let i = step_inv (eval ν x ρ) e in
        let j = step_inv (values (folds (sense ν) xs) ρ) i.2 in
        ap₂ ◌∷◌ (value_typed x l d σ F.0 ρ q i.0 i.1) (values_typed xs l d υ υ F.1 ρ q j.0 j.1) ∙ ap Types (some_inj j.2)

  -- so a tree that the table allows and that has no type has no value
  pub untyped_none : (x : Tree) (l d : ℕ) (σ : Sort) → Formed l (length types) d σ x → type_of Γ d x ≡ none → (ρ : List ℤ) → length ρ ≡ d → eval ν x ρ ≡ none
  untyped_none x l d σ F u ρ q = go (eval ν x ρ) refl
    where
      go : (o : Option Val) → eval ν x ρ ≡ o → o ≡ none
      go none e = refl
      go (some v) e = none_some (sym u ∙ value_typed x l d σ (subst (λ (t : ℕ). Formed l t d σ x) (sym (length-map types type_of_byte)) F) ρ q v e)

  -- nor has an identifier or index out of range
  pub ident_out : (k : ℕ) → length types ≤ k → (ρ : List ℤ) → eval ν (node (ident k) nil) ρ ≡ none
  unfolding fold
  ident_out k h ρ = nth_none ν.ids k (omega (arith, length-map ν.ids ty_of, length-map types type_of_byte, ap length ν.fits))

  pub bound_out : (i : ℕ) (ρ : List ℤ) → length ρ ≤ i → eval ν (node (bound i) nil) ρ ≡ none
  unfolding fold
  bound_out i ρ h = ap (λ o. o >>= λ z. some (int z)) (nth_none ρ i h)
