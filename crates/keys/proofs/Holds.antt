-- The keys of one relation have the values of their entries: numbers, sets, and any other values.
use Prim.Native.Nat.{ℕ}
use mathlib.Core.Path.{◌≡◌, refl, ap, sym, ◌∙◌}
use mathlib.Core.Bool.{Bool, true, false, not, ◌&&◌}
use mathlib.Core.Option.{Option, some, none}
use mathlib.Core.List.{List, [], ◌∷◌, map}
use lib.IntN.{ℤ, pos}
use Rattle.formula.specs.Pick.{pick}
use Rattle.formula.specs.Codes.{Rel, eq, lt, le, gt, ge, mem, sub, sube, rel, con, nat, nat1}
use Rattle.formula.specs.Types.{Ty, types_of}
use Rattle.formula.specs.Tree.{Tree, node, nil, ◌▹◌}
use Rattle.formula.proofs.Choices.{none_some, and_left, and_right}
use Rattle.formula.proofs.DataType.{data?}
use Rattle.formula.proofs.SameType.{same_test}
use Rattle.meaning.specs.Fold.{fold}
use Rattle.meaning.specs.Value.{Val, truth, int, set, ty_of}
use Rattle.meaning.specs.Sets.{subset}
use Rattle.meaning.specs.Operators.{equal}
use Rattle.meaning.specs.Valuation.{Valuation}
use Rattle.meaning.specs.Meaning.{eval}
use Rattle.meaning.proofs.Lists.{some_inj, step_inv}
use Rattle.meaning.proofs.Operands.{equal_has}
use Rattle.meaning.proofs.Alike.{alike_sym}
use Rattle.meaning.proofs.Equality.{equal_alike, alike_equal}
use Rattle.meaning.proofs.Whole.{cmp_z, is_lt, is_le, eq_z_cmp, lt_z_cmp, le_z_cmp, cmp_swap}
use Rattle.keys.specs.Keys.{Side, L, R, Z, Key, key, in_nat, in_nat1, Condition, Marked}
use Rattle.keys.specs.Substitutes.{Relation, side, key_tree, Entry, entry_of, meets, met_entries}
use Rattle.keys.specs.Sound.{Each, AllHold}
use Rattle.keys.proofs.TableIs.{every}
use Rattle.keys.proofs.Worlds.{fine, fine_value, compared, ordered, number?, int_value, set_value, crossed, equal_value, member_value, number_of, compared_is}

-- ---- a property of the entry of each row whose condition is met
module _ (P : Entry → Type 0) (Γ : List Ty) (q : Relation) (ok : Marked → Bool)
    (H : (m : Marked) → ok m ≡ true → meets Γ q.left q.right m.condition ≡ true → P (record { key = key_tree q.left q.right m.key_is; value = m.value })) where
  row_has : (m : Marked) (os : List (Option Entry)) → ok m ≡ true → Each P (met_entries os) → Each P (met_entries (entry_of Γ q m ∷ os))
  row_has m os e h = go (meets Γ q.left q.right m.condition) refl
    where
      go : (b : Bool) → meets Γ q.left q.right m.condition ≡ b → Each P (met_entries (pick b (some (record { key = key_tree q.left q.right m.key_is; value = m.value })) none ∷ os))
      go true p = (H m e p, h)
      go false p = h

  pub rows_have : (ms : List Marked) → every ok ms ≡ true → Each P (met_entries (map (entry_of Γ q) ms))
  rows_have [] e = tt
  rows_have (m ∷ ms) e = row_has m (map (entry_of Γ q) ms) (and_left (ok m) _ e) (rows_have ms (and_right (ok m) _ e))

module _ {types : List ℕ} (ν : Valuation types) where
  -- rows that are fine hold
  pub rows_hold : (q : Relation) (met : Condition → Bool) (value : Key → Option Bool) → ((c : Condition) → meets (types_of types) q.left q.right c ≡ true → met c ≡ true)
      → ((k : Key) (v : Bool) → value k ≡ some v → eval ν (key_tree q.left q.right k) [] ≡ some (truth v)) → (ms : List Marked) → every (fine met value) ms ≡ true
      → AllHold ν (met_entries (map (entry_of (types_of types) q) ms))
  rows_hold q met value M W = rows_have _ (types_of types) q (fine met value) (λ m e p. W m.key_is m.value (fine_value met value m e (M m.condition p)))

  -- ---- numbers
  module _ (a b : Tree) (x y : ℤ) (e : eval ν a [] ≡ some (int x)) (f : eval ν b [] ≡ some (int y)) where
    pub ordered_value : (q : Rel) (v : Bool) → ordered q (cmp_z x y) ≡ some v → eval ν (node (rel q) (a ▹ b ▹ nil)) [] ≡ some (truth v)
    unfolding fold equal
    ordered_value eq v h = rw (e, f) (ap (λ (b : Bool). some (truth b)) (eq_z_cmp x y ∙ some_inj h))
    ordered_value lt v h = rw (e, f) (ap (λ (b : Bool). some (truth b)) (lt_z_cmp x y ∙ some_inj h))
    ordered_value le v h = rw (e, f) (ap (λ (b : Bool). some (truth b)) (le_z_cmp x y ∙ some_inj h))
    ordered_value gt v h = rw (e, f) (ap (λ (b : Bool). some (truth b)) (lt_z_cmp y x ∙ ap is_lt (cmp_swap x y) ∙ some_inj h))
    ordered_value ge v h = rw (e, f) (ap (λ (b : Bool). some (truth b)) (le_z_cmp y x ∙ ap is_le (cmp_swap x y) ∙ some_inj h))
    ordered_value mem v h = none_some h
    ordered_value sub v h = none_some h
    ordered_value sube v h = none_some h

  module _ (a : Tree) (x : ℤ) (e : eval ν a [] ≡ some (int x)) where
    pub nat_value : eval ν (node (rel mem) (a ▹ node (con nat) nil ▹ nil)) [] ≡ some (truth (is_le (cmp_z (pos 0) x)))
    unfolding fold
    nat_value = rw e (ap (λ (b : Bool). some (truth b)) (le_z_cmp (pos 0) x))

    pub nat1_value : eval ν (node (rel mem) (a ▹ node (con nat1) nil ▹ nil)) [] ≡ some (truth (is_lt (cmp_z (pos 0) x)))
    unfolding fold
    nat1_value = rw e (ap (λ (b : Bool). some (truth b)) (lt_z_cmp (pos 0) x))

  known : {A : Type 0} (b : Bool) (o : Option A) (a : A) → pick b o none ≡ some a → (b ≡ true) × (o ≡ some a)
  known true o a e = (refl, e)
  known false o a e = none_some e

  module _ (l r : Tree) (h : Bool) (x y : ℤ) (e : eval ν l [] ≡ some (int x)) (f : h ≡ true → eval ν r [] ≡ some (int y)) where
    side_number : (a : Side) → number? h a ≡ true → eval ν (side l r a) [] ≡ some (int (number_of x y a))
    unfolding fold
    side_number L n = e
    side_number R n = f n
    side_number Z n = refl

    pub number_key : (k : Key) (v : Bool) → int_value h (cmp_z x (pos 0)) (cmp_z y (pos 0)) (cmp_z x y) k ≡ some v → eval ν (key_tree l r k) [] ≡ some (truth v)
    number_key (key q a b) v p =
        let w = known (number? h a && number? h b) (ordered q (compared (cmp_z x (pos 0)) (cmp_z y (pos 0)) (cmp_z x y) a b)) v p in
        let i = side_number a (and_left (number? h a) (number? h b) w.0) in
        let j = side_number b (and_right (number? h a) (number? h b) w.0) in
        ordered_value (side l r a) (side l r b) (number_of x y a) (number_of x y b) i j q v (ap (ordered q) (compared_is x y a b) ∙ w.1)
    number_key (in_nat a) v p =
        let w = known (number? h a) (some (is_le (compared (cmp_z x (pos 0)) (cmp_z y (pos 0)) (cmp_z x y) Z a))) v p in
        nat_value (side l r a) (number_of x y a) (side_number a w.0) ∙ ap (λ (b : Bool). some (truth b)) (ap is_le (compared_is x y Z a) ∙ some_inj w.1)
    number_key (in_nat1 a) v p =
        let w = known (number? h a) (some (is_lt (compared (cmp_z x (pos 0)) (cmp_z y (pos 0)) (cmp_z x y) Z a))) v p in
        nat1_value (side l r a) (number_of x y a) (side_number a w.0) ∙ ap (λ (b : Bool). some (truth b)) (ap is_lt (compared_is x y Z a) ∙ some_inj w.1)

  -- ---- sets
  module _ (a b : Tree) (s t : List ℤ) (e : eval ν a [] ≡ some (set s)) (f : eval ν b [] ≡ some (set t)) where
    pub set_equal : eval ν (node (rel eq) (a ▹ b ▹ nil)) [] ≡ some (truth (subset s t && subset t s))
    unfolding fold equal
    set_equal = rw (e, f) refl

    pub set_strict : eval ν (node (rel sub) (a ▹ b ▹ nil)) [] ≡ some (truth (subset s t && not (subset t s)))
    unfolding fold
    set_strict = rw (e, f) refl

    pub set_subset : eval ν (node (rel sube) (a ▹ b ▹ nil)) [] ≡ some (truth (subset s t))
    unfolding fold
    set_subset = rw (e, f) refl

    included_value : (q : Rel) (v : Bool) → set_value (subset s t) (subset t s) (key q L R) ≡ some v → eval ν (node (rel q) (a ▹ b ▹ nil)) [] ≡ some (truth v)
    included_value eq v h = set_equal ∙ ap (λ (b : Bool). some (truth b)) (some_inj h)
    included_value lt v h = none_some h
    included_value le v h = none_some h
    included_value gt v h = none_some h
    included_value ge v h = none_some h
    included_value mem v h = none_some h
    included_value sub v h = set_strict ∙ ap (λ (b : Bool). some (truth b)) (some_inj h)
    included_value sube v h = set_subset ∙ ap (λ (b : Bool). some (truth b)) (some_inj h)

  module _ (l r : Tree) (s t : List ℤ) (e : eval ν l [] ≡ some (set s)) (f : eval ν r [] ≡ some (set t)) where
    pub set_key : (k : Key) (v : Bool) → set_value (subset s t) (subset t s) k ≡ some v → eval ν (key_tree l r k) [] ≡ some (truth v)
    set_key (key q L R) v p = included_value l r s t e f q v p
    set_key (key q R L) v p = included_value r l t s f e q v p
    set_key (key q L L) v p = none_some p
    set_key (key q L Z) v p = none_some p
    set_key (key q R R) v p = none_some p
    set_key (key q R Z) v p = none_some p
    set_key (key q Z L) v p = none_some p
    set_key (key q Z R) v p = none_some p
    set_key (key q Z Z) v p = none_some p
    set_key (in_nat a) v p = none_some p
    set_key (in_nat1 a) v p = none_some p

  -- ---- what the source itself says
  module _ (l r : Tree) (b : Bool) where
    pub member_key : eval ν (node (rel mem) (l ▹ r ▹ nil)) [] ≡ some (truth b) → (k : Key) (v : Bool) → member_value b k ≡ some v → eval ν (key_tree l r k) [] ≡ some (truth v)
    member_key e (key mem L R) v p = e ∙ ap (λ (b : Bool). some (truth b)) (some_inj p)
    member_key e (key eq x y) v p = none_some p
    member_key e (key lt x y) v p = none_some p
    member_key e (key le x y) v p = none_some p
    member_key e (key gt x y) v p = none_some p
    member_key e (key ge x y) v p = none_some p
    member_key e (key mem L L) v p = none_some p
    member_key e (key mem L Z) v p = none_some p
    member_key e (key mem R x) v p = none_some p
    member_key e (key mem Z x) v p = none_some p
    member_key e (key sub x y) v p = none_some p
    member_key e (key sube x y) v p = none_some p
    member_key e (in_nat a) v p = none_some p
    member_key e (in_nat1 a) v p = none_some p

    crossed_key : eval ν (node (rel eq) (l ▹ r ▹ nil)) [] ≡ some (truth b) → eval ν (node (rel eq) (r ▹ l ▹ nil)) [] ≡ some (truth b) → (x y : Side) (v : Bool) → crossed b x y ≡ some v
        → eval ν (key_tree l r (key eq x y)) [] ≡ some (truth v)
    crossed_key e f L R v p = e ∙ ap (λ (b : Bool). some (truth b)) (some_inj p)
    crossed_key e f R L v p = f ∙ ap (λ (b : Bool). some (truth b)) (some_inj p)
    crossed_key e f L L v p = none_some p
    crossed_key e f L Z v p = none_some p
    crossed_key e f R R v p = none_some p
    crossed_key e f R Z v p = none_some p
    crossed_key e f Z L v p = none_some p
    crossed_key e f Z R v p = none_some p
    crossed_key e f Z Z v p = none_some p

    pub equal_key : eval ν (node (rel eq) (l ▹ r ▹ nil)) [] ≡ some (truth b) → eval ν (node (rel eq) (r ▹ l ▹ nil)) [] ≡ some (truth b) → (k : Key) (v : Bool) → equal_value b k ≡ some v
        → eval ν (key_tree l r k) [] ≡ some (truth v)
    equal_key e f (key eq x y) v p = crossed_key e f x y v p
    equal_key e f (key lt x y) v p = none_some p
    equal_key e f (key le x y) v p = none_some p
    equal_key e f (key gt x y) v p = none_some p
    equal_key e f (key ge x y) v p = none_some p
    equal_key e f (key mem x y) v p = none_some p
    equal_key e f (key sub x y) v p = none_some p
    equal_key e f (key sube x y) v p = none_some p
    equal_key e f (in_nat a) v p = none_some p
    equal_key e f (in_nat1 a) v p = none_some p

  -- = is symmetric
  equal_sym : (v w : Val) (b : Bool) → data? (ty_of v) ≡ true → ty_of w ≡ ty_of v → equal v w ≡ some b → equal w v ≡ some b
  equal_sym v w b d t e =
      let o = equal_has w v (sym t) (rw t d) in
      o.1 ∙ ap some (same_test o.0 b (λ p. back p) (λ p. there p))
    where
      there : b ≡ true → (equal_has w v (sym t) (rw t d)).0 ≡ true
      there p = some_inj (sym (equal_has w v (sym t) (rw t d)).1 ∙ alike_equal (alike_sym (equal_alike v w (e ∙ ap some p))) (rw t d))

      back : (equal_has w v (sym t) (rw t d)).0 ≡ true → b ≡ true
      back p = some_inj (sym e ∙ alike_equal (alike_sym (equal_alike w v ((equal_has w v (sym t) (rw t d)).1 ∙ ap some p))) d)

  pub equal_turned : (l r : Tree) (v w : Val) (b : Bool) → eval ν l [] ≡ some v → eval ν r [] ≡ some w → data? (ty_of v) ≡ true → ty_of w ≡ ty_of v → eval ν (node (rel eq) (l ▹ r ▹ nil)) [] ≡ some (truth b)
      → eval ν (node (rel eq) (r ▹ l ▹ nil)) [] ≡ some (truth b)
  unfolding fold
  equal_turned l r v w b e f d t h =
      let i = step_inv (equal v w) (rw (e, f) at h) in
      let j : i.0 ≡ b = let z : truth i.0 ≡ truth b = some_inj i.2 in cc in
      rw (f, e, equal_sym v w b d t (i.1 ∙ ap some j)) refl
