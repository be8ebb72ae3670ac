-- Values with the same contents, and that meaning cannot tell them apart.
use Prim.Native.Nat.{ℕ, zero, suc}
use mathlib.Core.Path.{◌≡◌, refl, ap, ap₂, sym, ◌∙◌, subst, fun_ext}
use mathlib.Core.List.{List, [], ◌∷◌}
use mathlib.Core.Bool.{Bool, true, false, not}
use mathlib.Core.Option.{Option, some, none}
use lib.IntN.{ℤ}
use Rattle.formula.specs.Codes as C
use Rattle.formula.specs.Codes.{Rel, Fun, Many, Bind, Code, con, ident, bound, lit, rel, fun, many, qu}
use Rattle.formula.specs.Types as T
use Rattle.formula.specs.Tree.{Tree}
use Rattle.formula.proofs.Choices.{none_some}
use Rattle.meaning.specs.Defined.{◌>>=◌, nth, each, nullary, unary, binary}
use Rattle.meaning.specs.Value.{Val, truth, int, boo, set, nats, nats1, pair, ty_of, as_truth, as_int, as_boo, as_set, as_pair, as_data}
use Rattle.meaning.specs.Sets.{same_set, in_all}
use Rattle.meaning.specs.Operators.{constant, equal, member_of, relation, function, several, unions, inters, all_true, some_true}
use Rattle.meaning.specs.Valuation.{interval, Valuation}
use Rattle.meaning.specs.Meaning.{Sense, choices, truth_at, int_at, guarded, collect, binder, values, sense, eval}
use Rattle.meaning.specs.Refutes.{Predicate, AllTrue, Refutes}
use Rattle.meaning.proofs.Lists.{All2, some_inj}
use Rattle.meaning.proofs.Relate.{relate}
use Rattle.meaning.proofs.SetLaws.{SameMembers, subset_same, strict_same, same_set_same, in_all_same, append_same, filter_same}

-- the same value, but for the order and repetition of a set's members
pub data Alike : Val → Val → Type 0 where
  truths : {b : Bool} → Alike (truth b) (truth b)
  ints : {z : ℤ} → Alike (int z) (int z)
  boos : {b : Bool} → Alike (boo b) (boo b)
  sets : {s t : List ℤ} → SameMembers s t → Alike (set s) (set t)
  naturals : Alike nats nats
  positives : Alike nats1 nats1
  pairs : {v v' w w' : Val} → Alike v v' → Alike w w' → Alike (pair v w) (pair v' w')

-- ---- an equivalence
pub alike_refl : (v : Val) → Alike v v
alike_refl (truth b) = truths
alike_refl (int z) = ints
alike_refl (boo b) = boos
alike_refl (set s) = sets (λ z. refl)
alike_refl nats = naturals
alike_refl nats1 = positives
alike_refl (pair v w) = pairs (alike_refl v) (alike_refl w)

pub alike_sym : {v w : Val} → Alike v w → Alike w v
alike_sym truths = truths
alike_sym ints = ints
alike_sym boos = boos
alike_sym (sets h) = sets (λ z. sym (h z))
alike_sym naturals = naturals
alike_sym positives = positives
alike_sym (pairs a b) = pairs (alike_sym a) (alike_sym b)

pub alike_trans : {u v w : Val} → Alike u v → Alike v w → Alike u w
alike_trans truths truths = truths
alike_trans ints ints = ints
alike_trans boos boos = boos
alike_trans (sets h) (sets k) = sets (λ z. h z ∙ k z)
alike_trans naturals naturals = naturals
alike_trans positives positives = positives
alike_trans (pairs a b) (pairs c d) = pairs (alike_trans a c) (alike_trans b d)

pub alike_type : {v w : Val} → Alike v w → ty_of v ≡ ty_of w
alike_type truths = refl
alike_type ints = refl
alike_type boos = refl
alike_type (sets h) = refl
alike_type naturals = refl
alike_type positives = refl
alike_type (pairs a b) = ap₂ T.pair (alike_type a) (alike_type b)

-- ---- nothing on both sides, or related things
pub data Both {A B : Type 0} (R : A → B → Type 0) : Option A → Option B → Type 0 where
  neither : Both R none none
  both : {a : A} {b : B} → R a b → Both R (some a) (some b)

pub then_both : {A B C D : Type 0} {R : A → B → Type 0} {Q : C → D → Type 0} {o : Option A} {p : Option B} (f : A → Option C) (g : B → Option D)
    → Both R o p → ((a : A) (b : B) → R a b → Both Q (f a) (g b)) → Both Q (o >>= f) (p >>= g)
then_both f g neither h = neither
then_both f g (both {a = a} {b = b} r) h = h a b r

each_both : {A B C D : Type 0} (R : A → B → Type 0) (Q : C → D → Type 0) (f : A → Option C) (g : B → Option D) → ((a : A) (b : B) → R a b → Both Q (f a) (g b))
    → (xs : List A) (ys : List B) → All2 R xs ys → Both (All2 Q) (each f xs) (each g ys)
each_both R Q f g h [] [] a = both tt
each_both R Q f g h [] (y ∷ ys) a = absurd a
each_both R Q f g h (x ∷ xs) [] a = absurd a
each_both R Q f g h (x ∷ xs) (y ∷ ys) a =
    then_both _ _ (h x y a.0) (λ c d q. then_both _ _ (each_both R Q f g h xs ys a.1) (λ cs ds qs. both (q, qs)))

each_same : {A B C : Type 0} (R : A → B → Type 0) (f : A → Option C) (g : B → Option C) → ((a : A) (b : B) → R a b → f a ≡ g b)
    → (xs : List A) (ys : List B) → All2 R xs ys → each f xs ≡ each g ys
each_same R f g h [] [] a = refl
each_same R f g h [] (y ∷ ys) a = absurd a
each_same R f g h (x ∷ xs) [] a = absurd a
each_same R f g h (x ∷ xs) (y ∷ ys) a = rw (h x y a.0, each_same R f g h xs ys a.1)

module _ {A B C D : Type 0} (R : A → B → Type 0) (Q : C → D → Type 0) where
  unary_both : (f : A → Option C) (g : B → Option D) → ((a : A) (b : B) → R a b → Both Q (f a) (g b)) → (xs : List A) (ys : List B) → All2 R xs ys → Both Q (unary f xs) (unary g ys)
  unary_both f g h [] [] a = neither
  unary_both f g h [] (y ∷ ys) a = absurd a
  unary_both f g h (x ∷ xs) [] a = absurd a
  unary_both f g h (x ∷ []) (y ∷ []) a = h x y a.0
  unary_both f g h (x ∷ []) (y ∷ y' ∷ ys) a = absurd a.1
  unary_both f g h (x ∷ x' ∷ xs) (y ∷ []) a = absurd a.1
  unary_both f g h (x ∷ x' ∷ xs) (y ∷ y' ∷ ys) a = neither

  binary_both : (f : A → A → Option C) (g : B → B → Option D) → ((a a' : A) (b b' : B) → R a b → R a' b' → Both Q (f a a') (g b b'))
      → (xs : List A) (ys : List B) → All2 R xs ys → Both Q (binary f xs) (binary g ys)
  binary_both f g h [] [] a = neither
  binary_both f g h [] (y ∷ ys) a = absurd a
  binary_both f g h (x ∷ xs) [] a = absurd a
  binary_both f g h (x ∷ []) (y ∷ []) a = neither
  binary_both f g h (x ∷ []) (y ∷ y' ∷ ys) a = absurd a.1
  binary_both f g h (x ∷ x' ∷ xs) (y ∷ []) a = absurd a.1
  binary_both f g h (x ∷ x' ∷ []) (y ∷ y' ∷ []) a = h x x' y y' a.0 a.1.0
  binary_both f g h (x ∷ x' ∷ []) (y ∷ y' ∷ y'' ∷ ys) a = absurd a.1.1
  binary_both f g h (x ∷ x' ∷ x'' ∷ xs) (y ∷ y' ∷ []) a = absurd a.1.1
  binary_both f g h (x ∷ x' ∷ x'' ∷ xs) (y ∷ y' ∷ y'' ∷ ys) a = neither

-- ---- readings of alike values
abbrev pub AlikeO : Option Val → Option Val → Type 0
AlikeO = Both Alike

same_alike : (o p : Option Val) → o ≡ p → AlikeO o p
same_alike none p e = subst (AlikeO none) e neither
same_alike (some v) p e = subst (AlikeO (some v)) e (both (alike_refl v))

truth_same : (v w : Val) → Alike v w → as_truth v ≡ as_truth w
truth_same v w truths = refl
truth_same v w ints = refl
truth_same v w boos = refl
truth_same v w (sets h) = refl
truth_same v w naturals = refl
truth_same v w positives = refl
truth_same v w (pairs a b) = refl

int_same : (v w : Val) → Alike v w → as_int v ≡ as_int w
int_same v w truths = refl
int_same v w ints = refl
int_same v w boos = refl
int_same v w (sets h) = refl
int_same v w naturals = refl
int_same v w positives = refl
int_same v w (pairs a b) = refl

boo_same : (v w : Val) → Alike v w → as_boo v ≡ as_boo w
boo_same v w truths = refl
boo_same v w ints = refl
boo_same v w boos = refl
boo_same v w (sets h) = refl
boo_same v w naturals = refl
boo_same v w positives = refl
boo_same v w (pairs a b) = refl

set_both : (v w : Val) → Alike v w → Both SameMembers (as_set v) (as_set w)
set_both v w truths = neither
set_both v w ints = neither
set_both v w boos = neither
set_both v w (sets h) = both h
set_both v w naturals = neither
set_both v w positives = neither
set_both v w (pairs a b) = neither

pair_both : (v w : Val) → Alike v w → Both (λ p q. Alike p.0 q.0 × Alike p.1 q.1) (as_pair v) (as_pair w)
pair_both v w truths = neither
pair_both v w ints = neither
pair_both v w boos = neither
pair_both v w (sets h) = neither
pair_both v w naturals = neither
pair_both v w positives = neither
pair_both v w (pairs a b) = both (a, b)

data_both : (v w : Val) → Alike v w → AlikeO (as_data v) (as_data w)
data_both v w truths = neither
data_both v w ints = both ints
data_both v w boos = both boos
data_both v w (sets h) = both (sets h)
data_both v w naturals = neither
data_both v w positives = neither
data_both v w (pairs a b) = both (pairs a b)

-- ---- the tests
member_same : (x : ℤ) (v w : Val) → Alike v w → member_of x v ≡ member_of x w
member_same x v w truths = refl
member_same x v w ints = refl
member_same x v w boos = refl
member_same x v w (sets h) = ap some (h x)
member_same x v w naturals = refl
member_same x v w positives = refl
member_same x v w (pairs a b) = refl

set_step : (s s' : List ℤ) → SameMembers s s' → (o p : Option (List ℤ)) → Both SameMembers o p → (o >>= λ t. some (same_set s t)) ≡ (p >>= λ t. some (same_set s' t))
set_step s s' h o p neither = refl
set_step s s' h o p (both {a = t} {b = t'} k) = ap some (same_set_same s s' t t' h k)

pair_step : (f g : Val × Val → Option Bool) → ((p q : Val × Val) → Alike p.0 q.0 → Alike p.1 q.1 → f p ≡ g q)
    → (o p : Option (Val × Val)) → Both (λ p q. Alike p.0 q.0 × Alike p.1 q.1) o p → (o >>= f) ≡ (p >>= g)
pair_step f g h o p neither = refl
pair_step f g h o p (both {a = a} {b = b} k) = h a b k.0 k.1

-- = respects contents
pub equal_same : {v v' : Val} → Alike v v' → (w w' : Val) → Alike w w' → equal v w ≡ equal v' w'
unfolding equal
equal_same truths w w' r = refl
equal_same ints w w' r = rw (int_same w w' r)
equal_same boos w w' r = rw (boo_same w w' r)
equal_same (sets {s = s} {t = t} h) w w' r = set_step s t h (as_set w) (as_set w') (set_both w w' r)
equal_same naturals w w' r = refl
equal_same positives w w' r = refl
equal_same (pairs a b) w w' r = pair_step _ _ (λ p q k l. rw (equal_same a p.0 q.0 k, equal_same b p.1 q.1 l)) (as_pair w) (as_pair w') (pair_both w w' r)

-- ---- the operators
unions_same : (ss ts : List (List ℤ)) → All2 SameMembers ss ts → SameMembers (unions ss) (unions ts)
unions_same [] [] a = λ z. refl
unions_same [] (t ∷ ts) a = absurd a
unions_same (s ∷ ss) [] a = absurd a
unions_same (s ∷ ss) (t ∷ ts) a = append_same s t (unions ss) (unions ts) a.0 (unions_same ss ts a.1)

inters_both : (ss ts : List (List ℤ)) → All2 SameMembers ss ts → AlikeO (inters ss) (inters ts)
inters_both [] [] a = neither
inters_both [] (t ∷ ts) a = absurd a
inters_both (s ∷ ss) [] a = absurd a
inters_both (s ∷ ss) (t ∷ ts) a = both (sets (filter_same (λ z. in_all z ss) (λ z. in_all z ts) s t (λ z. in_all_same z ss ts a.1) a.0))

module _ (vs ws : List Val) (a : All2 Alike vs ws) where
  -- operators that look at truth values or numbers alone
  by_truths : (f : List Bool → Option Val) → AlikeO (each as_truth vs >>= f) (each as_truth ws >>= f)
  by_truths f = same_alike _ _ (ap (λ o. o >>= f) (each_same Alike as_truth as_truth truth_same vs ws a))

  by_ints : (f : List ℤ → Option Val) → AlikeO (each as_int vs >>= f) (each as_int ws >>= f)
  by_ints f = same_alike _ _ (ap (λ o. o >>= f) (each_same Alike as_int as_int int_same vs ws a))

  -- operators of sets, by contents
  by_sets : (f : List (List ℤ) → Option Val) → ((ss ts : List (List ℤ)) → All2 SameMembers ss ts → AlikeO (f ss) (f ts)) → AlikeO (each as_set vs >>= f) (each as_set ws >>= f)
  by_sets f h = then_both f f (each_both Alike SameMembers as_set as_set set_both vs ws a) h

  relation_alike : (r : Rel) → AlikeO (relation r vs) (relation r ws)
  relation_alike C.eq = binary_both Alike Alike _ _ (λ v v' w w' p q. same_alike _ _ (ap (λ o. o >>= λ b. some (truth b)) (equal_same p v' w' q))) vs ws a
  relation_alike C.lt = by_ints _
  relation_alike C.le = by_ints _
  relation_alike C.gt = by_ints _
  relation_alike C.ge = by_ints _
  relation_alike C.mem = binary_both Alike Alike _ _ (λ v v' w w' p q. same_alike _ _ (mem_step v v' w w' p q)) vs ws a
    where
      mem_step : (v v' w w' : Val) → Alike v w → Alike v' w' → (as_int v >>= λ x. member_of x v' >>= λ b. some (truth b)) ≡ (as_int w >>= λ x. member_of x w' >>= λ b. some (truth b))
      mem_step v v' w w' p q = rw (int_same v w p) (ap (λ f. as_int w >>= f) (fun_ext (λ x. ap (λ o. o >>= λ b. some (truth b)) (member_same x v' w' q))))
  relation_alike C.sub = by_sets _ (binary_both SameMembers Alike _ _ (λ s s' t t' p q. same_alike _ _ (ap (λ b. some (truth b)) (strict_same s t s' t' p q))))
  relation_alike C.sube = by_sets _ (binary_both SameMembers Alike _ _ (λ s s' t t' p q. same_alike _ _ (ap (λ b. some (truth b)) (subset_same s t s' t' p q))))

  function_alike : (f : Fun) → AlikeO (function f vs) (function f ws)
  function_alike C.neg = by_truths _
  function_alike C.imp = by_truths _
  function_alike C.iff = by_truths _
  function_alike C.minus = by_ints _
  function_alike C.uminus = by_ints _
  function_alike C.diff = by_sets _ (binary_both SameMembers Alike _ _ (λ s s' t t' p q. both (sets (filter_same _ _ s t (λ z. ap not (q z)) p))))
  function_alike C.bool = by_truths _
  function_alike C.mapsto = then_both _ _ (each_both Alike Alike as_data as_data data_both vs ws a) (binary_both Alike Alike _ _ (λ v v' w w' p q. both (pairs p q)))

  several_alike : (m : Many) → AlikeO (several m vs) (several m ws)
  several_alike C.and = by_truths _
  several_alike C.or = by_truths _
  several_alike C.add = by_ints _
  several_alike C.mul = by_ints _
  several_alike C.union = by_sets _ (λ ss ts p. both (sets (unions_same ss ts p)))
  several_alike C.inter = by_sets _ inters_both
  several_alike C.ext = by_ints _

-- ---- readings that are alike under every choice of the bound variables
abbrev Similar : Sense → Sense → Type 0
Similar s u = (ρ : List ℤ) → AlikeO (s ρ) (u ρ)

truth_at_same : (s u : Sense) → Similar s u → (ρ : List ℤ) → truth_at s ρ ≡ truth_at u ρ
truth_at_same s u h ρ = go (s ρ) (u ρ) (h ρ)
  where
    go : (o p : Option Val) → AlikeO o p → (o >>= as_truth) ≡ (p >>= as_truth)
    go o p neither = refl
    go o p (both {a = v} {b = w} r) = truth_same v w r

int_at_same : (s u : Sense) → Similar s u → (ρ : List ℤ) → int_at s ρ ≡ int_at u ρ
int_at_same s u h ρ = go (s ρ) (u ρ) (h ρ)
  where
    go : (o p : Option Val) → AlikeO o p → (o >>= as_int) ≡ (p >>= as_int)
    go o p neither = refl
    go o p (both {a = v} {b = w} r) = int_same v w r

binder_alike : (b : Bind) (ss us : List Sense) → All2 Similar ss us → (ρs : List (List ℤ)) → AlikeO (binder b ss ρs) (binder b us ρs)
binder_alike C.all ss us a ρs = unary_both Similar Alike _ _ (λ s u h. same_alike _ _ (ap (λ f. each f ρs >>= λ bs. some (truth (all_true bs))) (fun_ext (truth_at_same s u h)))) ss us a
binder_alike C.ex ss us a ρs = unary_both Similar Alike _ _ (λ s u h. same_alike _ _ (ap (λ f. each f ρs >>= λ bs. some (truth (some_true bs))) (fun_ext (truth_at_same s u h)))) ss us a
binder_alike C.compr ss us a ρs = binary_both Similar Alike _ _ (λ p e q f h k. same_alike _ _ (ap (λ g. each g ρs >>= λ xs. some (set (collect xs))) (fun_ext (both_same p e q f h k)))) ss us a
  where
    both_same : (p e q f : Sense) → Similar p q → Similar e f → (ρ : List ℤ) → guarded p e ρ ≡ guarded q f ρ
    both_same p e q f h k ρ = rw (truth_at_same p q h ρ, int_at_same e f k ρ)

nth_alike : (vs ws : List Val) → All2 Alike vs ws → (k : ℕ) → AlikeO (nth vs k) (nth ws k)
nth_alike [] [] a k = neither
nth_alike [] (w ∷ ws) a k = absurd a
nth_alike (v ∷ vs) [] a k = absurd a
nth_alike (v ∷ vs) (w ∷ ws) a zero = both a.0
nth_alike (v ∷ vs) (w ∷ ws) a (suc k) = nth_alike vs ws a.1 k

nullary_alike : (o p : Option Val) → AlikeO o p → (ss us : List Sense) → All2 Similar ss us → AlikeO (nullary o ss) (nullary p us)
nullary_alike o p h [] [] a = h
nullary_alike o p h [] (u ∷ us) a = absurd a
nullary_alike o p h (s ∷ ss) [] a = absurd a
nullary_alike o p h (s ∷ ss) (u ∷ us) a = neither

-- two valuations with the same interval, and values with the same contents for each identifier
pub record AlikeValuations {types : List ℕ} (ν μ : Valuation types) : Type 0 where
  pub same_lo : ν.lo ≡ μ.lo
  pub same_hi : ν.hi ≡ μ.hi
  pub alike_ids : All2 Alike ν.ids μ.ids

module _ {types : List ℕ} (ν μ : Valuation types) (N : AlikeValuations ν μ) where
  values_alike : (ss us : List Sense) → All2 Similar ss us → (ρ : List ℤ) → Both (All2 Alike) (values ss ρ) (values us ρ)
  values_alike ss us a ρ = each_both Similar Alike (λ s. s ρ) (λ u. u ρ) (λ s u h. h ρ) ss us a

  node_alike : (k : Code) (ss us : List Sense) → All2 Similar ss us → Similar (sense ν k ss) (sense μ k us)
  node_alike (con c) ss us a ρ = nullary_alike _ _ (both (alike_refl (constant c))) ss us a
  node_alike (ident k) ss us a ρ = nullary_alike _ _ (nth_alike ν.ids μ.ids N.alike_ids k) ss us a
  node_alike (bound i) ss us a ρ = nullary_alike _ _ (same_alike _ _ refl) ss us a
  node_alike (lit w) ss us a ρ = nullary_alike _ _ (both ints) ss us a
  node_alike (rel r) ss us a ρ = then_both _ _ (values_alike ss us a ρ) (λ vs ws b. relation_alike vs ws b r)
  node_alike (fun f) ss us a ρ = then_both _ _ (values_alike ss us a ρ) (λ vs ws b. function_alike vs ws b f)
  node_alike (many m) ss us a ρ = then_both _ _ (values_alike ss us a ρ) (λ vs ws b. several_alike vs ws b m)
  node_alike (qu b n) ss us a ρ = rw (N.same_lo, N.same_hi) (binder_alike b ss us a (choices (interval μ.lo μ.hi) n ρ))

  -- values with the same contents give values with the same contents, ..
  pub alike : (x : Tree) (ρ : List ℤ) → AlikeO (eval ν x ρ) (eval μ x ρ)
  alike x = relate (sense ν) (sense μ) Similar node_alike x

  -- .. and the same truth
  truth_alike : (o p : Option Val) → AlikeO o p → (b : Bool) → o ≡ some (truth b) → p ≡ some (truth b)
  truth_alike o p neither b e = none_some e
  truth_alike o p (both {a = v} {b = w} r) b e = go v w r (some_inj e)
    where
      go : (v w : Val) → Alike v w → v ≡ truth b → some w ≡ some (truth b)
      go v w truths e = ap some e
      go v w ints e = cc
      go v w boos e = cc
      go v w (sets h) e = cc
      go v w naturals e = cc
      go v w positives e = cc
      go v w (pairs a b) e = cc

  pub alike_truth : (x : Tree) (ρ : List ℤ) (b : Bool) → eval ν x ρ ≡ some (truth b) → eval μ x ρ ≡ some (truth b)
  alike_truth x ρ b e = truth_alike (eval ν x ρ) (eval μ x ρ) (alike x ρ) b e

  pub alike_refutes : (hypotheses : List (Predicate types)) (goal : Predicate types) → Refutes ν hypotheses goal → Refutes μ hypotheses goal
  alike_refutes hs g R = record { hold = all hs R.hold; fails = alike_truth g.form [] false R.fails }
    where
      all : (hs : List (Predicate types)) → AllTrue ν hs → AllTrue μ hs
      all [] a = tt
      all (h ∷ hs) a = (alike_truth h.form [] true a.0, all hs a.1)
