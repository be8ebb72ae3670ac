-- Operands of the kinds that the table asks for are read, and the operator then gives a value of the type that the table says.
use Prim.Native.Nat.{ℕ, suc, ◌<◌}
use mathlib.Core.Path.{◌≡◌, refl, ap, sym, ◌∙◌, subst}
use mathlib.Core.List.{List, [], ◌∷◌, map}
use mathlib.Core.Bool.{Bool, true, not, ◌&&◌, ◌||◌, beq}
use mathlib.Core.Option.{Option, some}
use native.Mathlib.Omega.{arith}
use lib.ListN.{length}
use lib.IntN.{ℤ, neg_ℤ, ◌-ℤ◌}
use lib.Signed.{lt_z, le_z}
use Rattle.formula.specs.Codes as C
use Rattle.formula.specs.Codes.{Rel, Fun, Many, rel, fun, many}
use Rattle.formula.specs.Types as T
use Rattle.formula.specs.Types.{Ty, base, Kind, one, pairs, kind_of, among?, among, these, may_all}
use Rattle.formula.specs.NodeTable.{any_data, fun_row, many_row, operands}
use Rattle.formula.specs.Typing.{pair_of, result_of, right}
use Rattle.formula.proofs.Choices.{never, none_some, and_left, and_right, and_both}
use Rattle.formula.proofs.SameType.{eq_ty→eq}
use Rattle.formula.proofs.DataType.{dataBase?, data?, good}
use Rattle.formula.proofs.GoodType.{goods}
use Rattle.meaning.specs.Defined.{◌>>=◌, each, unary, binary}
use Rattle.meaning.specs.Value.{Val, truth, int, boo, set, nats, nats1, pair, ty_of, as_truth, as_int, as_boo, as_set, as_pair, as_data}
use Rattle.meaning.specs.Sets.{eq_z, member, subset, strict, same_set, filter}
use Rattle.meaning.specs.Operators.{equal, member_of, relation, function, several, all_true, some_true, sum, product, unions, inters}
use Rattle.meaning.proofs.Lists.{is_some, some_there, some_inj, step_inv}

-- a value, of this type
abbrev pub Has : Option Val → Ty → Type 0
Has o τ = (v : Val) × (o ≡ some v) × (ty_of v ≡ τ)

-- ---- one value
pub reads_truth : (v : Val) → is_some (as_truth v) ≡ among? (kind_of (ty_of v)) (one T.prop ∷ [])
reads_truth (truth b) = refl
reads_truth (int z) = refl
reads_truth (boo b) = refl
reads_truth (set s) = refl
reads_truth nats = refl
reads_truth nats1 = refl
reads_truth (pair a b) = refl

pub reads_int : (v : Val) → is_some (as_int v) ≡ among? (kind_of (ty_of v)) (one T.int ∷ [])
reads_int (truth b) = refl
reads_int (int z) = refl
reads_int (boo b) = refl
reads_int (set s) = refl
reads_int nats = refl
reads_int nats1 = refl
reads_int (pair a b) = refl

pub reads_boo : (v : Val) → is_some (as_boo v) ≡ among? (kind_of (ty_of v)) (one T.boo ∷ [])
reads_boo (truth b) = refl
reads_boo (int z) = refl
reads_boo (boo b) = refl
reads_boo (set s) = refl
reads_boo nats = refl
reads_boo nats1 = refl
reads_boo (pair a b) = refl

pub reads_set : (v : Val) → is_some (as_set v) ≡ among? (kind_of (ty_of v)) (one T.set ∷ [])
reads_set (truth b) = refl
reads_set (int z) = refl
reads_set (boo b) = refl
reads_set (set s) = refl
reads_set nats = refl
reads_set nats1 = refl
reads_set (pair a b) = refl

reads_pair : (v : Val) → is_some (as_pair v) ≡ among? (kind_of (ty_of v)) (pairs ∷ [])
reads_pair (truth b) = refl
reads_pair (int z) = refl
reads_pair (boo b) = refl
reads_pair (set s) = refl
reads_pair nats = refl
reads_pair nats1 = refl
reads_pair (pair a b) = refl

pub reads_data : (v : Val) → is_some (as_data v) ≡ among? (kind_of (ty_of v)) any_data
reads_data (truth b) = refl
reads_data (int z) = refl
reads_data (boo b) = refl
reads_data (set s) = refl
reads_data nats = refl
reads_data nats1 = refl
reads_data (pair a b) = refl

pub reads_member : (x : ℤ) (v : Val) → is_some (member_of x v) ≡ among? (kind_of (ty_of v)) (one T.set ∷ one T.nats ∷ one T.nats1 ∷ [])
reads_member x (truth b) = refl
reads_member x (int z) = refl
reads_member x (boo b) = refl
reads_member x (set s) = refl
reads_member x nats = refl
reads_member x nats1 = refl
reads_member x (pair a b) = refl

-- .. and what was read is what the value holds
pub is_truth : (w : Val) (b : Bool) → as_truth w ≡ some b → truth b ≡ w
is_truth (truth c) b = λ e. cc
is_truth (int y) b = λ e. cc
is_truth (boo c) b = λ e. cc
is_truth (set s) b = λ e. cc
is_truth nats b = λ e. cc
is_truth nats1 b = λ e. cc
is_truth (pair c d) b = λ e. cc

pub is_int : (w : Val) (z : ℤ) → as_int w ≡ some z → int z ≡ w
is_int (truth c) z = λ e. cc
is_int (int y) z = λ e. cc
is_int (boo c) z = λ e. cc
is_int (set s) z = λ e. cc
is_int nats z = λ e. cc
is_int nats1 z = λ e. cc
is_int (pair c d) z = λ e. cc

pub is_boo : (w : Val) (b : Bool) → as_boo w ≡ some b → boo b ≡ w
is_boo (truth c) b = λ e. cc
is_boo (int y) b = λ e. cc
is_boo (boo c) b = λ e. cc
is_boo (set s) b = λ e. cc
is_boo nats b = λ e. cc
is_boo nats1 b = λ e. cc
is_boo (pair c d) b = λ e. cc

pub is_set : (w : Val) (t : List ℤ) → as_set w ≡ some t → set t ≡ w
is_set (truth c) t = λ e. cc
is_set (int y) t = λ e. cc
is_set (boo c) t = λ e. cc
is_set (set s) t = λ e. cc
is_set nats t = λ e. cc
is_set nats1 t = λ e. cc
is_set (pair c d) t = λ e. cc

pub is_data : (w u : Val) → as_data w ≡ some u → u ≡ w
is_data (truth c) u = λ e. cc
is_data (int y) u = λ e. cc
is_data (boo c) u = λ e. cc
is_data (set s) u = λ e. cc
is_data nats u = λ e. cc
is_data nats1 u = λ e. cc
is_data (pair c d) u = λ e. cc

pub is_pair : (w : Val) (p : Val × Val) → as_pair w ≡ some p → pair p.0 p.1 ≡ w
is_pair (truth b) p e = none_some e
is_pair (int z) p e = none_some e
is_pair (boo b) p e = none_some e
is_pair (set s) p e = none_some e
is_pair nats p e = none_some e
is_pair nats1 p e = none_some e
is_pair (pair v w) p e = sym (ap (λ (q : Val × Val). pair q.0 q.1) (some_inj e))

-- a value that may stand there is read
module _ {A : Type 0} (get : Val → Option A) (ks : List Kind) (agree : (v : Val) → is_some (get v) ≡ among? (kind_of (ty_of v)) ks) where
  pub read_one : (v : Val) → among? (kind_of (ty_of v)) ks ≡ true → (a : A) × (get v ≡ some a)
  read_one v e = some_there (get v) (agree v ∙ e)

  -- operands all of these kinds, once for every count
  pub read_all : (vs : List Val) → may_all (among ks) (these ks) (map some (map ty_of vs)) ≡ true → (zs : List A) × (each get vs ≡ some zs) × (length zs ≡ length vs)
  read_all [] e = ([], refl, refl)
  read_all (v ∷ vs) e =
      let m = among? (kind_of (ty_of v)) ks in
      let x = read_one v (and_left m _ e) in
      let k = read_all vs (and_right m _ e) in
      (x.0 ∷ k.0, rw (x.1, k.1), ap suc k.2)

  -- and what was read was of these kinds
  pub was_read : (vs : List Val) (zs : List A) → each get vs ≡ some zs → may_all (among ks) (these ks) (map some (map ty_of vs)) ≡ true
  was_read [] zs e = refl
  was_read (v ∷ vs) zs e =
      let i = step_inv (get v) e in
      let j = step_inv (each get vs) i.2 in
      and_both _ _ (sym (agree v) ∙ ap is_some i.1) (was_read vs j.0 j.1)

pub read_truth : (v : Val) → among? (kind_of (ty_of v)) (one T.prop ∷ []) ≡ true → (b : Bool) × (as_truth v ≡ some b)
read_truth = read_one as_truth (one T.prop ∷ []) reads_truth

pub read_int : (v : Val) → among? (kind_of (ty_of v)) (one T.int ∷ []) ≡ true → (z : ℤ) × (as_int v ≡ some z)
read_int = read_one as_int (one T.int ∷ []) reads_int

read_data : (v : Val) → among? (kind_of (ty_of v)) any_data ≡ true → as_data v ≡ some v
read_data v e = let x = read_one as_data any_data reads_data v e in x.1 ∙ ap some (is_data v x.0 x.1)

-- ---- one operand, two operands
module _ {A : Type 0} (τ : Ty) where
  unary_has : (f : A → Val) → ((a : A) → ty_of (f a) ≡ τ) → (zs : List A) → length zs ≡ 1 → Has (unary (λ a. some (f a)) zs) τ
  unary_has f h [] n = absurd (omega arith)
  unary_has f h (a ∷ []) n = (f a, refl, h a)
  unary_has f h (a ∷ b ∷ zs) n = absurd (omega arith)

  binary_has : (f : A → A → Val) → ((a b : A) → ty_of (f a b) ≡ τ) → (zs : List A) → length zs ≡ 2 → Has (binary (λ a b. some (f a b)) zs) τ
  binary_has f h [] n = absurd (omega arith)
  binary_has f h (a ∷ []) n = absurd (omega arith)
  binary_has f h (a ∷ b ∷ []) n = (f a b, refl, h a b)
  binary_has f h (a ∷ b ∷ c ∷ zs) n = absurd (omega arith)

pub then_has : {A : Type 0} (τ : Ty) (o : Option A) (g : A → Option Val) {a : A} → o ≡ some a → Has (g a) τ → Has (o >>= g) τ
then_has τ o g e h = (h.0, rw e h.1, h.2)

module _ {A : Type 0} (get : Val → Option A) (ks : List Kind) (agree : (v : Val) → is_some (get v) ≡ among? (kind_of (ty_of v)) ks)
    (τ : Ty) (vs : List Val) (ok : may_all (among ks) (these ks) (map some (map ty_of vs)) ≡ true) where
  -- operands all of these kinds, then an operator that has a value at as many readings
  all_has : (g : List A → Option Val) → ((zs : List A) → length zs ≡ length vs → Has (g zs) τ) → Has (each get vs >>= g) τ
  all_has g h = let r = read_all get ks agree vs ok in then_has τ (each get vs) g r.1 (h r.0 r.2)

  one_has : (f : A → Val) → ((a : A) → ty_of (f a) ≡ τ) → length vs ≡ 1 → Has (each get vs >>= unary (λ a. some (f a))) τ
  one_has f t n = all_has (unary (λ a. some (f a))) (λ zs e. unary_has τ f t zs (e ∙ n))

  two_has : (f : A → A → Val) → ((a b : A) → ty_of (f a b) ≡ τ) → length vs ≡ 2 → Has (each get vs >>= binary (λ a b. some (f a b))) τ
  two_has f t n = all_has (binary (λ a b. some (f a b))) (λ zs e. binary_has τ f t zs (e ∙ n))

  many_has : (f : List A → Val) → ((zs : List A) → ty_of (f zs) ≡ τ) → Has (each get vs >>= λ zs. some (f zs)) τ
  many_has f t = all_has (λ zs. some (f zs)) (λ zs e. (f zs, refl, t zs))

-- ---- = has an answer at two values of one data type
pair_parts : (w : Val) (a b : Ty) → ty_of w ≡ T.pair a b → (p : Val × Val) × (as_pair w ≡ some p) × (a ≡ ty_of p.0) × (b ≡ ty_of p.1)
pair_parts w a b e =
    let p = read_one as_pair (pairs ∷ []) reads_pair w (rw e) in
    let q : T.pair (ty_of p.0.0) (ty_of p.0.1) ≡ T.pair a b = ap ty_of (is_pair w p.0 p.1) ∙ e in
    (p.0, p.1, cc, cc)

pub equal_has : (v w : Val) → ty_of w ≡ ty_of v → data? (ty_of v) ≡ true → (b : Bool) × (equal v w ≡ some b)
unfolding equal
equal_has (truth b) w e d = never d
equal_has (int z) w e d = let x = read_int w (rw e) in (eq_z z x.0, rw x.1)
equal_has (boo b) w e d = let x = read_one as_boo (one T.boo ∷ []) reads_boo w (rw e) in (beq b x.0, rw x.1)
equal_has (set s) w e d = let x = read_one as_set (one T.set ∷ []) reads_set w (rw e) in (same_set s x.0, rw x.1)
equal_has nats w e d = never d
equal_has nats1 w e d = never d
equal_has (pair v₁ v₂) w e d =
    let p = pair_parts w (ty_of v₁) (ty_of v₂) e in
    let l = equal_has v₁ p.0.0 (sym p.2) (and_left (data? (ty_of v₁)) (data? (ty_of v₂)) d) in
    let r = equal_has v₂ p.0.1 (sym p.3) (and_right (data? (ty_of v₁)) (data? (ty_of v₂)) d) in
    (l.0 && r.0, rw (p.1, l.1, r.1))

pub kind_data : (τ : Ty) → good τ ≡ true → among? (kind_of τ) any_data ≡ true → data? τ ≡ true
kind_data (base b) g h = elim b as (λ b. among? (one b) any_data ≡ true → dataBase? b ≡ true) [ T.prop ↦ λ h. never h | T.int ↦ λ h. refl | T.boo ↦ λ h. refl | T.set ↦ λ h. refl | T.nats ↦ λ h. never h | T.nats1 ↦ λ h. never h ] h
kind_data (T.pair a b) g h = g

-- ---- every operator
eq_has : (vs : List Val) → goods (map ty_of vs) ≡ true → length vs ≡ 2 → right (rel C.eq) (map some (map ty_of vs)) ≡ true → Has (relation C.eq vs) (base T.prop)
eq_has [] g n e = absurd (omega arith)
eq_has (v ∷ []) g n e = absurd (omega arith)
eq_has (v ∷ w ∷ []) g n e =
    let k = among? (kind_of (ty_of v)) any_data in
    let d = kind_data (ty_of v) (and_left (good (ty_of v)) _ g) (and_left k _ e) in
    let s = eq_ty→eq (ty_of v) (ty_of w) (and_left _ true (and_right k _ e)) in
    let b = equal_has v w (sym s) d in
    (truth b.0, rw b.1, refl)
eq_has (v ∷ w ∷ u ∷ us) g n e = absurd (omega arith)

mem_has : (vs : List Val) → length vs ≡ 2 → right (rel C.mem) (map some (map ty_of vs)) ≡ true → Has (relation C.mem vs) (base T.prop)
mem_has [] n e = absurd (omega arith)
mem_has (v ∷ []) n e = absurd (omega arith)
mem_has (v ∷ w ∷ []) n e =
    let k = among? (kind_of (ty_of v)) (one T.int ∷ []) in
    let x = read_int v (and_left k _ e) in
    let b = read_one (member_of x.0) (one T.set ∷ one T.nats ∷ one T.nats1 ∷ []) (reads_member x.0) w (and_left _ true (and_right k _ e)) in
    (truth b.0, rw (x.1, b.1), refl)
mem_has (v ∷ w ∷ u ∷ us) n e = absurd (omega arith)

maps_has : (vs : List Val) (τ : Ty) → length vs ≡ 2 → right (fun C.mapsto) (map some (map ty_of vs)) ≡ true → pair_of (map some (map ty_of vs)) ≡ some τ → Has (function C.mapsto vs) τ
maps_has [] τ n e q = absurd (omega arith)
maps_has (v ∷ []) τ n e q = absurd (omega arith)
maps_has (v ∷ w ∷ []) τ n e q =
    let k = among? (kind_of (ty_of v)) any_data in
    let x = read_data v (and_left k _ e) in
    let y = read_data w (and_left _ true (and_right k _ e)) in
    (pair v w, rw (x, y), some_inj q)
maps_has (v ∷ w ∷ u ∷ us) τ n e q = absurd (omega arith)

inters_has : (ss : List (List ℤ)) → 0 < length ss → Has (inters ss) (base T.set)
inters_has [] n = absurd (omega arith)
inters_has (s ∷ ss) n = (_, refl, refl)

module _ (vs : List Val) where
  pub relation_has : (r : Rel) → goods (map ty_of vs) ≡ true → length vs ≡ 2 → right (rel r) (map some (map ty_of vs)) ≡ true → Has (relation r vs) (base T.prop)
  relation_has C.eq g n e = eq_has vs g n e
  relation_has C.lt g n e = two_has as_int _ reads_int (base T.prop) vs e (λ x y. truth (lt_z x y)) (λ x y. refl) n
  relation_has C.le g n e = two_has as_int _ reads_int (base T.prop) vs e (λ x y. truth (le_z x y)) (λ x y. refl) n
  relation_has C.gt g n e = two_has as_int _ reads_int (base T.prop) vs e (λ x y. truth (lt_z y x)) (λ x y. refl) n
  relation_has C.ge g n e = two_has as_int _ reads_int (base T.prop) vs e (λ x y. truth (le_z y x)) (λ x y. refl) n
  relation_has C.mem g n e = mem_has vs n e
  relation_has C.sub g n e = two_has as_set _ reads_set (base T.prop) vs e (λ s t. truth (strict s t)) (λ s t. refl) n
  relation_has C.sube g n e = two_has as_set _ reads_set (base T.prop) vs e (λ s t. truth (subset s t)) (λ s t. refl) n

  pub function_has : (f : Fun) (Γ : List Ty) (τ : Ty) → right (fun f) (map some (map ty_of vs)) ≡ true → length vs ≡ operands (fun_row f).arity 0
      → result_of (fun_row f).result Γ 0 (map some (map ty_of vs)) ≡ some τ → Has (function f vs) τ
  function_has C.neg Γ τ e n q = one_has as_truth _ reads_truth τ vs e (λ a. truth (not a)) (λ a. some_inj q) n
  function_has C.imp Γ τ e n q = two_has as_truth _ reads_truth τ vs e (λ a b. truth (not a || b)) (λ a b. some_inj q) n
  function_has C.iff Γ τ e n q = two_has as_truth _ reads_truth τ vs e (λ a b. truth (beq a b)) (λ a b. some_inj q) n
  function_has C.minus Γ τ e n q = two_has as_int _ reads_int τ vs e (λ x y. int (x -ℤ y)) (λ x y. some_inj q) n
  function_has C.uminus Γ τ e n q = one_has as_int _ reads_int τ vs e (λ x. int (neg_ℤ x)) (λ x. some_inj q) n
  function_has C.diff Γ τ e n q = two_has as_set _ reads_set τ vs e (λ s t. set (filter (λ z. not (member z t)) s)) (λ s t. some_inj q) n
  function_has C.bool Γ τ e n q = one_has as_truth _ reads_truth τ vs e (λ a. boo a) (λ a. some_inj q) n
  function_has C.mapsto Γ τ e n q = maps_has vs τ n e q

  pub several_has : (m : Many) (Γ : List Ty) (k : ℕ) (τ : Ty) → right (many m) (map some (map ty_of vs)) ≡ true → 0 < length vs
      → result_of (many_row m).result Γ k (map some (map ty_of vs)) ≡ some τ → Has (several m vs) τ
  several_has C.and Γ k τ e n q = many_has as_truth _ reads_truth τ vs e (λ bs. truth (all_true bs)) (λ bs. some_inj q)
  several_has C.or Γ k τ e n q = many_has as_truth _ reads_truth τ vs e (λ bs. truth (some_true bs)) (λ bs. some_inj q)
  several_has C.add Γ k τ e n q = many_has as_int _ reads_int τ vs e (λ zs. int (sum zs)) (λ zs. some_inj q)
  several_has C.mul Γ k τ e n q = many_has as_int _ reads_int τ vs e (λ zs. int (product zs)) (λ zs. some_inj q)
  several_has C.union Γ k τ e n q = many_has as_set _ reads_set τ vs e (λ ss. set (unions ss)) (λ ss. some_inj q)
  several_has C.inter Γ k τ e n q = all_has as_set _ reads_set τ vs e inters (λ ss l. subst (Has (inters ss)) (some_inj q) (inters_has ss (omega arith)))
  several_has C.ext Γ k τ e n q = many_has as_int _ reads_int τ vs e (λ zs. set zs) (λ zs. some_inj q)
