-- Stripping ¬ on bytes is stripping it on trees.
use Prim.Native.Nat.{ℕ, zero, suc, ◌+◌, ◌-◌, ◌≤◌}
use mathlib.Core.Path.{◌≡◌, refl, sym, ap, ◌∙◌, subst}
use mathlib.Core.Bool.{Bool, true, false, not, ◌&&◌}
use mathlib.Core.Option.{some}
use mathlib.Core.List.{List, [], ◌∷◌, ◌++◌, append-nil}
use native.Mathlib.Omega.{arith}
use lib.ListN.{length}
use lib.Dec.{eqb}
use borrow.Author.Tests.{eqb-true}
use Rattle.formula.specs.Pick.{pick}
use Rattle.formula.specs.Codes.{Code, fun, neg, byte_of}
use Rattle.formula.specs.Types.{Ty, types_of, among, may_all}
use Rattle.formula.specs.NodeTable.{Row, row_of, fun_row, Number, nothing, declares, operands, sort_of_kinds}
use Rattle.formula.specs.Tree.{Tree, node, Trees, nil, ◌▹◌, size, number_of, encode}
use Rattle.formula.specs.Formed.{Formed, inner}
use Rattle.formula.specs.Typing.{right, well_made, result_of, type_of, types_in}
use Rattle.formula.specs.declared.Sort.TheVariants as sort
use Rattle.formula.proofs.Choices.{and_left, and_right, pick_some}
use Rattle.formula.proofs.Shaped.{deeper}
use Rattle.formula.proofs.Typed.{may_some}
use Rattle.keys.specs.Strip.{Stripped, bare, strip, strip_one}
use Rattle.keys.specs.Mirror.Stripping.{strip_from}
use Rattle.keys.specs.declared.strip.Bare.{Bare}
use Rattle.keys.proofs.Standing.{There, first_byte, row_by, plain_long, operands_there}

-- the types of the operands of a node that has a type
pub operands_typed : (Γ : List Ty) (d : ℕ) (k : Code) (xs : Trees) (τ : Ty) → type_of Γ d (node k xs) ≡ some τ → right k (types_in Γ (inner d k (size xs)) xs) ≡ true
unfolding type_of
operands_typed Γ d k xs τ e =
    let o = types_in Γ (inner d k (size xs)) xs in
    and_right (well_made Γ d k (size xs)) (right k o) (pick_some (well_made Γ d k (size xs) && right k o) (result_of (row_of k).result Γ (number_of k (size xs)) o) τ e).0

module _ (s types : List ℕ) where
  -- the stripped predicate stands there, ends at e, has at most l levels, and a type
  pub record BareIs (l e : ℕ) (b : Bare) (z : Stripped) : Type 0 where
    pub value_is : b.value ≡ z.value
    pub there : There s b.at z.predicate
    pub ends : b.at + length (encode z.predicate) ≡ e
    pub short : length (encode z.predicate) ≤ 1024
    pub formed : Formed l (length types) 0 sort.Predicate z.predicate
    pub type : Ty
    pub typed : type_of (types_of types) 0 z.predicate ≡ some type

  bare_is : (l p : ℕ) (b : Bool) (x : Tree) (τ : Ty) → length (encode x) ≤ 1024 → Formed l (length types) 0 sort.Predicate x → There s p x → type_of (types_of types) 0 x ≡ some τ
      → BareIs l (p + length (encode x)) (record { at = p; value = b }) (bare b x)
  bare_is l p b x τ c F T t = record { value_is = refl; there = T; ends = refl; short = c; formed = F; type = τ; typed = t }

  -- the operand of ¬
  record Under (l p e : ℕ) (y : Tree) : Type 0 where
    there : There s (p + 1) y
    ends : p + 1 + length (encode y) ≡ e
    formed : Formed (l - 1) (length types) 0 sort.Predicate y
    type : Ty
    typed : type_of (types_of types) 0 y ≡ some type

  under : (k : Code) (y : Tree) (ys : Trees) (l p : ℕ) (τ : Ty) → byte_of k ≡ 3 → Formed l (length types) 0 sort.Predicate (node k (y ▹ ys)) → There s p (node k (y ▹ ys))
      → type_of (types_of types) 0 (node k (y ▹ ys)) ≡ some τ → Under l p (p + length (encode (node k (y ▹ ys)))) y
  unfolding encode Formed type_of
  under k y nil l p τ e F T t =
      let R : row_of k ≡ fun_row neg = row_by k (fun neg) e in
      let N : (row_of k).number ≡ nothing = ap (λ (r : Row). r.number) R in
      let i : inner 0 k 1 ≡ 0 = ap (λ (ν : Number). 0 + declares ν (number_of k 1)) N in
      let G : Formed (l - 1) (length types) (inner 0 k 1) (sort_of_kinds (row_of k).first) y = F.2.0 in
      let m : may_all (among (row_of k).first) (row_of k).rest (type_of (types_of types) (inner 0 k 1) y ∷ []) ≡ true = operands_typed (types_of types) 0 k (y ▹ nil) τ t in
      let u = may_some (among (row_of k).first) (type_of (types_of types) (inner 0 k 1) y) (and_left _ _ m) in
      let w = plain_long k (y ▹ nil) N in
      let v = ap length (append-nil (encode y)) in
      record {
        there = (T.0, operands_there k (y ▹ nil) N s p T ∙ ap (λ (z : List ℕ). z ++ T.0) (append-nil (encode y)));
        ends = omega (arith, w, v);
        formed = subst (λ (r : Row). Formed (l - 1) (length types) 0 (sort_of_kinds r.first) y) R (rw i at G);
        type = u.0;
        typed = ap (λ (d : ℕ). type_of (types_of types) d y) (sym i) ∙ u.1;
      }
  under k y (z ▹ zs) l p τ e F T t =
      let n : suc (suc (size zs)) ≡ operands (row_of k).arity (number_of k (suc (suc (size zs)))) = F.1.operands_are in
      let m : suc (suc (size zs)) ≡ 1 = rw (row_by k (fun neg) e) at n in absurd (omega (arith, m))

  strip_case : (k : Code) (xs : Trees) (l n p : ℕ) (b : Bool) (τ : Ty) → length (encode (node k xs)) ≤ 1024 → Formed l (length types) 0 sort.Predicate (node k xs) → There s p (node k xs) → type_of (types_of types) 0 (node k xs) ≡ some τ
      → (byte_of k ≡ 3 → BareIs l (p + length (encode (node k xs))) (strip_from n s (p + 1) (not b)) (strip_one b (node k xs) xs)) → (v : Bool) → eqb (byte_of k) 3 ≡ v
      → BareIs l (p + length (encode (node k xs))) (pick v (strip_from n s (p + 1) (not b)) (record { at = p; value = b })) (pick v (strip_one b (node k xs) xs) (bare b (node k xs)))
  strip_case k xs l n p b τ c F T t f true e = f (eqb-true (byte_of k) 3 e)
  strip_case k xs l n p b τ c F T t f false e = bare_is l p b (node k xs) τ c F T t

  mutual
    unfolding strip strip_from Formed

    -- THE LAW of stripping
    pub strip_is : (x : Tree) (l n p : ℕ) (b : Bool) (τ : Ty) → l ≤ n → length (encode x) ≤ 1024 → Formed l (length types) 0 sort.Predicate x → There s p x → type_of (types_of types) 0 x ≡ some τ
        → BareIs l (p + length (encode x)) (strip_from n s p b) (strip b x)
    strip_is (node k xs) l zero p b τ h c F T t = absurd (omega (arith, F.0))
    strip_is (node k xs) l (suc n) p b τ h c F T t =
        rw (first_byte s p k xs T) (strip_case k xs l n p b τ c F T t (λ e. strip_one_law xs k l n p b τ h c F T t e) (eqb (byte_of k) 3) refl)

    strip_one_law : (xs : Trees) (k : Code) (l n p : ℕ) (b : Bool) (τ : Ty) → l ≤ suc n → length (encode (node k xs)) ≤ 1024 → Formed l (length types) 0 sort.Predicate (node k xs) → There s p (node k xs)
        → type_of (types_of types) 0 (node k xs) ≡ some τ → byte_of k ≡ 3 → BareIs l (p + length (encode (node k xs))) (strip_from n s (p + 1) (not b)) (strip_one b (node k xs) xs)
    strip_one_law nil k l n p b τ h c F T t e =
        let m : 0 ≡ operands (row_of k).arity (number_of k 0) = F.1.operands_are in
        let j : ◌≡◌ {A = ℕ} 0 1 = rw (row_by k (fun neg) e) at m in absurd (omega (arith, j))
    strip_one_law (y ▹ ys) k l n p b τ h c F T t e =
        let u = under k y ys l p τ e F T t in
        let w = u.ends in
        let z = strip_is y (l - 1) n (p + 1) (not b) u.type (omega arith) (omega arith) u.formed u.there u.typed in
        record {
          value_is = z.value_is;
          there = z.there;
          ends = z.ends ∙ u.ends;
          short = z.short;
          formed = deeper (strip (not b) y).predicate (l - 1) l (length types) 0 sort.Predicate (omega arith) z.formed;
          type = z.type;
          typed = z.typed;
        }
