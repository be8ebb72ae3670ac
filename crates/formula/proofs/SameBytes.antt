-- The same bytes are equal, and formulas that are accepted are equal where their bytes are.
use Prim.Native.Nat.{ℕ, ◌+◌, ◌≤◌}
use mathlib.Core.Path.{◌≡◌, refl, sym, ap}
use mathlib.Core.Bool.{true}
use mathlib.Core.List.{List, [], ◌∷◌}
use lib.ListN.{length, take, drop}
use lib.Dec.{eqb}
use borrow.Author.Tests.{eq-eqb, eqb-true}
use Rattle.formula.specs.Tree.{Tree, encode}
use Rattle.formula.specs.Formula.{Formula}
use Rattle.formula.specs.declared.Sort.{Sort}
use Rattle.formula.proofs.Accepted.{same_tree}
use Rattle.formula.proofs.SameType.{same_test}
use Rattle.formula.proofs.EqualLaws as EqualLaws
use Rattle.formula.proofs.Choices.{never, and_left, and_right}
use Rattle.formula.specs.Equal.{same_bytes, same}
use Rattle.formula.specs.Mirror.Ranges.{same_at}

pub same_bytes_refl : (xs : List ℕ) → same_bytes xs xs ≡ true
unfolding same_bytes
same_bytes_refl [] = refl
same_bytes_refl (x ∷ xs) = rw (eq-eqb x x refl) (same_bytes_refl xs)

pub same_bytes_is : (xs ys : List ℕ) → same_bytes xs ys ≡ true → xs ≡ ys
unfolding same_bytes
same_bytes_is [] [] e = refl
same_bytes_is [] (y ∷ ys) e = never e
same_bytes_is (x ∷ xs) [] e = never e
same_bytes_is (x ∷ xs) (y ∷ ys) e =
    let p = eqb-true x y (and_left (eqb x y) (same_bytes xs ys) e) in
    let q = same_bytes_is xs ys (and_right (eqb x y) (same_bytes xs ys) e) in
    cc

pub is_same_bytes : (xs ys : List ℕ) → xs ≡ ys → same_bytes xs ys ≡ true
is_same_bytes xs ys e = rw (← e) (same_bytes_refl xs)

-- ranges of as many bytes
pub same_ranges : (s t : List ℕ) (n a b : ℕ) → a + n ≤ length s → b + n ≤ length t → same_at n s a t b ≡ same_bytes (take n (drop a s)) (take n (drop b t))
same_ranges s t n a b h k =
    same_test (same_at n s a t b) (same_bytes (take n (drop a s)) (take n (drop b t)))
    (λ e. is_same_bytes (take n (drop a s)) (take n (drop b t)) (EqualLaws.same_is s t n a b h k e))
    (λ e. EqualLaws.is_same s t n a b h k (same_bytes_is (take n (drop a s)) (take n (drop b t)) e))

-- ---- formulas
pub same_is : (x y : Tree) → same x y ≡ true → encode x ≡ encode y
unfolding same
same_is x y = same_bytes_is (encode x) (encode y)

pub is_same : (x y : Tree) → encode x ≡ encode y → same x y ≡ true
unfolding same
is_same x y = is_same_bytes (encode x) (encode y)

pub same_refl : (x : Tree) → same x x ≡ true
same_refl x = is_same x x refl

-- equality looks at the bytes alone
pub same_by : (x x' y y' : Tree) → encode x ≡ encode x' → encode y ≡ encode y' → same x y ≡ same x' y'
unfolding same
same_by x x' y y' e f = rw (e, f) refl

pub same_bytes_sym : (xs ys : List ℕ) → same_bytes xs ys ≡ same_bytes ys xs
same_bytes_sym xs ys = same_test (same_bytes xs ys) (same_bytes ys xs) (λ e. is_same_bytes ys xs (sym (same_bytes_is xs ys e))) (λ e. is_same_bytes xs ys (sym (same_bytes_is ys xs e)))

pub same_sym : (x y : Tree) → same x y ≡ same y x
unfolding same
same_sym x y = same_bytes_sym (encode x) (encode y)

module _ (types : List ℕ) (σ : Sort) (x y : Tree) (F : Formula types σ x) (G : Formula types σ y) where
  pub same_formula : same x y ≡ true → x ≡ y
  same_formula e = same_tree types σ x y F G (same_is x y e)

  pub formula_same : x ≡ y → same x y ≡ true
  formula_same e = is_same x y (ap encode e)
