-- Two ranges of bytes: their test compares the bytes, and is equality of the formulas that stand there.
use Prim.Native.Nat.{ℕ, zero, suc, ◌-◌, ◌≤◌}
use mathlib.Core.Path.{◌≡◌, refl, sym, ap, ◌∙◌}
use mathlib.Core.Bool.{Bool, true, false}
use mathlib.Core.List.{List, [], ◌∷◌}
use native.Mathlib.Omega.{arith}
use native.Mathlib.Nat.{sub-zero}
use lib.ListN.{length, get_or, take, drop}
use lib.Seq.{take-nil, slice, length-slice}
use Rattle.std.proofs.Common.{length-take, length-drop}
use Rattle.std.specs.Cmp.Lexicographic.{pointwise}
use lib.Dec.{eqb}
use borrow.Author.Tests.{le-ltb, eqb-true, eqb-false}
use Rattle.formula.specs.Pick.{pick}
use Rattle.formula.specs.Tree.{Tree, encode}
use Rattle.formula.specs.Equal.{same_bytes, same}
use Rattle.formula.specs.Equal.{Range}
use Rattle.formula.specs.Mirror.Ranges.{same_at, same_range}
use Rattle.formula.proofs.Choices.{never}
use Rattle.formula.proofs.SameType.{same_test}
use Rattle.formula.proofs.SameBytes.{same_bytes_is, same_ranges}

-- what == says of two slices
pub same_bytes_by : (xs ys : List ℕ) → pointwise eqb xs ys ≡ same_bytes xs ys
unfolding same_bytes
same_bytes_by [] [] = refl
same_bytes_by [] (y ∷ ys) = refl
same_bytes_by (x ∷ xs) [] = refl
same_bytes_by (x ∷ xs) (y ∷ ys) = rw (same_bytes_by xs ys) refl

module _ (x : List ℕ) (a e : ℕ) (y : List ℕ) (b f : ℕ) (h : a ≤ e) (k : e ≤ length x) (l : b ≤ f) (m : f ≤ length y) where
  other_length : (e - a ≡ f - b → ⊥) → same_bytes (take (e - a) (drop a x)) (take (f - b) (drop b y)) ≡ false
  other_length n =
      same_test (same_bytes (take (e - a) (drop a x)) (take (f - b) (drop b y))) false
      (λ q. let w = ap length (same_bytes_is _ _ q) in absurd (n (omega (arith, simp (length-take, length-drop) at w))))
      never

  -- ranges inside the buffers are the same if their bytes are
  pub ranges_are : same_range x a e y b f ≡ same_bytes (take (e - a) (drop a x)) (take (f - b) (drop b y))
  unfolding same_range
  ranges_are = simp (le-ltb _ _ k, le-ltb _ _ h, le-ltb _ _ m, le-ltb _ _ l) (go (eqb (e - a) (f - b)) refl)
    where
      go : (t : Bool) → eqb (e - a) (f - b) ≡ t → pick t (same_at (e - a) x a y b) false ≡ same_bytes (take (e - a) (drop a x)) (take (f - b) (drop b y))
      go true q =
          let w = eqb-true (e - a) (f - b) q in
          same_ranges x y (e - a) a b (omega arith) (omega arith) ∙ ap (λ (n : ℕ). same_bytes (take (e - a) (drop a x)) (take n (drop b y))) w
      go false q = sym (other_length (eqb-false (e - a) (f - b) q))

  pub ranges_compared : (r : Bool) (p q : List ℕ) → p ≡ take (e - a) (drop a x) → q ≡ take (f - b) (drop b y) → r ≡ pointwise eqb p q → r ≡ same_range x a e y b f
  ranges_compared r p q p≡ q≡ r≡ = r≡ ∙ rw (p≡, q≡) (same_bytes_by _ _ ∙ sym ranges_are)

-- ranges that hold formulas are the same if the formulas are
pub ranges_same : (x : List ℕ) (a e : ℕ) (X : Tree) (R : Range x a e X) (y : List ℕ) (b f : ℕ) (Y : Tree) (S : Range y b f Y) → same_range x a e y b f ≡ same X Y
unfolding same
ranges_same x a e X R y b f Y S = ranges_are x a e y b f R.from_to R.inside S.from_to S.inside ∙ rw (R.bytes_are, S.bytes_are) refl

-- ---- the formula in a range
pub slice_is : (a e : ℕ) (x : List ℕ) → a ≤ e → slice a e x ≡ take (e - a) (drop a x)
slice_is zero e x h = ap (λ (n : ℕ). take n x) (sym (sub-zero e))
slice_is (suc a) zero x h = absurd (omega (arith, h))
slice_is (suc a) (suc e) [] h = sym (take-nil (suc e - suc a))
slice_is (suc a) (suc e) (b ∷ x) h = let k : e - a ≡ suc e - suc a = omega arith in slice_is a e x (omega arith) ∙ ap (λ (n : ℕ). take n (drop a x)) k

-- a formula in a buffer: its bytes, and how many they are
module _ (x : List ℕ) (a e : ℕ) (y : Tree) (R : Range x a e y) where
  pub range_slice : slice a e x ≡ encode y
  range_slice = slice_is a e x R.from_to ∙ R.bytes_are

  pub range_count : length (encode y) ≡ e - a
  range_count = ap length (sym range_slice) ∙ length-slice a e x R.inside

-- ---- two formulas compared
module _ (x y : List ℕ) where
  pub same_by : (r : Bool) → r ≡ pointwise eqb x y → r ≡ same_bytes x y
  same_by r e = e ∙ same_bytes_by x y

  pub same_no : (length x ≡ length y → ⊥) → false ≡ same_bytes x y
  same_no n = same_test false (same_bytes x y) never (λ e. absurd (n (ap length (same_bytes_is x y e))))

  pub same_not_at : (i : ℕ) → (get_or x i 0 ≡ get_or y i 0 → ⊥) → false ≡ same_bytes x y
  same_not_at i n = same_test false (same_bytes x y) never (λ e. absurd (n (ap (λ (z : List ℕ). get_or z i 0) (same_bytes_is x y e))))

pub ruleset same_tests = (same_by, same_no, same_not_at)
