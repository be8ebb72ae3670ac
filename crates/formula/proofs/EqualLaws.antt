-- Bytes compared one by one are the same if the ranges are.
use Prim.Native.Nat.{ℕ, zero, suc, ◌+◌, ◌<◌, ◌≤◌}
use mathlib.Core.Path.{◌≡◌, refl, sym, ap, ◌∙◌}
use mathlib.Core.Bool.{Bool, true, false}
use mathlib.Core.List.{List, ◌∷◌}
use native.Mathlib.Numerals.{add-one}
use native.Mathlib.Omega.{arith}
use lib.ListN.{length, get_or, take, drop}
use lib.Seq.{drop-cons}
use lib.Dec.{eqb}
use borrow.Author.Tests.{eq-eqb, eqb-true}
use Rattle.formula.specs.Pick.{pick}
use Rattle.formula.specs.Mirror.Ranges.{same_at}
use Rattle.formula.proofs.Choices.{never}

first_byte : (s : List ℕ) (a : ℕ) → a < length s → drop a s ≡ get_or s a 0 ∷ drop (a + 1) s
first_byte s a h = drop-cons s a 0 h ∙ ap (λ (m : ℕ). get_or s a 0 ∷ drop m s) (sym (add-one a))

both : (b c : Bool) → pick b c false ≡ true → (b ≡ true) × (c ≡ true)
both true c e = (refl, e)
both false c e = never e

module _ (s t : List ℕ) where
  pub same_is : (n a b : ℕ) → a + n ≤ length s → b + n ≤ length t → same_at n s a t b ≡ true → take n (drop a s) ≡ take n (drop b t)
  unfolding same_at
  same_is zero a b h k e = refl
  same_is (suc n) a b h k e =
      let i = both (eqb (get_or s a 0) (get_or t b 0)) (same_at n s (a + 1) t (b + 1)) e in
      let q = eqb-true (get_or s a 0) (get_or t b 0) i.0 in
      let j = same_is n (a + 1) (b + 1) (omega arith) (omega arith) i.1 in
      rw (first_byte s a (omega arith), first_byte t b (omega arith)) (cc)

  pub is_same : (n a b : ℕ) → a + n ≤ length s → b + n ≤ length t → take n (drop a s) ≡ take n (drop b t) → same_at n s a t b ≡ true
  unfolding same_at
  is_same zero a b h k e = refl
  is_same (suc n) a b h k e =
      let f = rw (first_byte s a (omega arith), first_byte t b (omega arith)) at e in
      let q : get_or s a 0 ≡ get_or t b 0 = cc in
      let r : take n (drop (a + 1) s) ≡ take n (drop (b + 1) t) = cc in
      simp (eq-eqb _ _ q) (is_same n (a + 1) (b + 1) (omega arith) (omega arith) r)
