-- The cases of the desk's code.
use Prim.Native.Nat.{ℕ, suc, ◌+◌, ◌-◌, ◌<◌, ◌≤◌}
use mathlib.Core.Path.{◌≡◌, refl, ap, ◌∙◌}
use mathlib.Core.Bool.{Bool, true, false}
use mathlib.Core.List.{List, [], ◌∷◌}
use native.Mathlib.Nat.{sub-zero}
use native.Mathlib.Omega.{arith}
use lib.ListN.{length, get_or}
use lib.Seq.{take-length}
use borrow.Author.Tests.{le-leb, lt-leb}
use Rattle.std.specs.List.{between}
use Rattle.std.specs.Prelude.{slice_range, Option, Some, None}
use Rattle.formula.specs.Equal.{same_bytes}
use Rattle.desk.specs.Mirror.Bytes.{after_flag, has_formula, find_from, find_in}
use Rattle.desk.specs.declared.hypotheses.Hypotheses.{Hypotheses}

-- the bytes after the first one
after_first : (y x : List ℕ) → 1 ≤ length y → same_bytes (between 1 (length y) y) x ≡ after_flag y x
after_first [] x h = absurd (omega arith)
after_first (flag ∷ y) x h =
    let e : suc (length y) - 1 ≡ length y = omega arith in
    rw (e, take-length y) refl

pub has_hit : (bytes : List ℕ) (p q : ℕ) (x y : List ℕ) (r : Bool) → p ≤ q → q ≤ length bytes → y ≡ slice_range bytes p q → 1 ≤ length y → r ≡ same_bytes (between 1 (length y) y) x → r ≡ has_formula bytes p q x
unfolding has_formula
has_hit bytes p q x y r h k y≡ n r≡ = simp (le-leb p q h, le-leb q (length bytes) k) (rw (← y≡) (r≡ ∙ after_first y x n))

-- ---- finding
module _ (h : Hypotheses) (x : List ℕ) where
  pub find_past : 64 < h.view.hypotheses → None ≡ find_in h x
  unfolding find_in
  find_past p = simp (lt-leb _ _ p)

  pub find_starts : h.view.hypotheses ≤ 64 → find_from (h.view.hypotheses - 0) h.bytes.now h.places.now 0 x ≡ find_in h x
  unfolding find_in
  find_starts p = ap (λ (n : ℕ). find_from n h.bytes.now h.places.now 0 x) (sub-zero h.view.hypotheses) ∙ simp (le-leb _ _ p)

module _ (d l : List ℕ) (n i : ℕ) (x : List ℕ) (z : Option ℕ) (g : find_from (n - i) d l i x ≡ z) where
  pub find_none : n ≤ i → None ≡ z
  unfolding find_from
  find_none p = let k : n - i ≡ 0 = omega arith in rw k at g

  module _ (p : i < n) (b : Bool) (b≡ : b ≡ has_formula d (get_or l i 0) (get_or l (i + 1) 0) x) where
    left_is : n - i ≡ suc (n - (i + 1))
    left_is = omega (arith, p)

    pub find_hit : b ≡ true → Some i ≡ z
    unfolding find_from
    find_hit q = simp (← b≡, q) at (rw left_is at g)

    pub find_goes : b ≡ false → find_from (n - (i + 1)) d l (i + 1) x ≡ z
    unfolding find_from
    find_goes q = simp (← b≡, q) at (rw left_is at g)

pub ruleset finds = (find_past, find_starts, find_none, find_hit, find_goes)
