-- The interval lo..hi holds exactly the integers z with lo ≤ z ≤ hi.
use Prim.Native.Nat.{ℕ, zero, suc, ◌+◌, ◌-◌, ◌≤◌}
use mathlib.Core.Path.{◌≡◌, refl, ap, ap₂, sym, ◌∙◌, subst}
use mathlib.Core.List.Memᴰ
use mathlib.Core.Bool.{Bool, true, false, cond}
use mathlib.Core.Logic.{◌↔◌, ⊎_elim}
use native.Mathlib.Omega.{arith}
use lib.Dec.{T, ltb, leb}
use lib.IntN.{ℤ, pos, negsuc, suc_ℤ, nat_abs, ◌+ℤ◌, ◌-ℤ◌, +ℤ_comm, +ℤ_idr, +ℤ-suc_ℤ, suc_ℤ-+ℤ, -ℤ-+ℤ_cancel}
use lib.Signed.{le_z, non_neg, pos-nat_abs}
use borrow.Author.Tests.{ltb-true, ltb-false, leb-true, le-leb, lt-leb, le-ltb}
use Rattle.formula.proofs.Choices.{never}
use Rattle.formula.proofs.SameType.{same_test}
use Rattle.meaning.specs.Valuation.{from, interval}
use Rattle.meaning.proofs.Members.{In}

-- z + m ≤ z + n exactly if m ≤ n
add_le : (z : ℤ) (m n : ℕ) → le_z (z +ℤ pos m) (z +ℤ pos n) ≡ leb m n
add_le (pos a) m n = same_test _ _ (λ e. le-leb m n (let h = leb-true (a + m) (a + n) e in omega arith)) (λ e. le-leb (a + m) (a + n) (let h = leb-true m n e in omega arith))
add_le (negsuc a) m n = go (ltb m (suc a)) refl (ltb n (suc a)) refl
  where
    go : (b : Bool) → ltb m (suc a) ≡ b → (c : Bool) → ltb n (suc a) ≡ c
        → le_z (cond b (negsuc (suc a - suc m)) (pos (m - suc a))) (cond c (negsuc (suc a - suc n)) (pos (n - suc a))) ≡ leb m n
    go true p true q = let h = ltb-true m (suc a) p in let k = ltb-true n (suc a) q in
        same_test _ _ (λ e. le-leb m n (let i = leb-true (suc a - suc n) (suc a - suc m) e in omega arith)) (λ e. le-leb (suc a - suc n) (suc a - suc m) (let i = leb-true m n e in omega arith))
    go true p false q = let h = ltb-true m (suc a) p in let k = ltb-false n (suc a) q in sym (le-leb m n (omega arith))
    go false p true q = let h = ltb-false m (suc a) p in let k = ltb-true n (suc a) q in sym (lt-leb m n (omega arith))
    go false p false q = let h = ltb-false m (suc a) p in let k = ltb-false n (suc a) q in
        same_test _ _ (λ e. le-leb m n (let i = leb-true (m - suc a) (n - suc a) e in omega arith)) (λ e. le-leb (m - suc a) (n - suc a) (let i = leb-true m n e in omega arith))

-- lo ≤ z: the way from lo to z is not negative
gap : (lo z : ℤ) → le_z lo z ≡ true → T (non_neg (z -ℤ lo))
gap (pos zero) (pos b) e = tt
gap (pos (suc a)) (pos b) e = let h = leb-true (suc a) b e in rw (le-ltb b (suc a) h) tt
gap (pos a) (negsuc b) e = never e
gap (negsuc a) (pos b) e = tt
gap (negsuc a) (negsuc b) e = let h = leb-true b a e in rw (le-ltb (suc a) (suc b) (omega arith)) tt

-- .. and z is as many steps from lo
pub way : (lo z : ℤ) → le_z lo z ≡ true → z ≡ lo +ℤ pos (nat_abs (z -ℤ lo))
way lo z e = sym (+ℤ_comm lo (pos (nat_abs (z -ℤ lo))) ∙ ap (λ (d : ℤ). d +ℤ lo) (pos-nat_abs (z -ℤ lo) (gap lo z e)) ∙ -ℤ-+ℤ_cancel z lo)

-- the members of `from`
next : (lo : ℤ) (k : ℕ) → suc_ℤ lo +ℤ pos k ≡ lo +ℤ pos (suc k)
next lo k = suc_ℤ-+ℤ lo (pos k) ∙ sym (+ℤ-suc_ℤ lo (pos k))

from_in : (n : ℕ) (lo z : ℤ) → In z (from lo n) → (k : ℕ) × (k ≤ n) × (z ≡ lo +ℤ pos k)
from_in zero lo z m = (0, omega arith, Memᴰ.eq_of_singleton m ∙ sym (+ℤ_idr lo))
from_in (suc n) lo z m = ⊎_elim (λ e. (0, omega arith, e ∙ sym (+ℤ_idr lo))) (λ q. step (from_in n (suc_ℤ lo) z q)) (Memᴰ.cases_cons m)
  where
    step : (k : ℕ) × (k ≤ n) × (z ≡ suc_ℤ lo +ℤ pos k) → (k : ℕ) × (k ≤ suc n) × (z ≡ lo +ℤ pos k)
    step r = let h = r.1 in (suc r.0, omega arith, r.2 ∙ next lo r.0)

in_from : (n : ℕ) (lo : ℤ) (k : ℕ) → k ≤ n → In (lo +ℤ pos k) (from lo n)
in_from zero lo zero h = Memᴰ.head (+ℤ_idr lo)
in_from zero lo (suc k) h = absurd (omega arith)
in_from (suc n) lo zero h = Memᴰ.head (+ℤ_idr lo)
in_from (suc n) lo (suc k) h = Memᴰ.tail (subst (λ (z : ℤ). In z (from (suc_ℤ lo) n)) (next lo k) (in_from n (suc_ℤ lo) k (omega arith)))

module _ (lo hi : ℤ) (ordered : le_z lo hi ≡ true) (z : ℤ) where
  abbrev n : ℕ
  n = nat_abs (hi -ℤ lo)

  pub interval_in : In z (interval lo hi) → (le_z lo z ≡ true) × (le_z z hi ≡ true)
  unfolding interval
  interval_in m =
      let r = from_in n lo z m in
      let h = r.1 in (
        rw r.2 (subst (λ (y : ℤ). le_z y (lo +ℤ pos r.0) ≡ true) (+ℤ_idr lo) (add_le lo 0 r.0 ∙ le-leb 0 r.0 (omega arith))),
        ap₂ le_z r.2 (way lo hi ordered) ∙ add_le lo r.0 n ∙ le-leb r.0 n h,
      )

  pub in_interval : le_z lo z ≡ true → le_z z hi ≡ true → In z (interval lo hi)
  unfolding interval
  in_interval p q =
      let k = nat_abs (z -ℤ lo) in
      let h = leb-true k n (sym (add_le lo k n) ∙ sym (ap₂ le_z (way lo z p) (way lo hi ordered)) ∙ q) in
      subst (λ (y : ℤ). In y (from lo n)) (sym (way lo z p)) (in_from n lo k h)

  -- z ∈ lo..hi
  pub interval_is : In z (interval lo hi) ↔ ((le_z lo z ≡ true) × (le_z z hi ≡ true))
  interval_is = (interval_in, λ p. in_interval p.0 p.1)
