-- What the code's functions need: the steps of stripping.
use Prim.Native.Nat.{ℕ, suc, ◌+◌, ◌-◌, ◌<◌, ◌≤◌}
use mathlib.Core.Path.{◌≡◌, refl}
use mathlib.Core.Bool.{Bool, true, false, not}
use mathlib.Core.List.{List}
use native.Mathlib.Omega.{arith}
use lib.ListN.{length, get_or, get_or-eq_default}
use lib.Dec.{ltb}
use borrow.Author.Tests.{eq-eqb, ne_eqb, ltb-true, ltb-false}
use Rattle.formula.specs.Mirror.Bytes.{byte_at}
use Rattle.keys.specs.Mirror.Stripping.{strip_from}
use Rattle.keys.specs.declared.strip.Bare.{Bare}

-- a byte that is not 0 is inside
pub byte_inside : (s : List ℕ) (p : ℕ) → (byte_at s p ≡ 0 → ⊥) → p < length s
unfolding byte_at
byte_inside s p h = go (ltb p (length s)) refl
  where
    go : (v : Bool) → ltb p (length s) ≡ v → p < length s
    go true q = ltb-true _ _ q
    go false q = absurd (h (get_or-eq_default s 0 (ltb-false _ _ q)))

-- n levels are passed
module _ (s : List ℕ) (n p : ℕ) (b : Bool) (z : Bare) (e : strip_from (32 - n) s p b ≡ z) where
  strips_by : (m : ℕ) → m ≡ 32 - n → strip_from m s p b ≡ z
  strips_by m h = rw h e

  pub strip_end : 32 ≤ n → record { at = p; value = b } ≡ z
  unfolding strip_from
  strip_end h = strips_by 0 (omega arith)

  pub strip_other : n < 32 → (get_or s p 0 ≡ 3 → ⊥) → record { at = p; value = b } ≡ z
  unfolding strip_from byte_at
  strip_other h k = simp (ne_eqb (get_or s p 0) 3 k) at (strips_by (suc (31 - n)) (omega arith))

  pub strip_past : n < 32 → length s ≤ p → record { at = p; value = b } ≡ z
  strip_past h k = strip_other h (λ e. let i = get_or-eq_default s 0 k in omega (arith, e, i))

  pub strip_goes : n < 32 → get_or s p 0 ≡ 3 → strip_from (32 - (n + 1)) s (p + 1) (not b) ≡ z
  unfolding strip_from byte_at
  strip_goes h k =
      let j : 32 - (n + 1) ≡ 31 - n = omega arith in
      rw j (simp (eq-eqb (get_or s p 0) 3 k) at (strips_by (suc (31 - n)) (omega arith)))

pub ruleset strips = (strip_end, strip_other, strip_past, strip_goes)
