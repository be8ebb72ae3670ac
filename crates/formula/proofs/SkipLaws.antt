-- The cases of skipping.
use Prim.Native.Nat.{ℕ, zero, suc, ◌+◌, ◌-◌, ◌<◌, ◌≤◌}
use mathlib.Core.Path.{◌≡◌, refl, sym, subst}
use mathlib.Core.List.{List}
use native.Mathlib.Omega.{arith}
use lib.ListN.{length}
use borrow.Author.Tests.{le-leb, lt-leb, eq-eqb, ne_eqb}
use Rattle.formula.specs.Mirror.PackedTable.{row_at, field, count_of}
use Rattle.formula.specs.Mirror.Bytes.{byte_at, own_byte, skip_from, skip_end}

pub skip_starts : (s : List ℕ) (at : ℕ) → skip_from 1024 s 1 at ≡ skip_end s at
unfolding skip_end
skip_starts s at = refl

module _ (s : List ℕ) (z : ℕ) where
  pub skip_zero : (fuel left p : ℕ) → skip_from fuel s left p ≡ z → fuel ≡ 0 → p ≡ z
  unfolding skip_from
  skip_zero zero left p e h = e
  skip_zero (suc fuel) left p e h = absurd (omega (arith, h))

  pub skip_done : (fuel left p : ℕ) → skip_from fuel s left p ≡ z → left ≡ 0 → p ≡ z
  unfolding skip_from
  skip_done zero left p e h = e
  skip_done (suc fuel) left p e h = simp (eq-eqb _ _ h) at e

  pub skip_end_law : (fuel left p : ℕ) → skip_from fuel s left p ≡ z → (left ≡ 0 → ⊥) → length s ≤ p → p ≡ z
  unfolding skip_from
  skip_end_law zero left p e h k = e
  skip_end_law (suc fuel) left p e h k = simp (ne_eqb _ _ h, le-leb _ _ k) at e

  module _ (fuel left p : ℕ) (e : skip_from fuel s left p ≡ z) (g : fuel ≡ 0 → ⊥) (h : left ≡ 0 → ⊥) (k : p < length s) (x b o : ℕ) (x≡ : x ≡ row_at b) (b≡ : b ≡ byte_at s p) (o≡ : o ≡ field x 0) where
    pub skip_short : length s - p ≤ o → p ≡ z
    unfolding skip_from
    skip_short l = go fuel e g
      where
        go : (fuel : ℕ) → skip_from fuel s left p ≡ z → (fuel ≡ 0 → ⊥) → p ≡ z
        go zero e f = absurd (f refl)
        go (suc fuel) e f = simp (ne_eqb _ _ h, lt-leb _ _ k, ← b≡, ← x≡, ← o≡, le-leb _ _ l) at e

    pub skip_step : o < length s - p → (c n f q : ℕ) → suc f ≡ fuel → q ≡ p + o + 1 → n ≡ own_byte x s (p + 1) → c ≡ count_of x n → skip_from f s (left - 1 + c) q ≡ z
    unfolding skip_from
    skip_step l c n f q f≡ q≡ n≡ c≡ =
        let t : skip_from (suc f) s left p ≡ z = subst (λ (m : ℕ). skip_from m s left p ≡ z) (sym f≡) e in
        rw (q≡, c≡, n≡) (simp (ne_eqb _ _ h, lt-leb _ _ k, ← b≡, ← x≡, ← o≡, lt-leb _ _ l) at t)

pub ruleset skips = (skip_starts, skip_zero, skip_done, skip_end_law, skip_short)
