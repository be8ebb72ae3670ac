-- Ranges of bytes compared one by one.
use Rattle.std.specs.Prelude.{ℕ, zero, suc, ◌+◌, ◌-◌, List, Bool, true, false, length, get_or, eqb, ltb}
use Rattle.formula.specs.Pick.{pick}

-- the n bytes from a on in s are those from b on in t
unfoldable pub same_at : ℕ → List ℕ → ℕ → List ℕ → ℕ → Bool
same_at zero s a t b = true
same_at (suc n) s a t b = pick (eqb (get_or s a 0) (get_or t b 0)) (same_at n s (a + 1) t (b + 1)) false

-- the bytes from a to e in x are those from b to f in y: the lengths first
unfoldable pub same_range : List ℕ → ℕ → ℕ → List ℕ → ℕ → ℕ → Bool
same_range x a e y b f =
    pick (ltb (length x) e) false
    (pick (ltb e a) false
    (pick (ltb (length y) f) false
    (pick (ltb f b) false
    (pick (eqb (e - a) (f - b)) (same_at (e - a) x a y b) false))))
