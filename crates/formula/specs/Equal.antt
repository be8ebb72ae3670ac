-- Formulas are compared by their bytes; the range of bytes where a formula stands.
use Rattle.std.specs.Prelude.{ℕ, ◌-◌, ◌≤◌, ◌≡◌, List, [], ◌∷◌, Bool, true, false, ◌&&◌, length, take, drop, eqb}
use Rattle.formula.specs.Tree.{Tree, encode}

unfoldable pub same_bytes : List ℕ → List ℕ → Bool
same_bytes [] [] = true
same_bytes [] (y ∷ ys) = false
same_bytes (x ∷ xs) [] = false
same_bytes (x ∷ xs) (y ∷ ys) = eqb x y && same_bytes xs ys

unfoldable pub same : Tree → Tree → Bool
same x y = same_bytes (encode x) (encode y)

-- the bytes of x from a to e are those of the formula y
pub record Range (x : List ℕ) (a e : ℕ) (y : Tree) : Type 0 where
  pub from_to : a ≤ e
  pub inside : e ≤ length x
  pub bytes_are : take (e - a) (drop a x) ≡ encode y
