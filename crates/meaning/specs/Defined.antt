-- What has a value only if each of its steps has one; and operands by their number.
use Rattle.std.specs.Prelude.{ℕ, zero, suc, List, [], ◌∷◌, ◌++◌}
use Rattle.std.proofs.Math.Option.{Option, some, none}

infixl 20 ◌>>=◌
abbrev pub ◌>>=◌ : {A B : Type 0} → Option A → (A → Option B) → Option B
◌>>=◌ none f = none
◌>>=◌ (some a) f = f a

-- the entry of a list at a place, if there is one
abbrev pub nth : {A : Type 0} → List A → ℕ → Option A
nth [] k = none
nth (a ∷ l) zero = some a
nth (a ∷ l) (suc k) = nth l k

module _ {A B : Type 0} where
  -- the readings of all, if each has one
  abbrev pub each : (A → Option B) → List A → Option (List B)
  each f [] = some []
  each f (x ∷ xs) = f x >>= λ y. each f xs >>= λ ys. some (y ∷ ys)

  abbrev pub concat_map : (A → List B) → List A → List B
  concat_map f [] = []
  concat_map f (x ∷ xs) = f x ++ concat_map f xs

  -- no operand, one, two
  abbrev pub nullary : Option B → List A → Option B
  nullary b [] = b
  nullary b (x ∷ xs) = none

  abbrev pub unary : (A → Option B) → List A → Option B
  unary f [] = none
  unary f (x ∷ []) = f x
  unary f (x ∷ y ∷ ys) = none

  abbrev pub binary : (A → A → Option B) → List A → Option B
  binary f [] = none
  binary f (x ∷ []) = none
  binary f (x ∷ y ∷ []) = f x y
  binary f (x ∷ y ∷ z ∷ zs) = none
