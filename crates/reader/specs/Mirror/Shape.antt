-- Whether two expressions have one type, as the code finds it.
use Rattle.std.specs.Prelude.{ℕ, zero, suc, ◌+◌, List, Bool, false, eqb, Option, Some, None}
use Rattle.formula.specs.Pick.{pick}
use Rattle.formula.specs.Mirror.PackedTable.{row_at, res}
use Rattle.formula.specs.Mirror.Bytes.{byte_at, type_at, skip_end}
use Rattle.reader.specs.declared.shape.Ends.{Ends}

unfoldable pub is_pair : List ℕ → ℕ → Bool
is_pair s i = eqb (res (row_at (byte_at s i))) 64

unfoldable pub are_pairs : List ℕ → ℕ → ℕ → Bool
are_pairs s a b = pick (is_pair s a) (is_pair s b) false

unfoldable pub leaf_ends : List ℕ → List ℕ → ℕ → ℕ → Option Ends
leaf_ends s types a b = pick (eqb (type_at s types a) (type_at s types b)) (Some (record { a = skip_end s a; b = skip_end s b })) None

abbrev pub then_shape : Option Ends → (ℕ → ℕ → Option Ends) → Option Ends
then_shape (Some e) k = k e.a e.b
then_shape None k = None

unfoldable pub shape : ℕ → List ℕ → List ℕ → ℕ → ℕ → Option Ends
shape zero s types a b = leaf_ends s types a b
shape (suc l) s types a b =
    pick (are_pairs s a b) (then_shape (shape l s types (a + 1) (b + 1)) (λ x y. shape l s types x y)) (leaf_ends s types a b)
