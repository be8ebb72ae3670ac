-- Bytes of a node, and skipping, as the code does it.
use Rattle.std.specs.Prelude.{ℕ, zero, suc, ◌+◌, ◌-◌, List, length, get_or, leb, eqb}
use Rattle.formula.specs.Pick.{pick}
use Rattle.formula.specs.Mirror.PackedTable.{row_at, own, count_of, type_by}

unfoldable pub byte_at : List ℕ → ℕ → ℕ
byte_at s i = get_or s i 0

unfoldable pub own_byte : ℕ → List ℕ → ℕ → ℕ
own_byte x s i = pick (eqb (own x) 0) 0 (byte_at s i)

-- the type of the node at i, by its code
unfoldable pub type_at : List ℕ → List ℕ → ℕ → ℕ
type_at s types i = pick (leb (length s) i) 0 (type_by (row_at (byte_at s i)) types (own_byte (row_at (byte_at s i)) s (i + 1)))

-- the end of `left` formulas from p on
unfoldable pub skip_from : ℕ → List ℕ → ℕ → ℕ → ℕ
skip_from zero s left p = p
skip_from (suc fuel) s left p =
    pick (eqb left 0) p
    (pick (leb (length s) p) p
    (pick (leb (length s - p) (own (row_at (byte_at s p)))) p
    (skip_from fuel s (left - 1 + count_of (row_at (byte_at s p)) (own_byte (row_at (byte_at s p)) s (p + 1))) (p + own (row_at (byte_at s p)) + 1))))

unfoldable pub skip_end : List ℕ → ℕ → ℕ
skip_end s p = skip_from 1024 s 1 p
