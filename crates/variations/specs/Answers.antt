-- What is answered of a predicate, on trees: by one entry, and by the first for it.
use Rattle.std.specs.Prelude.{ℕ, zero, suc, ◌+◌, ◌≤◌, ◌≡◌, List, [], ◌∷◌, length, Bool, Some, None}
use Rattle.std.specs.Prelude as std
use Rattle.std.proofs.Math.Option.{Option, some, none}
use Rattle.formula.specs.Pick.{pick}
use Rattle.formula.specs.Codes.{byte_of}
use Rattle.formula.specs.Tree.{Tree, node, encode}
use Rattle.formula.specs.Formed.{Formed}
use Rattle.formula.specs.Equal.{same}
use Rattle.formula.specs.Equal.{Range}
use Rattle.formula.specs.declared.Sort.TheVariants as sort
use Rattle.keys.specs.Substitutes.{Entry}
use Rattle.keys.specs.declared.rows.Asked.{Asked}

-- the truth value that stands for a predicate, if there is one
abbrev pub Answer : Type 0
Answer = std.Option Bool

-- what one position says of the predicate y
abbrev pub answer : Option Entry → Tree → Answer
answer none y = None
answer (some e) y = pick (same e.key y) (Some e.value) None

-- "the first entry for a predicate wins"
unfoldable pub first_for : List Entry → Tree → Answer
first_for [] y = None
first_for (e ∷ es) y = pick (same e.key y) (Some e.value) (first_for es y)

abbrev pub or_next : Answer → Answer → Answer
or_next None z = z
or_next (Some v) z = Some v

-- the first of n positions from k on that has one
unfoldable pub first_yes : (ℕ → Answer) → ℕ → ℕ → Answer
first_yes f zero k = None
first_yes f (suc n) k = or_next (f k) (first_yes f n (k + 1))

-- ---- the predicate asked
abbrev pub code_byte : Tree → ℕ
code_byte (node k xs) = byte_of k

-- r is the predicate y, which stands in t
pub record AskedOf (t : List ℕ) (y : Tree) (r : Asked) : Type 0 where
  pub code_is : r.code ≡ code_byte y
  pub stands : Range t r.whole.at r.whole.end y

-- r is the predicate that starts at `from`, also one under bound variables
abbrev pub AskedIs : List ℕ → ℕ → Asked → Type 0
AskedIs t from r = (l n d end : ℕ) (y : Tree) → Formed l n d sort.Predicate y → length (encode y) ≤ 1024 → Range t from end y → (r.whole.at ≡ from) × AskedOf t y r
