-- A list of formulas, and hypotheses that grow.
use Rattle.std.specs.Prelude.{ℕ, ◌+◌, ◌<◌, ◌⊎◌, ◌≡◌, List, [], ◌∷◌, ◌++◌, map, length, get_or, slice_range}
use Rattle.formula.specs.Tree.{Tree}
use Rattle.formula.specs.Equal.{Range}
use Rattle.desk.specs.Sequent.{Hypothesis}
use Rattle.desk.specs.File.{hypotheses_bytes}
use Rattle.desk.specs.declared.list.List.{List as Formulas}

-- ---- a list of formulas
-- formulas one after the other, from the i-th start on
unfoldable pub RangesFrom : List ℕ → List ℕ → ℕ → List Tree → Type 0
RangesFrom b starts i [] = Unit {0}
RangesFrom b starts i (x ∷ xs) = Range b (get_or starts i 0) (get_or starts (i + 1) 0) x × RangesFrom b starts (i + 1) xs

-- the formulas of a list of n from the i-th on
pub record Listing (b starts : List ℕ) (n i : ℕ) (xs : List Tree) : Type 0 where
  pub stand : RangesFrom b starts i xs
  pub count : n ≡ i + length xs

-- the bytes of the i-th formula of a lent list
abbrev pub formula_at : Formulas → ℕ → List ℕ
formula_at l i = slice_range l.bytes.now (get_or l.starts i 0) (get_or l.starts (i + 1) 0)

-- the formulas of a lent list
abbrev pub ListIs : Formulas → List Tree → Type 0
ListIs l = Listing l.bytes.now l.starts l.count 0

-- ---- hypotheses that grow
-- over the limits of a sequent, whatever its goal
unfoldable pub TooMuch : List ℕ → List Hypothesis → Type 0
TooMuch types hs = (64 < length hs) ⊎ (60000 < 8 + length types + length (hypotheses_bytes hs))

-- the formulas of hs, and further ones after them
pub record Extends (hs ks : List Hypothesis) : Type 0 where
  pub further : List Tree
  pub formulas_are : map (λ h. h.formula) ks ≡ map (λ h. h.formula) hs ++ further
