-- A choice by a test, the first of two finds, and an entry of a list with gaps.
use Rattle.std.specs.Prelude.{ℕ, zero, suc, List, [], ◌∷◌}
use Rattle.std.proofs.Math.Option.{Option, some, none}
pub use Rattle.refusal.specs.Pick.{pick}

abbrev pub or_else : {A : Type 0} → Option A → Option A → Option A
or_else none b = b
or_else (some a) b = some a

-- the entry at a place of a list that may have gaps
abbrev pub at : {A : Type 0} → List (Option A) → ℕ → Option A
at [] i = none
at (a ∷ l) zero = a
at (a ∷ l) (suc i) = at l i
