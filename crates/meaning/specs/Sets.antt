-- Integers compared, and finite sets of integers: a set is given by its members, not by their order or repetition.
use Rattle.std.specs.Prelude.{List, [], ◌∷◌, Bool, true, false, not, ◌&&◌, ◌||◌, eqb, ℤ, pos, negsuc}
use Rattle.formula.specs.Pick.{pick}

abbrev pub eq_z : ℤ → ℤ → Bool
eq_z (pos a) (pos b) = eqb a b
eq_z (pos a) (negsuc b) = false
eq_z (negsuc a) (pos b) = false
eq_z (negsuc a) (negsuc b) = eqb a b

-- z ∈ s
abbrev pub member : ℤ → List ℤ → Bool
member z [] = false
member z (x ∷ xs) = eq_z z x || member z xs

-- s ⊆ t: every member of s is in t
abbrev pub subset : List ℤ → List ℤ → Bool
subset [] t = true
subset (x ∷ s) t = member x t && subset s t

-- s ⊂ t: strict
abbrev pub strict : List ℤ → List ℤ → Bool
strict s t = subset s t && not (subset t s)

-- s = t: by contents
abbrev pub same_set : List ℤ → List ℤ → Bool
same_set s t = subset s t && subset t s

-- the members of s that pass a test
abbrev pub filter : (ℤ → Bool) → List ℤ → List ℤ
filter f [] = []
filter f (x ∷ s) = pick (f x) (x ∷ filter f s) (filter f s)

-- whether z is in every one of some sets
abbrev pub in_all : ℤ → List (List ℤ) → Bool
in_all z [] = true
in_all z (s ∷ ss) = member z s && in_all z ss
