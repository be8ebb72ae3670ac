-- What the functions for C answer and write.
use Rattle.std.specs.Prelude.{ℕ, List, length, eqb, Bool, true, false, Result, Ok, Err}
use Rattle.formula.specs.Formula as F
use Rattle.formula.specs.Formula.{read_formula}
use Rattle.formula.specs.declared.Sort.{Sort}
use Rattle.formula.specs.declared.Sort.TheVariants as sort
use Rattle.refusal.specs.declared.Said.{Said}

-- 0 asks for a predicate, any other number for an expression
abbrev pub sort_if : Bool → Sort
sort_if true = sort.Predicate
sort_if false = sort.Expression

abbrev pub sort_asked : ℕ → Sort
sort_asked expression = sort_if (eqb expression 0)

-- the formula of the buffer s that starts at `start`
unfoldable pub read_here : List ℕ → List ℕ → ℕ → ℕ → Result ℕ Said
read_here s types expression start = F.said (length s) (read_formula s types (sort_asked expression) start)

-- a number and a place
abbrev pub said : ℕ → ℕ → Said
said n p = record { number = n; place = p }

-- 0 and the formula's end, else the number of the refusal and its place
abbrev pub told : Result ℕ Said → Said
told (Ok end) = said 0 end
told (Err x) = x
