-- What reading a formula answers, of any bytes; and the formulas that document 01 accepts.
use Rattle.std.specs.Prelude.{ℕ, ◌+◌, ◌≤◌, ◌≡◌, List, length, Result, Ok, Err}
use Rattle.std.proofs.Math.Option.{Option, some, none}
use Rattle.formula.specs.Types.{Ty, types_of}
use Rattle.formula.specs.Tree.{Tree, encode}
use Rattle.formula.specs.Formed.{Formed}
use Rattle.formula.specs.Typing.{first_wrong, type_of}
use Rattle.refusal.specs.Refusal.{said_of}
use Rattle.formula.specs.Reading.{Parsed, got, not_got, formula_at}
use Rattle.formula.specs.declared.Sort.{Sort}
use Rattle.refusal.specs.declared.Cause.TheVariants as cause
use Rattle.refusal.specs.declared.Refusal.{Refusal}
use Rattle.refusal.specs.declared.Said.{Said}

-- "Only a formula without these is asked 8, at the first node in prefix order whose direct operand is wrong"
abbrev pub typed? : Tree → ℕ → Option ℕ → Parsed Tree
typed? x end none = got x end
typed? x end (some p) = not_got cause.Type p

abbrev pub asked8 : List Ty → ℕ → Parsed Tree → Parsed Tree
asked8 Γ start (got x end) = typed? x end (first_wrong Γ start x)
asked8 Γ start (not_got c at) = not_got c at

-- the formula of the sort σ from `start` on: at most 1,024 bytes and 32 levels (root is level 1)
unfoldable pub tree_at : List ℕ → List ℕ → Sort → ℕ → Parsed Tree
tree_at s types σ start = asked8 (types_of types) start (formula_at s (length types) (start + 1024) 32 0 σ start)

-- where it ends, or why it is refused
abbrev pub end_or_refusal : Parsed Tree → Result ℕ Refusal
end_or_refusal (got x end) = Ok end
end_or_refusal (not_got c at) = Err (record { cause = c; at = at })

unfoldable pub read_formula : List ℕ → List ℕ → Sort → ℕ → Result ℕ Refusal
read_formula s types σ start = end_or_refusal (tree_at s types σ start)

-- its end, or document 01's number and place
unfoldable pub said : ℕ → Result ℕ Refusal → Result ℕ Said
said len (Ok end) = Ok end
said len (Err r) = Err (said_of r len)

-- ---- ACCEPTED: formed by the table, within the limits, in scope, and typed
pub record Formula (types : List ℕ) (σ : Sort) (x : Tree) : Type 0 where
  pub formed : Formed 32 (length types) 0 σ x
  pub short : length (encode x) ≤ 1024
  pub type : Ty
  pub typed : type_of (types_of types) 0 x ≡ some type
