-- What the table says of a node by its class of codes, and what a node that it allows says of its operands.
use Prim.Native.Nat.{ℕ, ◌<◌}
use mathlib.Core.Path.{◌≡◌, refl}
use mathlib.Core.List.{List}
use mathlib.Core.Bool.{Bool, true, false, ◌||◌}
use native.Mathlib.Omega.{arith}
use lib.ListN.{length}
use lib.Dec.{eqb, ltb}
use borrow.Author.Tests.{eqb-true, ltb-false, not-true}
use Rattle.formula.specs.Codes as C
use Rattle.formula.specs.Codes.{Con, Rel, Fun, Many, Code}
use Rattle.formula.specs.Types as T
use Rattle.formula.specs.Types.{Ty, base}
use Rattle.formula.specs.NodeTable.{row_of, con_row, rel_row, fun_row, many_row, fixed, is, operands, declares}
use Rattle.formula.specs.NodeFault.{number_out}
use Rattle.formula.specs.Tree.{number_of}
use Rattle.formula.specs.Typing.{well_made}
use Rattle.formula.proofs.Choices.{and_left, and_right}
use Rattle.meaning.specs.Value.{ty_of}
use Rattle.meaning.specs.Operators.{constant}

module _ (Γ : List Ty) (d : ℕ) (k : Code) (n : ℕ) (made : well_made Γ d k n ≡ true) where
  pub made_arity : n ≡ operands (row_of k).arity (number_of k n)
  made_arity = eqb-true n (operands (row_of k).arity (number_of k n)) (and_left (eqb n (operands (row_of k).arity (number_of k n))) _ made)

  pub made_number : number_out (row_of k).number (number_of k n) (length Γ) d ≡ false
  made_number = not-true _ (and_right (eqb n (operands (row_of k).arity (number_of k n))) _ made)

pub con_arity : (c : Con) → (con_row c).arity ≡ fixed 0
con_arity = elim [ C.top ↦ refl | C.bot ↦ refl | C.empty ↦ refl | C.nat ↦ refl | C.nat1 ↦ refl | C.tru ↦ refl | C.fls ↦ refl ]

pub con_result : (c : Con) → (con_row c).result ≡ is (ty_of (constant c))
con_result = elim [ C.top ↦ refl | C.bot ↦ refl | C.empty ↦ refl | C.nat ↦ refl | C.nat1 ↦ refl | C.tru ↦ refl | C.fls ↦ refl ]

pub con_row_law : (c : Con) (n : ℕ) → declares (con_row c).number n ≡ 0
con_row_law C.top n = refl
con_row_law C.bot n = refl
con_row_law C.empty n = refl
con_row_law C.nat n = refl
con_row_law C.nat1 n = refl
con_row_law C.tru n = refl
con_row_law C.fls n = refl

pub rel_row_law : (r : Rel) (n : ℕ) → ((rel_row r).arity ≡ fixed 2) × ((rel_row r).result ≡ is (base T.prop)) × (declares (rel_row r).number n ≡ 0)
rel_row_law C.eq n = (refl, refl, refl)
rel_row_law C.lt n = (refl, refl, refl)
rel_row_law C.le n = (refl, refl, refl)
rel_row_law C.gt n = (refl, refl, refl)
rel_row_law C.ge n = (refl, refl, refl)
rel_row_law C.mem n = (refl, refl, refl)
rel_row_law C.sub n = (refl, refl, refl)
rel_row_law C.sube n = (refl, refl, refl)

pub fun_row_law : (f : Fun) (n : ℕ) → declares (fun_row f).number n ≡ 0
fun_row_law C.neg n = refl
fun_row_law C.imp n = refl
fun_row_law C.iff n = refl
fun_row_law C.minus n = refl
fun_row_law C.uminus n = refl
fun_row_law C.diff n = refl
fun_row_law C.bool n = refl
fun_row_law C.mapsto n = refl

pub many_row_law : (m : Many) (n : ℕ) → declares (many_row m).number n ≡ 0
many_row_law C.and n = refl
many_row_law C.or n = refl
many_row_law C.add n = refl
many_row_law C.mul n = refl
many_row_law C.union n = refl
many_row_law C.inter n = refl
many_row_law C.ext n = refl

or_neither : (a b : Bool) → (a || b) ≡ false → a ≡ false
or_neither true b e = e
or_neither false b e = refl

-- at least one operand
some_operand : (lo n : ℕ) → 0 < lo → (ltb n lo || ltb 32 n) ≡ false → 0 < n
some_operand lo n h e = let b = ltb-false n lo (or_neither (ltb n lo) (ltb 32 n) e) in omega arith

pub many_count : (m : Many) (n t d : ℕ) → number_out (many_row m).number n t d ≡ false → 0 < n
many_count C.and n t d e = some_operand 2 n (omega arith) e
many_count C.or n t d e = some_operand 2 n (omega arith) e
many_count C.add n t d e = some_operand 2 n (omega arith) e
many_count C.mul n t d e = some_operand 2 n (omega arith) e
many_count C.union n t d e = some_operand 2 n (omega arith) e
many_count C.inter n t d e = some_operand 2 n (omega arith) e
many_count C.ext n t d e = some_operand 1 n (omega arith) e
