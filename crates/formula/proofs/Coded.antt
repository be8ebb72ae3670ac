-- Each code has its byte, and the table of codes gives it back, all but the number inside.
use Prim.Native.Nat.{ℕ, zero, suc, ◌+◌}
use mathlib.Core.Path.{◌≡◌, refl, sym, ap, ◌∙◌}
use mathlib.Core.List.{List, [], ◌∷◌}
use mathlib.Core.Bool.{Bool, true, ◌&&◌}
use mathlib.Core.Option.{Option, some, none}
use native.Mathlib.Omega.{arith}
use lib.Dec.{eqb}
use borrow.Author.Tests.{eqb-true}
use Rattle.formula.specs.Pick as Pick
use Rattle.formula.specs.Codes.{Con, Rel, Fun, Many, Bind, Code, con, ident, bound, lit, rel, fun, many, qu, con_byte, rel_byte, fun_byte, many_byte, bind_byte, byte_of, codes, code_at, with_number}
use Rattle.formula.specs.Codes.{top, bot, empty, nat, nat1, tru, fls, eq, lt, le, gt, ge, mem, sub, sube, neg, imp, iff, minus, uminus, diff, bool, mapsto, and, or, add, mul, union, inter, ext, all, ex, compr}
use Rattle.formula.specs.NodeTable.{Row, row_of}
use Rattle.formula.proofs.Choices.{and_left, and_right}
use Rattle.formula.proofs.Every.{every, every_code}

-- ---- the number plays no part in the byte and in the row
module _ (n : ℕ) where
  pub same_byte : (k : Code) → byte_of (with_number k n) ≡ byte_of k
  same_byte = elim [ con c ↦ refl | ident i ↦ refl | bound i ↦ refl | lit w ↦ refl | rel r ↦ refl | fun f ↦ refl | many m ↦ refl | qu b i ↦ refl ]

  pub same_row : (k : Code) → row_of (with_number k n) ≡ row_of k
  same_row = elim [ con c ↦ refl | ident i ↦ refl | bound i ↦ refl | lit w ↦ refl | rel r ↦ refl | fun f ↦ refl | many m ↦ refl | qu b i ↦ refl ]

  pub last_number : (k : Code) (m : ℕ) → with_number (with_number k m) n ≡ with_number k n
  last_number (con c) m = refl
  last_number (ident i) m = refl
  last_number (bound i) m = refl
  last_number (lit w) m = refl
  last_number (rel r) m = refl
  last_number (fun f) m = refl
  last_number (many c) m = refl
  last_number (qu b i) m = refl

-- ---- the table has each code at its byte
con_listed : (c : Con) → code_at (con_byte c) ≡ some (con c)
unfolding code_at codes
con_listed = elim [ top ↦ refl | bot ↦ refl | empty ↦ refl | nat ↦ refl | nat1 ↦ refl | tru ↦ refl | fls ↦ refl ]

rel_listed : (r : Rel) → code_at (rel_byte r) ≡ some (rel r)
unfolding code_at codes
rel_listed = elim [ eq ↦ refl | lt ↦ refl | le ↦ refl | gt ↦ refl | ge ↦ refl | mem ↦ refl | sub ↦ refl | sube ↦ refl ]

fun_listed : (f : Fun) → code_at (fun_byte f) ≡ some (fun f)
unfolding code_at codes
fun_listed = elim [ neg ↦ refl | imp ↦ refl | iff ↦ refl | minus ↦ refl | uminus ↦ refl | diff ↦ refl | bool ↦ refl | mapsto ↦ refl ]

many_listed : (m : Many) → code_at (many_byte m) ≡ some (many m)
unfolding code_at codes
many_listed = elim [ and ↦ refl | or ↦ refl | add ↦ refl | mul ↦ refl | union ↦ refl | inter ↦ refl | ext ↦ refl ]

bind_listed : (b : Bind) → code_at (bind_byte b) ≡ some (qu b 0)
unfolding code_at codes
bind_listed = elim [ all ↦ refl | ex ↦ refl | compr ↦ refl ]

pub listed : (k : Code) → code_at (byte_of k) ≡ some (with_number k 0)
unfolding code_at codes
listed (con c) = con_listed c
listed (ident k) = refl
listed (bound i) = refl
listed (lit w) = refl
listed (rel r) = rel_listed r
listed (fun f) = fun_listed f
listed (many m) = many_listed m
listed (qu b n) = bind_listed b

-- ---- and nothing else: one test over the table
abbrev stands_at : ℕ → Option Code → Bool
stands_at i none = true
stands_at i (some k) = eqb (byte_of k) i

abbrev all_stand : ℕ → List (Option Code) → Bool
all_stand i [] = true
all_stand i (o ∷ os) = stands_at i o && all_stand (suc i) os

all_stand_law : all_stand 0 codes ≡ true
unfolding codes
all_stand_law = refl

stands : (os : List (Option Code)) (i b : ℕ) (k : Code) → all_stand i os ≡ true → Pick.at os b ≡ some k → byte_of k ≡ i + b
stands [] i b k e q = absurd (let z : ◌≡◌ {A = ℕ} 0 1 = cc in omega arith)
stands (o ∷ os) i zero k e q =
    let h : eqb (byte_of k) i ≡ true = ap (stands_at i) (sym q) ∙ and_left (stands_at i o) (all_stand (suc i) os) e in
    let g = eqb-true (byte_of k) i h in omega arith
stands (o ∷ os) i (suc b) k e q = let h = stands os (suc i) b k (and_right (stands_at i o) (all_stand (suc i) os) e) q in omega arith

pub byte_is : (b : ℕ) (k : Code) → code_at b ≡ some k → byte_of k ≡ b
unfolding code_at
byte_is b k e = let h = stands codes 0 b k all_stand_law e in omega arith

-- the code that a code's byte gives: the same but for the number
pub code_back : (k : Code) → (k₀ : Code) × (code_at (byte_of k) ≡ some k₀) × ((n : ℕ) → with_number k₀ n ≡ with_number k n) × (row_of k₀ ≡ row_of k)
code_back k = (with_number k 0, listed k, λ n. last_number n k 0, same_row 0 k)

-- a test of every row of the table
pub every_row : (f : Row → Bool) → every (λ k. f (row_of k)) codes ≡ true → (k : Code) → f (row_of k) ≡ true
every_row f e k = rw (same_row 0 k) at (every_code (λ j. f (row_of j)) e (byte_of k) (with_number k 0) (listed k))
