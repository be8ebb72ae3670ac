-- The own bytes of a node that stands somewhere: its packed row, its one-byte number, and how many operands follow.
use Prim.Native.Nat.{ℕ, ◌+◌, ◌≤◌}
use mathlib.Core.Path.{◌≡◌, refl, sym, ap, ◌∙◌}
use mathlib.Core.Bool.{Bool, true, false, ◌&&◌}
use mathlib.Core.Option.{some}
use mathlib.Core.List.{List}
use native.Mathlib.Omega.{arith}
use lib.ListN.{get_or}
use lib.Dec.{eqb, leb}
use borrow.Author.Tests.{eqb-true, leb-true}
use Rattle.formula.specs.Pick.{pick}
use Rattle.formula.specs.Codes.{Code, codes, code_at}
use Rattle.formula.specs.Types.{Base, base, pair}
use Rattle.formula.specs.NodeTable.{Row, row_of, Number, nothing, identifier, index, word, count, variables, width, Arity, fixed, counted, operands, Result, is, of_identifier, of_pair}
use Rattle.formula.specs.Tree.{number_of}
use Rattle.formula.specs.Reading.{number_at}
use Rattle.formula.specs.Mirror.PackedTable.{row_at, arity_byte, count_of}
use Rattle.formula.specs.Mirror.Bytes.{byte_at, own_byte}
use Rattle.formula.proofs.Choices.{never, and_left, and_right}
use Rattle.formula.proofs.Every.{every, every_code}
use Rattle.formula.proofs.Coded.{every_row}
use Rattle.formula.proofs.NodeType.{names?}
use Rattle.formula.proofs.TableIs.{Columns, columns_at, count_is}
use Rattle.formula.proofs.Stands.{NodeAt}

-- ---- what a row's type says of the rest of the row and of its byte
abbrev tied : Result → Number → Arity → Bool
tied (is (base b)) ν a = true
tied (is (pair σ τ)) ν a = false
tied of_identifier ν a = names? ν
tied of_pair ν a = eqb (width ν) 0 && eqb (arity_byte a) 2

pub data Sense (r : Row) : Type 0 where
  plain : (b : Base) → r.result ≡ is (base b) → Sense r
  named : r.result ≡ of_identifier → r.number ≡ identifier → Sense r
  joined : r.result ≡ of_pair → width r.number ≡ 0 → r.arity ≡ fixed 2 → Sense r

is_named : (ν : Number) → names? ν ≡ true → ν ≡ identifier
is_named nothing e = never e
is_named identifier e = refl
is_named index e = never e
is_named word e = never e
is_named (count lo hi) e = never e
is_named (variables lo hi) e = never e

is_two : (a : Arity) → arity_byte a ≡ 2 → a ≡ fixed 2
is_two (fixed k) e = ap fixed e
is_two counted e = absurd (omega (arith, e))

sense_by : (r : Row) → tied r.result r.number r.arity ≡ true → Sense r
sense_by r e = go r.result refl e
  where
    go : (ρ : Result) → r.result ≡ ρ → tied ρ r.number r.arity ≡ true → Sense r
    go (is (base b)) q e = plain b q
    go (is (pair σ τ)) q e = never e
    go of_identifier q e = named q (is_named r.number e)
    go of_pair q e =
        joined q (eqb-true _ _ (and_left (eqb (width r.number) 0) (eqb (arity_byte r.arity) 2) e)) (is_two r.arity (eqb-true _ _ (and_right (eqb (width r.number) 0) (eqb (arity_byte r.arity) 2) e)))

pub sense_of : (k : Code) → Sense (row_of k)
unfolding every codes
sense_of k = sense_by (row_of k) (every_row (λ r. tied r.result r.number r.arity) refl k)

-- ---- a number of at most one byte is the byte after the code; only such a number counts operands
byte_by : (ν : Number) (s : List ℕ) (i : ℕ) → width ν ≤ 1 → pick (eqb (width ν) 0) 0 (get_or s i 0) ≡ number_at ν s i
byte_by nothing s i h = refl
byte_by identifier s i h = refl
byte_by index s i h = refl
byte_by word s i h = absurd (omega (arith, h))
byte_by (count lo hi) s i h = refl
byte_by (variables lo hi) s i h = refl

count_narrow : (b : ℕ) (k : Code) → code_at b ≡ some k → pick (eqb (arity_byte (row_of k).arity) 3) (leb (width (row_of k).number) 1) true ≡ true
unfolding every codes
count_narrow b k q = every_code (λ k. pick (eqb (arity_byte (row_of k).arity) 3) (leb (width (row_of k).number) 1) true) refl b k q

operands_by : (a : Arity) (w i j : ℕ) → pick (eqb (arity_byte a) 3) (leb w 1) true ≡ true → (w ≤ 1 → i ≡ j) → operands a i ≡ operands a j
operands_by (fixed m) w i j e h = refl
operands_by counted w i j e h = h (leb-true w 1 e)

module _ {s : List ℕ} {t p : ℕ} {k : Code} {n : ℕ} (N : NodeAt s t p k n) where
  pub columns_there : Columns (row_at (byte_at s p)) (row_of k)
  unfolding byte_at
  columns_there = rw N.row_is (columns_at (get_or s p 0) N.sign N.code_is)

  pub sense_there : Sense (row_of k)
  sense_there = sense_of k

  pub own_there : width (row_of k).number ≤ 1 → own_byte (row_at (byte_at s p)) s (p + 1) ≡ number_of k n
  unfolding own_byte byte_at
  own_there h = rw columns_there.own_is (byte_by (row_of k).number s (p + 1) h) ∙ sym N.number_is

  pub count_there : count_of (row_at (byte_at s p)) (own_byte (row_at (byte_at s p)) s (p + 1)) ≡ n
  count_there =
      let c : pick (eqb (arity_byte (row_of k).arity) 3) (leb (width (row_of k).number) 1) true ≡ true = rw N.row_is (count_narrow (get_or s p 0) N.sign N.code_is) in
      count_is (row_at (byte_at s p)) (row_of k) columns_there _
      ∙ operands_by (row_of k).arity (width (row_of k).number) (own_byte (row_at (byte_at s p)) s (p + 1)) (number_of k n) c own_there
      ∙ sym N.operands_are
