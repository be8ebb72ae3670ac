-- Going on with what was read: as the code does it, and as the definition does it.
use Rattle.std.specs.Prelude.{Result, Ok, Err}
use Prim.Native.Nat.{ℕ, ◌+◌}
use mathlib.Core.Path.{◌≡◌, refl}
use mathlib.Core.Bool.{Bool, true, false, not, ◌&&◌}
use mathlib.Core.Option.{Option, some, none}
use native.Mathlib.Omega.{arith}
use lib.Dec.{eqb}
use borrow.Author.Tests.{eqb-true, ne_eqb}
use Rattle.formula.specs.Pick.{pick, or_else}
use Rattle.reader.specs.Mirror.Walk.{on_read}
use Rattle.formula.specs.Reading.{Parsed, got, not_got, on_got}
use Rattle.reader.specs.declared.reader.Got.{Got}
use Rattle.refusal.specs.declared.Refusal.{Refusal}

-- what the code answers of a formula, or formulas, that the definition reads
abbrev pub answered : {A : Type 0} → Parsed A → (A → ℕ → Result Got Refusal) → Result Got Refusal
answered (got a q) K = K a q
answered (not_got c p) K = Err (record { cause = c; at = p })

abbrev pub gives : ℕ → ℕ → Result Got Refusal
gives n b = Ok (record { next = n; bad = b })

pub answered_same : {A : Type 0} (z : Parsed A) (K L : A → ℕ → Result Got Refusal) → ((a : A) (q : ℕ) → z ≡ got a q → K a q ≡ L a q) → answered z K ≡ answered z L
answered_same (got a q) K L h = h a q refl
answered_same (not_got c p) K L h = refl

pub answered_on : {A B : Type 0} (z : Parsed A) (f : A → ℕ → Parsed B) (K : B → ℕ → Result Got Refusal) → answered (on_got z f) K ≡ answered z (λ a q. answered (f a q) K)
answered_on (got a q) f K = refl
answered_on (not_got c p) f K = refl

pub answered_read : {A : Type 0} (z : Parsed A) (b : A → ℕ → ℕ) (K : Got → Result Got Refusal) → on_read (answered z (λ a q. gives q (b a q))) K ≡ answered z (λ a q. K (record { next = q; bad = b a q }))
answered_read (got a q) b K = refl
answered_read (not_got c p) b K = refl

-- ---- marks: 0 for none, or 1 + the place
abbrev pub mark_of : Option ℕ → ℕ
mark_of none = 0
mark_of (some p) = p + 1

-- the first wrong node among operands and their parent: the parent if one of its operands is wrong, else what was found before, else the first below
abbrev pub marked : Bool → ℕ → ℕ → Option ℕ → ℕ
marked right parent bad o = pick right (pick (eqb bad 0) (mark_of o) bad) parent

pub mark_first : (bad : ℕ) (o r : Option ℕ) → pick (eqb (pick (eqb bad 0) (mark_of o) bad) 0) (mark_of r) (pick (eqb bad 0) (mark_of o) bad) ≡ pick (eqb bad 0) (mark_of (or_else o r)) bad
mark_first bad o r = go (eqb bad 0) refl o
  where
    go : (b : Bool) → eqb bad 0 ≡ b → (o : Option ℕ) → pick (eqb (pick b (mark_of o) bad) 0) (mark_of r) (pick b (mark_of o) bad) ≡ pick b (mark_of (or_else o r)) bad
    go true e none = refl
    go true e (some p) = simp (ne_eqb (p + 1) 0 (λ z. omega (arith, z)))
    go false e o = simp e

-- one more operand, right or not, before the others
pub mark_more : (a b : Bool) (parent bad : ℕ) (o r : Option ℕ) → (parent ≡ 0 → ⊥)
    → marked b parent (pick (not a) parent (pick (eqb bad 0) (mark_of o) bad)) r ≡ marked (a && b) parent bad (or_else o r)
mark_more true true parent bad o r h = mark_first bad o r
mark_more true false parent bad o r h = refl
mark_more false true parent bad o r h = simp (ne_eqb parent 0 h)
mark_more false false parent bad o r h = refl

pub mark_none : (bad : ℕ) → bad ≡ pick (eqb bad 0) 0 bad
mark_none bad = go (eqb bad 0) refl
  where
    go : (b : Bool) → eqb bad 0 ≡ b → bad ≡ pick b 0 bad
    go true e = eqb-true bad 0 e
    go false e = refl
