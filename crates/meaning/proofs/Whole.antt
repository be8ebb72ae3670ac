-- Whole numbers: their equality test, their order, and one three-way comparison from which every relation of them is read.
use Prim.Native.Nat.{ℕ, ◌<◌}
use mathlib.Core.Path.{◌≡◌, refl, ap, sym}
use mathlib.Core.Bool.{Bool, true, false}
use native.Mathlib.Omega.{arith}
use lib.Dec.{eqb, ltb, leb}
use lib.IntN.{ℤ, pos, negsuc}
use lib.Signed.{lt_z, le_z}
use borrow.Author.Tests.{eqb-true, eq-eqb, ne_eqb, ltb-true, ltb-false, lt-ltb, le-ltb, le-leb, lt-leb}
use Rattle.formula.specs.Pick.{pick}
use Rattle.formula.proofs.Choices.{never}
use Rattle.meaning.specs.Sets.{eq_z}

pub eq_z_refl : (z : ℤ) → eq_z z z ≡ true
eq_z_refl (pos a) = eq-eqb a a refl
eq_z_refl (negsuc a) = eq-eqb a a refl

pub eq_z→eq : (x y : ℤ) → eq_z x y ≡ true → x ≡ y
eq_z→eq (pos a) (pos b) e = ap pos (eqb-true a b e)
eq_z→eq (pos a) (negsuc b) e = never e
eq_z→eq (negsuc a) (pos b) e = never e
eq_z→eq (negsuc a) (negsuc b) e = ap negsuc (eqb-true a b e)

pub eq→eq_z : (x y : ℤ) → x ≡ y → eq_z x y ≡ true
eq→eq_z x y e = rw e (eq_z_refl y)

-- ---- the comparison
pub data Cmp : Type 0 where
  less same more : Cmp

abbrev pub swap : Cmp → Cmp
swap less = more
swap same = same
swap more = less

abbrev pub cmp_n : ℕ → ℕ → Cmp
cmp_n a b = pick (ltb a b) less (pick (ltb b a) more same)

abbrev pub cmp_z : ℤ → ℤ → Cmp
cmp_z (pos a) (pos b) = cmp_n a b
cmp_z (pos a) (negsuc b) = more
cmp_z (negsuc a) (pos b) = less
cmp_z (negsuc a) (negsuc b) = cmp_n b a

-- x = y, x < y, x ≤ y by the comparison of x with y
abbrev pub is_eq : Cmp → Bool
is_eq less = false
is_eq same = true
is_eq more = false

abbrev pub is_lt : Cmp → Bool
is_lt less = true
is_lt same = false
is_lt more = false

abbrev pub is_le : Cmp → Bool
is_le less = true
is_le same = true
is_le more = false

pub data View (a b : ℕ) : Cmp → Type 0 where
  v< : a < b → View a b less
  v≡ : a ≡ b → View a b same
  v> : b < a → View a b more

pub view : (a b : ℕ) → View a b (cmp_n a b)
view a b = go (ltb a b) (ltb b a) refl refl
  where
    go : (x y : Bool) → ltb a b ≡ x → ltb b a ≡ y → View a b (pick x less (pick y more same))
    go true y p q = v< (ltb-true a b p)
    go false true p q = v> (ltb-true b a q)
    go false false p q = let h = ltb-false a b p in let k = ltb-false b a q in v≡ (omega arith)

-- what the tests of two naturals are, by their comparison
tests : (a b : ℕ) {c : Cmp} → View a b c → (eqb a b ≡ is_eq c) × (ltb a b ≡ is_lt c) × (leb a b ≡ is_le c) × (cmp_n b a ≡ swap c)
tests a b (v< h) = (ne_eqb a b (λ e. omega arith), lt-ltb a b h, le-leb a b (omega arith), rw (lt-ltb a b h, le-ltb b a (omega arith)))
tests a b (v≡ h) = (eq-eqb a b h, le-ltb a b (omega arith), le-leb a b (omega arith), rw (le-ltb a b (omega arith), le-ltb b a (omega arith)))
tests a b (v> h) = (ne_eqb a b (λ e. omega arith), le-ltb a b (omega arith), lt-leb a b h, rw (lt-ltb b a h))

swapped : (a b : ℕ) {c : Cmp} → View b a c → (eqb a b ≡ is_eq c)
swapped a b (v< h) = ne_eqb a b (λ e. omega arith)
swapped a b (v≡ h) = eq-eqb a b (sym h)
swapped a b (v> h) = ne_eqb a b (λ e. omega arith)

pub eq_z_cmp : (x y : ℤ) → eq_z x y ≡ is_eq (cmp_z x y)
eq_z_cmp (pos a) (pos b) = (tests a b (view a b)).0
eq_z_cmp (pos a) (negsuc b) = refl
eq_z_cmp (negsuc a) (pos b) = refl
eq_z_cmp (negsuc a) (negsuc b) = swapped a b (view b a)

pub lt_z_cmp : (x y : ℤ) → lt_z x y ≡ is_lt (cmp_z x y)
lt_z_cmp (pos a) (pos b) = (tests a b (view a b)).1
lt_z_cmp (pos a) (negsuc b) = refl
lt_z_cmp (negsuc a) (pos b) = refl
lt_z_cmp (negsuc a) (negsuc b) = (tests b a (view b a)).1

pub le_z_cmp : (x y : ℤ) → le_z x y ≡ is_le (cmp_z x y)
le_z_cmp (pos a) (pos b) = (tests a b (view a b)).2
le_z_cmp (pos a) (negsuc b) = refl
le_z_cmp (negsuc a) (pos b) = refl
le_z_cmp (negsuc a) (negsuc b) = (tests b a (view b a)).2

-- turned round
pub cmp_swap : (x y : ℤ) → cmp_z y x ≡ swap (cmp_z x y)
cmp_swap (pos a) (pos b) = (tests a b (view a b)).3
cmp_swap (pos a) (negsuc b) = refl
cmp_swap (negsuc a) (pos b) = refl
cmp_swap (negsuc a) (negsuc b) = (tests b a (view b a)).3
