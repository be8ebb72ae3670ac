-- What a test that holds, a choice that came out, and a find that found nothing say of their parts.
use Prim.Native.Nat.{ℕ}
use mathlib.Core.Path.{◌≡◌, refl}
use mathlib.Core.Bool.{Bool, true, false, false≢true, not, ◌&&◌, ◌||◌}
use mathlib.Core.Option.{Option, some, none}
use mathlib.Core.Logic.{◌⊎◌, inl, inr}
use native.Mathlib.Omega.{arith}
use Rattle.formula.specs.Pick.{pick, or_else}

-- a test cannot fail and hold
pub never : {A : Type 0} → false ≡ true → A
never e = absurd (false≢true e)

pub none_some : {A B : Type 0} {b : B} → none ≡ some b → A
none_some e = let z : ◌≡◌ {A = ℕ} 0 1 = cc in absurd (omega (arith, z))

pub and_left : (a b : Bool) → (a && b) ≡ true → a ≡ true
and_left true b e = refl
and_left false b e = e

pub and_right : (a b : Bool) → (a && b) ≡ true → b ≡ true
and_right true b e = e
and_right false b e = never e

pub or_pick : (a b : Bool) → pick a true b ≡ (a || b)
or_pick true b = refl
or_pick false b = refl

-- two tests that answer alike
abbrev pub agree : Bool → Bool → Bool
agree true b = b
agree false b = not b

pub agree_is : (a b : Bool) → agree a b ≡ true → a ≡ b
agree_is true true e = refl
agree_is true false e = never e
agree_is false true e = never e
agree_is false false e = refl

pub and_both : (a b : Bool) → a ≡ true → b ≡ true → (a && b) ≡ true
and_both true b p q = q
and_both false b p q = p

pub or_cases : (a b : Bool) → (a || b) ≡ true → (a ≡ true) ⊎ (b ≡ true)
or_cases true b e = inl refl
or_cases false b e = inr e

module _ {A : Type 0} where
  pub pick_none : (b : Bool) (r : Option A) (a : A) → pick b r (some a) ≡ none → (b ≡ true) × (r ≡ none)
  pick_none true r a e = (refl, e)
  pick_none false r a e = (cc, cc)

  pub pick_some : (b : Bool) (r : Option A) (a : A) → pick b r none ≡ some a → (b ≡ true) × (r ≡ some a)
  pick_some true r a e = (refl, e)
  pick_some false r a e = (cc, cc)

  pub or_else_none : (a b : Option A) → or_else a b ≡ none → (a ≡ none) × (b ≡ none)
  or_else_none none b e = (refl, e)
  or_else_none (some a) b e = (cc, cc)

  pub pick_cases : (b : Bool) (r : Option A) (c a : A) → pick b r (some c) ≡ some a → (r ≡ some a) ⊎ (c ≡ a)
  pick_cases true r c a e = inl e
  pick_cases false r c a e = inr (cc)

  pub or_else_cases : (o r : Option A) (a : A) → or_else o r ≡ some a → (o ≡ some a) ⊎ (r ≡ some a)
  or_else_cases none r a e = inr e
  or_else_cases (some c) r a e = inl e
