-- A test of every entry of a list with gaps, turned into the rule at each.
use Prim.Native.Nat.{ℕ, zero, suc}
use mathlib.Core.Path.{◌≡◌, refl, sym, ap, ◌∙◌}
use mathlib.Core.Bool.{Bool, true, ◌&&◌}
use mathlib.Core.Option.{Option, some, none}
use mathlib.Core.List.{List, [], ◌∷◌}
use lib.Dec.{eqb}
use borrow.Author.Tests.{eqb-true}
use Rattle.formula.specs.Pick.{at}
use Rattle.formula.specs.Codes.{Code, codes, code_at}
use Rattle.formula.specs.Types.{prop, int, boo, set, nats, nats1, Kind, one, pairs}
use Rattle.formula.specs.declared.Sort.{Sort}
use Rattle.formula.specs.declared.Sort.TheVariants as sorts
use Rattle.formula.proofs.Choices.{none_some, and_left, and_right, agree, agree_is}

unfoldable pub every : {A : Type 0} → (A → Bool) → List (Option A) → Bool
every f [] = true
every f (none ∷ os) = every f os
every f (some a ∷ os) = f a && every f os

pub every_at : {A : Type 0} (f : A → Bool) (os : List (Option A)) (c : ℕ) (a : A) → every f os ≡ true → at os c ≡ some a → f a ≡ true
unfolding every
every_at f [] c a e q = none_some q
every_at f (none ∷ os) zero a e q = none_some q
every_at f (none ∷ os) (suc c) a e q = every_at f os c a e q
every_at f (some b ∷ os) zero a e q = let i : b ≡ a = cc in ap f (sym i) ∙ and_left (f b) (every f os) e
every_at f (some b ∷ os) (suc c) a e q = every_at f os c a (and_right (f b) (every f os) e) q

-- ---- every code, by its byte
pub every_code : (f : Code → Bool) → every f codes ≡ true → (b : ℕ) (k : Code) → code_at b ≡ some k → f k ≡ true
unfolding code_at
every_code f e b k q = every_at f codes b k e q

-- two numbers, or two tests, that are the same at every code
module _ (b : ℕ) (k : Code) (q : code_at b ≡ some k) where
  pub number_at : (f g : Code → ℕ) → every (λ k. eqb (f k) (g k)) codes ≡ true → f k ≡ g k
  number_at f g e = eqb-true (f k) (g k) (every_code (λ k. eqb (f k) (g k)) e b k q)

  pub test_at : (f g : Code → Bool) → every (λ k. agree (f k) (g k)) codes ≡ true → f k ≡ g k
  test_at f g e = agree_is (f k) (g k) (every_code (λ k. agree (f k) (g k)) e b k q)

-- ---- every kind, every sort
abbrev pub kinds : List (Option Kind)
kinds = some (one prop) ∷ some (one int) ∷ some (one boo) ∷ some (one set) ∷ some (one nats) ∷ some (one nats1) ∷ some pairs ∷ []

abbrev place : Kind → ℕ
place (one prop) = 0
place (one int) = 1
place (one boo) = 2
place (one set) = 3
place (one nats) = 4
place (one nats1) = 5
place pairs = 6

place_is : (κ : Kind) → at kinds (place κ) ≡ some κ
place_is (one prop) = refl
place_is (one int) = refl
place_is (one boo) = refl
place_is (one set) = refl
place_is (one nats) = refl
place_is (one nats1) = refl
place_is pairs = refl

pub every_kind : (f : Kind → Bool) → every f kinds ≡ true → (κ : Kind) → f κ ≡ true
every_kind f e κ = every_at f kinds (place κ) κ e (place_is κ)

abbrev pub both_sorts : List (Option Sort)
both_sorts = some sorts.Predicate ∷ some sorts.Expression ∷ []

pub every_sort : (f : Sort → Bool) → every f both_sorts ≡ true → (σ : Sort) → f σ ≡ true
every_sort f e sorts.Predicate = every_at f both_sorts 0 sorts.Predicate e refl
every_sort f e sorts.Expression = every_at f both_sorts 1 sorts.Expression e refl
