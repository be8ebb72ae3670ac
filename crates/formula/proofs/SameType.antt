-- The test of equal types, and what one bit for each kind says of it.
use Prim.Native.Nat.{ℕ}
use mathlib.Core.Path.{◌≡◌, refl, sym, ap, ◌∙◌}
use mathlib.Core.Bool.{Bool, true, false, ◌&&◌}
use native.Mathlib.Omega.{arith}
use lib.Dec.{eqb}
use borrow.Author.Tests.{eqb-true, eq-eqb}
use Rattle.formula.specs.Pick.{pick}
use Rattle.formula.specs.Types.{Base-discrete, prop, int, boo, set, nats, nats1, Ty, Ty-discrete, base, pair, Kind, one, pairs, kind_of, eq_ty}
use Rattle.formula.specs.Mirror.PackedTable.{bit}
use Rattle.formula.proofs.Choices.{never, and_left, and_right}

-- two tests that follow from one another
pub same_test : (a b : Bool) → (a ≡ true → b ≡ true) → (b ≡ true → a ≡ true) → a ≡ b
same_test true b f g = sym (f refl)
same_test false true f g = g refl
same_test false false f g = refl

pub eq_ty_refl : (τ : Ty) → eq_ty τ τ ≡ true
eq_ty_refl τ = go (Ty-discrete Base-discrete τ τ)
  where
    go : (d : Dec (τ ≡ τ)) → elim d as (λ _. Bool) [ yes p ↦ true | no q ↦ false ] ≡ true
    go (yes p) = refl
    go (no q) = absurd (q refl)

pub eq_ty→eq : (σ τ : Ty) → eq_ty σ τ ≡ true → σ ≡ τ
eq_ty→eq σ τ e = go (Ty-discrete Base-discrete σ τ) e
  where
    go : (d : Dec (σ ≡ τ)) → elim d as (λ _. Bool) [ yes p ↦ true | no q ↦ false ] ≡ true → σ ≡ τ
    go (yes p) e = p
    go (no q) e = never e

pub eq→eq_ty : (σ τ : Ty) → σ ≡ τ → eq_ty σ τ ≡ true
eq→eq_ty σ τ e = rw e (eq_ty_refl τ)

-- pairs are compared by their halves
pub eq_ty_pair : (σ ρ τ υ : Ty) → eq_ty (pair σ ρ) (pair τ υ) ≡ (eq_ty σ τ && eq_ty ρ υ)
eq_ty_pair σ ρ τ υ = same_test (eq_ty (pair σ ρ) (pair τ υ)) (eq_ty σ τ && eq_ty ρ υ) there back
  where
    there : eq_ty (pair σ ρ) (pair τ υ) ≡ true → (eq_ty σ τ && eq_ty ρ υ) ≡ true
    there e =
        let h = eq_ty→eq (pair σ ρ) (pair τ υ) e in
        let i : σ ≡ τ = cc in
        let j : ρ ≡ υ = cc in
        rw (eq→eq_ty σ τ i, eq→eq_ty ρ υ j)

    back : (eq_ty σ τ && eq_ty ρ υ) ≡ true → eq_ty (pair σ ρ) (pair τ υ) ≡ true
    back e =
        let i = eq_ty→eq σ τ (and_left (eq_ty σ τ) (eq_ty ρ υ) e) in
        let j = eq_ty→eq ρ υ (and_right (eq_ty σ τ) (eq_ty ρ υ) e) in
        eq→eq_ty (pair σ ρ) (pair τ υ) (cc)

-- ---- a kind is known by its bit
abbrev kind_by : ℕ → Kind
kind_by n =
    pick (eqb n 1) (one prop) (pick (eqb n 2) (one int) (pick (eqb n 4) (one boo) (pick (eqb n 8) (one set) (pick (eqb n 16) (one nats) (pick (eqb n 32) (one nats1) pairs)))))

kind_by_law : (k : Kind) → kind_by (bit k) ≡ k
kind_by_law (one prop) = refl
kind_by_law (one int) = refl
kind_by_law (one boo) = refl
kind_by_law (one set) = refl
kind_by_law (one nats) = refl
kind_by_law (one nats1) = refl
kind_by_law pairs = refl

pub bit_inj : (j k : Kind) → bit j ≡ bit k → j ≡ k
bit_inj j k e = sym (kind_by_law j) ∙ ap kind_by e ∙ kind_by_law k

abbrev pub is_pairs : Kind → Bool
is_pairs (one b) = false
is_pairs pairs = true

-- two types that are not both pairs are equal if their kinds are
kind_tells : (σ τ : Ty) → (is_pairs (kind_of σ) && is_pairs (kind_of τ)) ≡ false → kind_of σ ≡ kind_of τ → σ ≡ τ
kind_tells (base b) (base c) h e = let i : b ≡ c = cc in ap base i
kind_tells (base b) (pair τ υ) h e = let z : ◌≡◌ {A = ℕ} 0 1 = cc in absurd (omega (arith, z))
kind_tells (pair σ ρ) (base c) h e = let z : ◌≡◌ {A = ℕ} 0 1 = cc in absurd (omega (arith, z))
kind_tells (pair σ ρ) (pair τ υ) h e = never (sym h)

pub bits_tell : (σ τ : Ty) → (is_pairs (kind_of σ) && is_pairs (kind_of τ)) ≡ false → eqb (bit (kind_of σ)) (bit (kind_of τ)) ≡ eq_ty σ τ
bits_tell σ τ h =
    same_test (eqb (bit (kind_of σ)) (bit (kind_of τ))) (eq_ty σ τ)
    (λ e. eq→eq_ty σ τ (kind_tells σ τ h (bit_inj (kind_of σ) (kind_of τ) (eqb-true _ _ e))))
    (λ e. eq-eqb _ _ (ap (λ (τ : Ty). bit (kind_of τ)) (eq_ty→eq σ τ e)))
