use Rattle.std.proofs.Common.{◌≡◌, ℕ, zero, suc, ◌+◌, ◌<◌, ◌≤◌, List, ◌∷◌, length, get_or, Result, Ok, Err, refl, sym, ap, ◌∙◌, arith, le-leb, le-ltb, lt-ltb}
use Rattle.std.proofs.lemmas.Bool.{lt-leb}
use Rattle.refusal.specs.Refusal.{refused}
use Rattle.refusal.specs.declared.Cause.TheVariants as cause
use Rattle.refusal.specs.declared.Refusal.{Refusal}
use Rattle.formula.specs.Reading.{Parsed, got, not_got, on_got}
use Rattle.sequent.specs.ReadFile.{types_at}
use Rattle.sequent.specs.Mirror.ReadBytes.{check_of}
use Rattle.sequent.proofs.file.check_types.Goals as goal

check_rest : {A B : Type 0} (z : Parsed A) (f : A → ℕ → B) → check_of (on_got z (λ a p. got (f a p) p)) ≡ check_of z
check_rest (got a p) f = refl
check_rest (not_got w p) f = refl

module _ (s : List ℕ) (p : ℕ) (z : Result (Unit {0}) Refusal) where
  types_end : (n : ℕ) → check_of (types_at s n p) ≡ z → n ≡ 0 → Ok tt ≡ z
  unfolding types_at
  types_end zero e h = e
  types_end (suc n) e h = absurd (omega (arith, h))

  types_out : (n : ℕ) → check_of (types_at s n p) ≡ z → 0 < n → length s ≤ p → Err (refused cause.Length p) ≡ z
  unfolding types_at
  types_out zero e h k = absurd (omega arith)
  types_out (suc n) e h k = simp (le-leb _ _ k) at e

  types_wrong : (n : ℕ) → check_of (types_at s n p) ≡ z → 0 < n → p < length s → 2 < get_or s p 0 → Err (refused cause.TypeByte p) ≡ z
  unfolding types_at
  types_wrong zero e h k l = absurd (omega arith)
  types_wrong (suc n) e h k l = simp (lt-leb _ _ k, lt-ltb _ _ l) at e

  types_go : (n m : ℕ) → check_of (types_at s n p) ≡ z → n ≡ suc m → p < length s → get_or s p 0 ≤ 2 → check_of (types_at s m (p + 1)) ≡ z
  unfolding types_at
  types_go n m e h k l = sym (check_rest (types_at s m (p + 1)) (λ ts q. get_or s p 0 ∷ ts)) ∙ (simp (lt-leb _ _ k, le-ltb _ _ l) at (rw h at e))

pub returns-then-s-p : goal.returns-then-s-p
returns-then-s-p c = ap Err c.at.ensures ∙ types_out _ _ _ _ c.loop-p.invariant (omega arith) (omega arith)

pub returns-then-s-p-gt2 : goal.returns-then-s-p-gt2
returns-then-s-p-gt2 c = ap Err c.at-then-s-p-gt2.ensures ∙ types_wrong _ _ _ _ c.loop-p.invariant (omega arith) (omega arith) (omega arith)

pub loop-p-preserved : goal.loop-p-preserved
loop-p-preserved c = types_go _ _ _ _ _ c.loop-p.invariant (omega arith) (omega arith) (omega arith)

pub returns : goal.returns
returns c = types_end _ _ _ _ c.loop-p.invariant (omega arith)
