-- = holds exactly of values with the same contents.
use mathlib.Core.Path.{◌≡◌, refl, ap, ◌∙◌, subst}
use mathlib.Core.Bool.{Bool, true, false, beq}
use mathlib.Core.Option.{some}
use lib.IntN.{ℤ}
use Rattle.formula.proofs.Choices.{never, none_some, and_left, and_right}
use Rattle.formula.proofs.DataType.{data?}
use Rattle.meaning.specs.Value.{Val, truth, int, boo, set, nats, nats1, pair, ty_of, as_int, as_boo, as_set, as_pair}
use Rattle.meaning.specs.Operators.{equal}
use Rattle.meaning.proofs.Lists.{some_inj, step_inv}
use Rattle.meaning.proofs.Operands.{is_int, is_boo, is_set, is_pair}
use Rattle.meaning.proofs.Whole.{eq_z→eq, eq_z_refl}
use Rattle.meaning.proofs.SetLaws.{same_members}
use Rattle.meaning.proofs.Alike.{Alike, truths, ints, boos, sets, naturals, positives, pairs}

beq_same : (a b : Bool) → beq a b ≡ true → a ≡ b
beq_same true true e = refl
beq_same true false e = never e
beq_same false true e = never e
beq_same false false e = refl

beq_refl : (b : Bool) → beq b b ≡ true
beq_refl true = refl
beq_refl false = refl

pub equal_alike : (v w : Val) → equal v w ≡ some true → Alike v w
unfolding equal
equal_alike (truth b) w e = none_some e
equal_alike (int z) w e =
    let i = step_inv (as_int w) e in
    subst (Alike (int z)) (is_int w i.0 i.1) (subst (λ (y : ℤ). Alike (int z) (int y)) (eq_z→eq z i.0 (some_inj i.2)) ints)
equal_alike (boo b) w e =
    let i = step_inv (as_boo w) e in
    subst (Alike (boo b)) (is_boo w i.0 i.1) (subst (λ (c : Bool). Alike (boo b) (boo c)) (beq_same b i.0 (some_inj i.2)) boos)
equal_alike (set s) w e =
    let i = step_inv (as_set w) e in
    subst (Alike (set s)) (is_set w i.0 i.1) (sets ((same_members s i.0).0 (some_inj i.2)))
equal_alike nats w e = none_some e
equal_alike nats1 w e = none_some e
equal_alike (pair v₁ v₂) w e =
    let i = step_inv (as_pair w) e in
    let j = step_inv (equal v₁ i.0.0) i.2 in
    let k = step_inv (equal v₂ i.0.1) j.2 in
    let b = some_inj k.2 in
    subst (Alike (pair v₁ v₂)) (is_pair w i.0 i.1)
    (pairs (equal_alike v₁ i.0.0 (j.1 ∙ ap some (and_left j.0 k.0 b))) (equal_alike v₂ i.0.1 (k.1 ∙ ap some (and_right j.0 k.0 b))))

pub alike_equal : {v w : Val} → Alike v w → data? (ty_of v) ≡ true → equal v w ≡ some true
unfolding equal
alike_equal truths d = never d
alike_equal (ints {z = z}) d = ap some (eq_z_refl z)
alike_equal (boos {b = b}) d = ap some (beq_refl b)
alike_equal (sets {s = s} {t = t} h) d = ap some ((same_members s t).1 h)
alike_equal naturals d = never d
alike_equal positives d = never d
alike_equal (pairs {v = v} {w = w} a b) d = rw (alike_equal a (and_left (data? (ty_of v)) (data? (ty_of w)) d), alike_equal b (and_right (data? (ty_of v)) (data? (ty_of w)) d))
