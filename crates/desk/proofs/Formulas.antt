-- The formulas of hypotheses: whatever is asked of hypotheses but their flags is asked of these.
use mathlib.Core.Path.{◌≡◌, refl, sym, ap, ◌∙◌}
use mathlib.Core.Bool.{Bool, ◌||◌}
use mathlib.Core.List.{List, [], ◌∷◌, ◌++◌, map, nil≢cons, cons≢nil}
use lib.ListN.{length, length-map}
use Rattle.formula.specs.Tree.{Tree}
use Rattle.desk.specs.Sequent.{Hypothesis, among, present, Different}
use Rattle.formula.specs.Equal.{same}
use Rattle.desk.proofs.Apart.{present_none, present_cons}

abbrev pub Each : {A : Type 0} → (A → Type 0) → List A → Type 0
Each P [] = Unit {0}
Each P (x ∷ xs) = P x × Each P xs

module _ {A : Type 0} (P : A → Type 0) where
  pub each_append : (xs ys : List A) → Each P xs → Each P ys → Each P (xs ++ ys)
  each_append [] ys X Y = Y
  each_append (x ∷ xs) ys X Y = (X.0, each_append xs ys X.1 Y)

  pub each : (xs : List A) → ((x : A) → P x) → Each P xs
  each [] f = tt
  each (x ∷ xs) f = (f x, each xs f)

-- whatever they are
abbrev pub Any : Tree → Type 0
Any x = Unit {0}

pub all_any : (xs : List Tree) → Each Any xs
all_any xs = each Any xs (λ x. tt)

abbrev pub formulas_of : List Hypothesis → List Tree
formulas_of = map (λ h. h.formula)

pub formulas_long : (hs : List Hypothesis) → length (formulas_of hs) ≡ length hs
formulas_long hs = length-map hs (λ h. h.formula)

pub formulas_append : (hs ks : List Hypothesis) → formulas_of (hs ++ ks) ≡ formulas_of hs ++ formulas_of ks
formulas_append [] ks = refl
formulas_append (h ∷ hs) ks = ap (λ (xs : List Tree). h.formula ∷ xs) (formulas_append hs ks)

-- ---- present and different, by the formulas
pub present_among : (hs : List Hypothesis) (x : Tree) → present hs x ≡ among x (formulas_of hs)
unfolding among
present_among [] x = present_none x
present_among (h ∷ hs) x = present_cons h hs x ∙ ap (λ (b : Bool). same h.formula x || b) (present_among hs x)

pub different_by : (hs ks : List Hypothesis) → formulas_of hs ≡ formulas_of ks → Different hs → Different ks
different_by [] [] e D = tt
different_by [] (k ∷ ks) e D = absurd (nil≢cons e)
different_by (h ∷ hs) [] e D = absurd (cons≢nil e)
different_by (h ∷ hs) (k ∷ ks) e D =
    let i : h.formula ≡ k.formula = cc in
    let j : formulas_of hs ≡ formulas_of ks = cc in
    (present_among ks k.formula ∙ rw (← i, ← j) (sym (present_among hs h.formula)) ∙ D.0, different_by hs ks j D.1)
