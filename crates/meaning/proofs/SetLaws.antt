-- Finite sets: the tests by members alone. Two lists with the same members are the same set.
use mathlib.Core.Path.{◌≡◌, refl, ap, ap₂, sym, ◌∙◌}
use mathlib.Core.List.{List, [], ◌∷◌, ◌++◌}
use mathlib.Core.Bool.{Bool, true, false, not, ◌&&◌, ◌||◌, or_assoc, and-false}
use mathlib.Core.Logic.{◌↔◌, ⊎_elim}
use lib.IntN.{ℤ}
use borrow.Author.Tests.{not-true}
use Rattle.formula.specs.Pick.{pick}
use Rattle.formula.proofs.Choices.{never, and_left, and_right, and_both, or_cases}
use Rattle.formula.proofs.SameType.{same_test}
use Rattle.meaning.specs.Sets.{eq_z, member, subset, strict, same_set, filter, in_all}
use Rattle.meaning.proofs.Lists.{All2}
use Rattle.meaning.proofs.Whole.{eq_z_refl, eq_z→eq}

pub or_left : (a b : Bool) → a ≡ true → (a || b) ≡ true
or_left true b e = refl
or_left false b e = never e

pub or_right : (a b : Bool) → b ≡ true → (a || b) ≡ true
or_right true b e = refl
or_right false b e = e

-- ---- members
-- s ⊆ t: every member of s is in t
pub subset_members : (s t : List ℤ) → subset s t ≡ true → (z : ℤ) → member z s ≡ true → member z t ≡ true
subset_members [] t h z e = never e
subset_members (x ∷ s) t h z e = ⊎_elim
    (λ q. rw (eq_z→eq z x q) (and_left (member x t) (subset s t) h))
    (λ q. subset_members s t (and_right (member x t) _ h) z q)
    (or_cases (eq_z z x) (member z s) e)

pub members_subset : (s t : List ℤ) → ((z : ℤ) → member z s ≡ true → member z t ≡ true) → subset s t ≡ true
members_subset [] t h = refl
members_subset (x ∷ s) t h = and_both _ _ (h x (or_left _ _ (eq_z_refl x))) (members_subset s t (λ z e. h z (or_right (eq_z z x) _ e)))

-- where s ⊆ t fails, some member of s is not in t
pub not_subset : (s t : List ℤ) → subset s t ≡ false → (z : ℤ) × (member z s ≡ true) × (member z t ≡ false)
not_subset [] t e = never (sym e)
not_subset (x ∷ s) t e = go (member x t) refl e (λ q. not_subset s t q)
  where
    go : (b : Bool) → member x t ≡ b → (b && subset s t) ≡ false → (subset s t ≡ false → (z : ℤ) × (member z s ≡ true) × (member z t ≡ false))
        → (z : ℤ) × (member z (x ∷ s) ≡ true) × (member z t ≡ false)
    go true p q rec = let r = rec q in (r.0, or_right (eq_z r.0 x) _ r.1, r.2)
    go false p q rec = (x, or_left _ _ (eq_z_refl x), p)

-- s ⊂ t is strict: every member of s is in t, and some member of t is not in s
pub strict_members : (s t : List ℤ) → (strict s t ≡ true) ↔ (((z : ℤ) → member z s ≡ true → member z t ≡ true) × ((z : ℤ) × (member z t ≡ true) × (member z s ≡ false)))
strict_members s t = (there, back)
  where
    there : strict s t ≡ true → ((z : ℤ) → member z s ≡ true → member z t ≡ true) × ((z : ℤ) × (member z t ≡ true) × (member z s ≡ false))
    there e = (subset_members s t (and_left (subset s t) _ e), not_subset t s (not-true (subset t s) (and_right (subset s t) _ e)))

    back : ((z : ℤ) → member z s ≡ true → member z t ≡ true) × ((z : ℤ) × (member z t ≡ true) × (member z s ≡ false)) → strict s t ≡ true
    back h = and_both _ _ (members_subset s t h.0) (go (subset t s) refl)
      where
        go : (b : Bool) → subset t s ≡ b → not b ≡ true
        go true p = never (sym h.1.2 ∙ subset_members t s p h.1.0 h.1.1)
        go false p = refl

-- ---- the same members
abbrev pub SameMembers : List ℤ → List ℤ → Type 0
SameMembers s t = (z : ℤ) → member z s ≡ member z t

pub members_sym : (s t : List ℤ) → SameMembers s t → SameMembers t s
members_sym s t h z = sym (h z)

pub members_trans : (s t u : List ℤ) → SameMembers s t → SameMembers t u → SameMembers s u
members_trans s t u h k z = h z ∙ k z

-- sets are equal exactly if they have the same members
pub same_members : (s t : List ℤ) → (same_set s t ≡ true) ↔ SameMembers s t
same_members s t = (
  λ e z. same_test (member z s) (member z t) (subset_members s t (and_left (subset s t) _ e) z) (subset_members t s (and_right (subset s t) _ e) z),
  λ h. and_both _ _ (members_subset s t (λ z e. sym (h z) ∙ e)) (members_subset t s (λ z e. h z ∙ e)),
)

-- the tests respect it
pub subset_same : (s s' t t' : List ℤ) → SameMembers s s' → SameMembers t t' → subset s t ≡ subset s' t'
subset_same s s' t t' h k =
    same_test (subset s t) (subset s' t')
    (λ e. members_subset s' t' (λ z q. sym (k z) ∙ subset_members s t e z (h z ∙ q)))
    (λ e. members_subset s t (λ z q. k z ∙ subset_members s' t' e z (sym (h z) ∙ q)))

pub strict_same : (s s' t t' : List ℤ) → SameMembers s s' → SameMembers t t' → strict s t ≡ strict s' t'
strict_same s s' t t' h k = rw (subset_same s s' t t' h k, subset_same t t' s s' k h)

pub same_set_same : (s s' t t' : List ℤ) → SameMembers s s' → SameMembers t t' → same_set s t ≡ same_set s' t'
same_set_same s s' t t' h k = rw (subset_same s s' t t' h k, subset_same t t' s s' k h)

-- ---- the members of what the operators make
pub member_append : (z : ℤ) (s t : List ℤ) → member z (s ++ t) ≡ (member z s || member z t)
member_append z [] t = refl
member_append z (x ∷ s) t = ap (eq_z z x ||◌) (member_append z s t) ∙ sym (or_assoc (eq_z z x) (member z s) (member z t))

pub member_filter : (f : ℤ → Bool) (z : ℤ) (s : List ℤ) → member z (filter f s) ≡ (member z s && f z)
member_filter f z [] = refl
member_filter f z (x ∷ s) = go (f x) refl (eq_z z x) refl (member_filter f z s)
  where
    go : (b : Bool) → f x ≡ b → (c : Bool) → eq_z z x ≡ c → member z (filter f s) ≡ (member z s && f z)
        → member z (pick b (x ∷ filter f s) (filter f s)) ≡ ((c || member z s) && f z)
    go true p true q i = rw q (sym (ap f (eq_z→eq z x q) ∙ p))
    go true p false q i = rw q i
    go false p true q i = let e : f z ≡ false = ap f (eq_z→eq z x q) ∙ p in i ∙ ap (member z s &&◌) e ∙ and-false (member z s) ∙ sym e
    go false p false q i = i

pub in_all_same : (z : ℤ) (ss ts : List (List ℤ)) → All2 SameMembers ss ts → in_all z ss ≡ in_all z ts
in_all_same z [] [] a = refl
in_all_same z [] (t ∷ ts) a = absurd a
in_all_same z (s ∷ ss) [] a = absurd a
in_all_same z (s ∷ ss) (t ∷ ts) a = ap₂ ◌&&◌ (a.0 z) (in_all_same z ss ts a.1)

pub append_same : (s s' t t' : List ℤ) → SameMembers s s' → SameMembers t t' → SameMembers (s ++ t) (s' ++ t')
append_same s s' t t' h k z = member_append z s t ∙ ap₂ ◌||◌ (h z) (k z) ∙ sym (member_append z s' t')

pub filter_same : (f g : ℤ → Bool) (s t : List ℤ) → ((z : ℤ) → f z ≡ g z) → SameMembers s t → SameMembers (filter f s) (filter g t)
filter_same f g s t e h z = member_filter f z s ∙ ap₂ ◌&&◌ (h z) (e z) ∙ sym (member_filter g z t)
