-- Properties of every element, relations of two lists element by element, and steps that all give something.
use Prim.Native.Nat.{ℕ, zero, suc, ◌<◌}
use mathlib.Core.Path.{◌≡◌, refl, ap}
use mathlib.Core.List.{List, [], ◌∷◌, ◌++◌}
use mathlib.Core.Bool.{Bool, true, false}
use mathlib.Core.Option.{Option, some, none}
use native.Mathlib.Omega.{arith}
use lib.ListN.{length}
use Rattle.formula.proofs.Choices.{never, none_some}
use Rattle.meaning.specs.Defined.{◌>>=◌, nth, each, concat_map}

abbrev pub All : {A : Type 0} → (A → Type 0) → List A → Type 0
All P [] = Unit {0}
All P (x ∷ xs) = P x × All P xs

abbrev pub All2 : {A B : Type 0} → (A → B → Type 0) → List A → List B → Type 0
All2 R [] [] = Unit {0}
All2 R [] (y ∷ ys) = ⊥
All2 R (x ∷ xs) [] = ⊥
All2 R (x ∷ xs) (y ∷ ys) = R x y × All2 R xs ys

pub all_map : {A : Type 0} {P Q : A → Type 0} (l : List A) → ((x : A) → P x → Q x) → All P l → All Q l
all_map [] f a = tt
all_map (x ∷ xs) f a = (f x a.0, all_map xs f a.1)

pub all_append : {A : Type 0} (P : A → Type 0) (l r : List A) → All P l → All P r → All P (l ++ r)
all_append P [] r a b = b
all_append P (x ∷ xs) r a b = (a.0, all_append P xs r a.1 b)

pub all_concat : {A B : Type 0} (P : B → Type 0) (f : A → List B) (l : List A) → ((x : A) → All P (f x)) → All P (concat_map f l)
all_concat P f [] h = tt
all_concat P f (x ∷ xs) h = all_append P (f x) (concat_map f xs) (h x) (all_concat P f xs h)

pub all2_length : {A B : Type 0} (R : A → B → Type 0) (xs : List A) (ys : List B) → All2 R xs ys → length xs ≡ length ys
all2_length R [] [] a = refl
all2_length R [] (y ∷ ys) a = absurd a
all2_length R (x ∷ xs) [] a = absurd a
all2_length R (x ∷ xs) (y ∷ ys) a = ap suc (all2_length R xs ys a.1)

-- ---- something is there
abbrev pub is_some : {A : Type 0} → Option A → Bool
is_some none = false
is_some (some a) = true

pub some_there : {A : Type 0} (o : Option A) → is_some o ≡ true → (a : A) × (o ≡ some a)
some_there none e = never e
some_there (some a) e = (a, refl)

pub some_inj : {A : Type 0} {a b : A} → some a ≡ some b → a ≡ b
some_inj e = cc

pub step_inv : {A B : Type 0} (o : Option A) {f : A → Option B} {b : B} → (o >>= f) ≡ some b → (a : A) × (o ≡ some a) × (f a ≡ some b)
step_inv none e = none_some e
step_inv (some a) e = (a, refl, e)

pub two_steps : {A B C : Type 0} (o : Option A) (p : Option B) (f : A → B → C) {a : A} {b : B} → o ≡ some a → p ≡ some b → (o >>= λ x. p >>= λ y. some (f x y)) ≡ some (f a b)
two_steps o p f e q = rw (e, q)

pub each_some : {A B : Type 0} (f : A → Option B) (l : List A) → All (λ x. (b : B) × (f x ≡ some b)) l → (bs : List B) × (each f l ≡ some bs) × (length bs ≡ length l)
each_some f [] a = ([], refl, refl)
each_some f (x ∷ xs) a =
    let k = each_some f xs a.1 in
    (a.0.0 ∷ k.0, two_steps (f x) (each f xs) ◌∷◌ a.0.1 k.1, ap suc k.2)

pub nth_there : {A : Type 0} (l : List A) (k : ℕ) → k < length l → (a : A) × (nth l k ≡ some a)
nth_there [] k h = absurd (omega arith)
nth_there (x ∷ l) zero h = (x, refl)
nth_there (x ∷ l) (suc k) h = nth_there l k (omega arith)
