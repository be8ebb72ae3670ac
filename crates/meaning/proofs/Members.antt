-- What is in a list, and in what the steps of the meaning make of it.
use mathlib.Core.Path.{◌≡◌, refl, ap, ap₂, sym, ◌∙◌, subst}
use mathlib.Core.List.Memᴰ
use mathlib.Core.List.{List, [], ◌∷◌, Memᴰ}
use mathlib.Core.Bool.{Bool, true, false}
use mathlib.Core.Option.{Option, some}
use mathlib.Core.Logic.{◌⊎◌, inl, inr, ⊎_elim}
use lib.IntN.{ℤ}
use Rattle.formula.specs.Pick.{pick}
use Rattle.formula.proofs.Choices.{never, and_left, and_right, and_both, or_cases}
use Rattle.meaning.specs.Defined.{each, concat_map}
use Rattle.meaning.specs.Sets.{eq_z, member}
use Rattle.meaning.specs.Operators.{all_true, some_true}
use Rattle.meaning.specs.Meaning.{collect}
use Rattle.meaning.proofs.Lists.{All, some_inj, step_inv}
use Rattle.meaning.proofs.Whole.{eq_z→eq, eq→eq_z}
use Rattle.meaning.proofs.SetLaws.{or_left, or_right}

abbrev pub In : {A : Type 0} → A → List A → Type 0
In a l = Memᴰ a l

in_none : {A X : Type 0} {a : A} → In a [] → X
in_none m = absurd (Memᴰ.not-nil m)

pub member_in : (z : ℤ) (s : List ℤ) → member z s ≡ true → In z s
member_in z [] e = never e
member_in z (x ∷ s) e = ⊎_elim (λ q. Memᴰ.head (eq_z→eq z x q)) (λ q. Memᴰ.tail (member_in z s q)) (or_cases (eq_z z x) (member z s) e)

pub in_member : (z : ℤ) (s : List ℤ) → In z s → member z s ≡ true
in_member z [] m = in_none m
in_member z (x ∷ s) m = ⊎_elim (λ e. or_left (eq_z z x) _ (eq→eq_z z x e)) (λ q. or_right (eq_z z x) _ (in_member z s q)) (Memᴰ.cases_cons m)

module _ {A B : Type 0} (f : A → List B) where
  pub concat_in : (l : List A) {b : B} → In b (concat_map f l) → (a : A) × In a l × In b (f a)
  concat_in [] m = in_none m
  concat_in (x ∷ l) {b} m = go (concat_in l) (Memᴰ.append_cases (f x) m)
    where
      go : (In b (concat_map f l) → (a : A) × In a l × In b (f a)) → In b (f x) ⊎ In b (concat_map f l) → (a : A) × In a (x ∷ l) × In b (f a)
      go rec (inl q) = (x, Memᴰ.head refl, q)
      go rec (inr q) = let r = rec q in (r.0, Memᴰ.tail r.1, r.2)

  pub in_concat : (l : List A) {a : A} {b : B} → In a l → In b (f a) → In b (concat_map f l)
  in_concat [] m q = in_none m
  in_concat (x ∷ l) {a} {b} m q =
      ⊎_elim (λ e. Memᴰ.append_left (concat_map f l) (subst (λ (y : A). In b (f y)) e q)) (λ k. Memᴰ.append_right (f x) (in_concat l k q)) (Memᴰ.cases_cons m)

module _ {A B : Type 0} (f : A → Option B) where
  -- what is read of each, ..
  pub each_in : (l : List A) (ys : List B) → each f l ≡ some ys → {a : A} → In a l → (b : B) × (f a ≡ some b) × In b ys
  each_in [] ys e m = in_none m
  each_in (x ∷ l) ys e {a} m =
      let i = step_inv (f x) e in
      let j = step_inv (each f l) i.2 in
      ⊎_elim (λ q. (i.0, ap f q ∙ i.1, subst (In i.0) (some_inj j.2) (Memᴰ.head refl)))
      (λ q. let r = each_in l j.0 j.1 q in (r.0, r.1, subst (In r.0) (some_inj j.2) (Memᴰ.tail r.2))) (Memᴰ.cases_cons m)

  -- .. and of what each is read
  pub each_from : (l : List A) (ys : List B) → each f l ≡ some ys → {b : B} → In b ys → (a : A) × In a l × (f a ≡ some b)
  each_from [] ys e {b} m = in_none (subst (In b) (sym (some_inj e)) m)
  each_from (x ∷ l) ys e {b} m =
      let i = step_inv (f x) e in
      let j = step_inv (each f l) i.2 in
      ⊎_elim (λ q. (x, Memᴰ.head refl, i.1 ∙ ap some (sym q)))
      (λ q. let r = each_from l j.0 j.1 q in (r.0, Memᴰ.tail r.1, r.2)) (Memᴰ.cases_cons (subst (In b) (sym (some_inj j.2)) m))

  pub in_each : (l : List A) → ((a : A) → In a l → (b : B) × (f a ≡ some b)) → All (λ a. (b : B) × (f a ≡ some b)) l
  in_each [] h = tt
  in_each (x ∷ l) h = (h x (Memᴰ.head refl), in_each l (λ a m. h a (Memᴰ.tail m)))

pub all_in : (bs : List Bool) → all_true bs ≡ true → {b : Bool} → In b bs → b ≡ true
all_in [] e m = in_none m
all_in (c ∷ bs) e m = ⊎_elim (λ q. q ∙ and_left c (all_true bs) e) (λ q. all_in bs (and_right c _ e) q) (Memᴰ.cases_cons m)

pub in_all : (bs : List Bool) → ((b : Bool) → In b bs → b ≡ true) → all_true bs ≡ true
in_all [] h = refl
in_all (c ∷ bs) h = and_both c _ (h c (Memᴰ.head refl)) (in_all bs (λ b m. h b (Memᴰ.tail m)))

pub some_in : (bs : List Bool) → some_true bs ≡ true → In true bs
some_in [] e = never e
some_in (c ∷ bs) e = ⊎_elim (λ q. Memᴰ.head (sym q)) (λ q. Memᴰ.tail (some_in bs q)) (or_cases c (some_true bs) e)

pub in_some : (bs : List Bool) → In true bs → some_true bs ≡ true
in_some [] m = in_none m
in_some (c ∷ bs) m = ⊎_elim (λ q. or_left c _ (sym q)) (λ q. or_right c _ (in_some bs q)) (Memᴰ.cases_cons m)

pub collect_in : (xs : List (Bool × ℤ)) (z : ℤ) → In z (collect xs) → In (true, z) xs
collect_in [] z m = in_none m
collect_in (x ∷ xs) z m = go x.0 refl (collect_in xs z) m
  where
    go : (b : Bool) → x.0 ≡ b → (In z (collect xs) → In (true, z) xs) → In z (pick b (x.1 ∷ collect xs) (collect xs)) → In (true, z) (x ∷ xs)
    go true p rec m = ⊎_elim (λ q. Memᴰ.head (ap₂ (λ (b : Bool) (y : ℤ). (b, y)) (sym p) q)) (λ q. Memᴰ.tail (rec q)) (Memᴰ.cases_cons m)
    go false p rec m = Memᴰ.tail (rec m)

pub in_collect : (xs : List (Bool × ℤ)) (z : ℤ) → In (true, z) xs → In z (collect xs)
in_collect [] z m = in_none m
in_collect (x ∷ xs) z m = ⊎_elim
    (λ q. let e : x.0 ≡ true = sym (ap (λ (p : Bool × ℤ). p.0) q) in rw e (Memᴰ.head (ap (λ (p : Bool × ℤ). p.1) q)))
    (λ q. go x.0 (in_collect xs z q)) (Memᴰ.cases_cons m)
  where
    go : (b : Bool) → In z (collect xs) → In z (pick b (x.1 ∷ collect xs) (collect xs))
    go true m = Memᴰ.tail m
    go false m = m
