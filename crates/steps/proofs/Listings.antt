-- Going along a list of formulas: the one law of every loop over a list.
use Prim.Native.Nat.{ℕ, ◌+◌, ◌<◌, ◌≤◌}
use mathlib.Core.Path.{◌≡◌, refl, sym, ap, ◌∙◌, subst}
use mathlib.Core.List.{List, [], ◌∷◌}
use native.Mathlib.Omega.{arith}
use lib.ListN.{get_or}
use Rattle.formula.specs.Tree.{Tree, encode}
use Rattle.formula.specs.Equal.{Range}
use Rattle.desk.specs.Mirror.Moves.{RangesFrom, Listing, ListIs, formula_at}
use Rattle.desk.specs.declared.list.List.{List as Formulas}

-- ---- its next formula
pub record First (b starts : List ℕ) (n i : ℕ) (xs : List Tree) : Type 0 where
  pub here : Tree
  pub rest : List Tree
  pub are : xs ≡ here ∷ rest
  pub range : Range b (get_or starts i 0) (get_or starts (i + 1) 0) here
  pub others : Listing b starts n (i + 1) rest

module _ (b starts : List ℕ) (n i : ℕ) where
  pub first_of : (xs : List Tree) → Listing b starts n i xs → i < n → First b starts n i xs
  unfolding RangesFrom
  first_of [] L h = absurd (omega (arith, L.count))
  first_of (x ∷ xs) L h = record { here = x; rest = xs; are = refl; range = L.stand.0; others = record { stand = L.stand.1; count = omega (arith, L.count) } }

  pub none_left : (xs : List Tree) → Listing b starts n i xs → n ≤ i → xs ≡ []
  none_left [] L h = refl
  none_left (x ∷ xs) L h = absurd (omega (arith, L.count))

-- ---- the law: `work` says what is left to do with the formulas that are left; where the loop stands at `now`, it gives what the whole gives.
-- R says what the code has there
pub record Walk {T A : Type 0} (work : List Tree → T → A) (xs : List Tree) (first : T) (l : Formulas) (i : ℕ) (R : T → Type 0) : Type 0 where
  pub now : T
  pub rest : List Tree
  pub left : Listing l.bytes.now l.starts l.count i rest
  pub goes : work rest now ≡ work xs first
  pub held : R now

module _ {T A : Type 0} (work : List Tree → T → A) (xs : List Tree) (first : T) (l : Formulas) where
  pub walk_starts : (R : T → Type 0) → ListIs l xs → R first → Walk work xs first l 0 R
  walk_starts R L r = record { now = first; rest = xs; left = L; goes = refl; held = r }

  module _ (i : ℕ) (R : T → Type 0) (W : Walk work xs first l i R) where
    whole_is : (ys : List Tree) → W.rest ≡ ys → work ys W.now ≡ work xs first
    whole_is ys e = ap (λ (zs : List Tree). work zs W.now) (sym e) ∙ W.goes

    -- one more formula done
    pub walk_goes : (R' : T → Type 0) → i < l.count
        → ((x : Tree) (rest : List Tree) (t : T) → formula_at l i ≡ encode x → R t → (t' : T) × (work (x ∷ rest) t ≡ work rest t') × R' t')
        → Walk work xs first l (i + 1) R'
    walk_goes R' h one =
        let f = first_of l.bytes.now l.starts l.count i W.rest W.left h in
        let o = one f.here f.rest W.now f.range.bytes_are W.held in
        record { now = o.0; rest = f.rest; left = f.others; goes = sym o.1 ∙ whole_is (f.here ∷ f.rest) f.are; held = o.2 }

    -- the answer is known before the end
    pub walk_stops : (Q : A → Type 0) → i < l.count → ((x : Tree) (rest : List Tree) (t : T) → formula_at l i ≡ encode x → R t → Q (work (x ∷ rest) t)) → Q (work xs first)
    walk_stops Q h one =
        let f = first_of l.bytes.now l.starts l.count i W.rest W.left h in
        subst Q (whole_is (f.here ∷ f.rest) f.are) (one f.here f.rest W.now f.range.bytes_are W.held)

    -- none is left
    pub walk_ends : (Q : A → Type 0) → l.count ≤ i → ((t : T) → R t → Q (work [] t)) → Q (work xs first)
    walk_ends Q h one = subst Q (whole_is [] (none_left l.bytes.now l.starts l.count i W.rest W.left h)) (one W.now W.held)

-- a list of none
pub empty_listing : (b starts : List ℕ) → Listing b starts 0 0 []
unfolding RangesFrom
empty_listing b starts = record { stand = tt; count = omega arith }
