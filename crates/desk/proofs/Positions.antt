-- Hypotheses that came after others: a formula is found where it was, or was absent.
use Prim.Native.Nat.{ℕ, suc, ◌<◌, ◌≤◌}
use mathlib.Core.Path.{◌≡◌, refl, sym, ap, ◌∙◌}
use mathlib.Core.Bool.{Bool, true, false}
use mathlib.Core.List.{List, [], ◌∷◌, ◌++◌, append-nil, append_assoc}
use native.Mathlib.Omega.{arith}
use lib.ListN.{length, length-append}
use Rattle.formula.specs.Pick.{pick}
use Rattle.formula.specs.Tree.{Tree}
use Rattle.desk.specs.Sequent.{Hypothesis}
use Rattle.formula.specs.Equal.{same}
use Rattle.desk.specs.Mirror.Desk.{index_of}
use Rattle.desk.specs.Mirror.Moves.{Extends}
use Rattle.desk.proofs.Formulas.{formulas_of, formulas_long}
use Rattle.desk.proofs.Grown.{Grown}

module _ (y : Tree) where
  -- the position among formulas
  unfoldable index_in : List Tree → ℕ
  index_in [] = 0
  index_in (x ∷ xs) = pick (same x y) 0 (suc (index_in xs))

  index_in_law : (hs : List Hypothesis) → index_of hs y ≡ index_in (formulas_of hs)
  unfolding index_of index_in
  index_in_law [] = refl
  index_in_law (h ∷ hs) = ap (λ (n : ℕ). pick (same h.formula y) 0 (suc n)) (index_in_law hs)

  before_end : (xs ys : List Tree) → index_in (xs ++ ys) < length xs → index_in xs ≡ index_in (xs ++ ys)
  unfolding index_in
  before_end [] ys l = absurd (omega arith)
  before_end (x ∷ xs) ys l = go (same x y) l (before_end xs ys)
    where
      go : (b : Bool) → pick b 0 (suc (index_in (xs ++ ys))) < suc (length xs) → (index_in (xs ++ ys) < length xs → index_in xs ≡ index_in (xs ++ ys)) → pick b 0 (suc (index_in xs)) ≡ pick b 0 (suc (index_in (xs ++ ys)))
      go true l r = refl
      go false l r = ap suc (r (omega arith))

  past_end : (xs ys : List Tree) → length xs ≤ index_in (xs ++ ys) → length xs ≤ index_in xs
  unfolding index_in
  past_end [] ys l = omega arith
  past_end (x ∷ xs) ys l = go (same x y) l (past_end xs ys)
    where
      go : (b : Bool) → suc (length xs) ≤ pick b 0 (suc (index_in (xs ++ ys))) → (length xs ≤ index_in (xs ++ ys) → length xs ≤ index_in xs) → suc (length xs) ≤ pick b 0 (suc (index_in xs))
      go true l r = absurd (omega arith)
      go false l r = let m = r (omega arith) in omega arith

  module _ (hs ks : List Hypothesis) (E : Extends hs ks) where
    at_end : index_of ks y ≡ index_in (formulas_of hs ++ E.further)
    at_end = index_in_law ks ∙ ap index_in E.formulas_are

    pub found_before : index_of ks y < length hs → index_of hs y ≡ index_of ks y
    found_before l = index_in_law hs ∙ before_end (formulas_of hs) E.further (omega (arith, at_end, formulas_long hs)) ∙ sym at_end

    pub absent_before : length hs ≤ index_of ks y → length hs ≤ index_of hs y
    absent_before l =
        let m = past_end (formulas_of hs) E.further (omega (arith, at_end, formulas_long hs)) in
        omega (arith, index_in_law hs, formulas_long hs)

pub extends_same : (hs : List Hypothesis) → Extends hs hs
extends_same hs = record { further = []; formulas_are = sym (append-nil (formulas_of hs)) }

pub grown_extends : (P : Tree → Type 0) (hs ks : List Hypothesis) → Grown P hs ks → Extends hs ks
grown_extends P hs ks G = record { further = G.further; formulas_are = G.formulas_are }

pub extends_then : (hs ks ls : List Hypothesis) → Extends hs ks → Extends ks ls → Extends hs ls
extends_then hs ks ls E F = record {
  further = E.further ++ F.further;
  formulas_are = F.formulas_are ∙ rw (E.formulas_are, append_assoc (formulas_of hs) E.further F.further) refl;
}

pub extends_long : (hs ks : List Hypothesis) → Extends hs ks → length hs ≤ length ks
extends_long hs ks E = omega (arith, formulas_long hs, formulas_long ks, ap length E.formulas_are, length-append (formulas_of hs) E.further)
