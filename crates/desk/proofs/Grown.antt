-- Hypotheses that grow: flags may change and formulas may come after the old ones, but none is lost, moved or doubled.
use Prim.Native.Nat.{◌≤◌}
use mathlib.Core.Path.{◌≡◌, refl, sym, ap, ◌∙◌}
use mathlib.Core.Bool.{Bool, true, false}
use mathlib.Core.List.{List, [], ◌∷◌, ◌++◌, append_assoc, append-nil, nil≢cons}
use native.Mathlib.Omega.{arith}
use lib.ListN.{length, length-append}
use Rattle.formula.specs.Pick.{pick}
use Rattle.formula.specs.Tree.{Tree, encode}
use Rattle.desk.specs.Sequent.{Flag, Hypothesis, present, Different, hypothesis}
use Rattle.formula.specs.Equal.{same}
use Rattle.desk.specs.File.{hypotheses_bytes}
use Rattle.desk.specs.Hypotheses.{change}
use Rattle.desk.proofs.Apart.{one_apart}
use Rattle.desk.proofs.Formulas.{Each, each_append, formulas_of, formulas_long, formulas_append, different_by}

-- each further formula is one that P allows
pub record Grown (P : Tree → Type 0) (hs ks : List Hypothesis) : Type 0 where
  pub further : List Tree
  pub formulas_are : formulas_of ks ≡ formulas_of hs ++ further
  pub allowed : Each P further
  pub apart : Different hs → Different ks

module _ (P : Tree → Type 0) where
  -- other flags
  pub flags_grown : (hs ks : List Hypothesis) → formulas_of ks ≡ formulas_of hs → Grown P hs ks
  flags_grown hs ks e = record { further = []; formulas_are = e ∙ sym (append-nil (formulas_of hs)); allowed = tt; apart = different_by hs ks (sym e) }

  -- one more, that was absent
  pub one_grown : (hs : List Hypothesis) (f : Flag) (x : Tree) → present hs x ≡ false → P x → Grown P hs (hs ++ (hypothesis f x ∷ []))
  one_grown hs f x e h =
      let k : Hypothesis = hypothesis f x in
      record { further = x ∷ []; formulas_are = formulas_append hs (k ∷ []); allowed = (h, tt); apart = λ D. one_apart k hs D e }

  -- one after the other
  pub then_grown : (hs ks ls : List Hypothesis) → Grown P hs ks → Grown P ks ls → Grown P hs ls
  then_grown hs ks ls G H = record {
    further = G.further ++ H.further;
    formulas_are = H.formulas_are ∙ rw (G.formulas_are, append_assoc (formulas_of hs) G.further H.further) refl;
    allowed = each_append P G.further H.further G.allowed H.allowed;
    apart = λ D. H.apart (G.apart D);
  }

  -- a choice of two
  pub pick_grown : (hs : List Hypothesis) (b : Bool) (ks ls : List Hypothesis) → (b ≡ true → Grown P hs ks) → (b ≡ false → Grown P hs ls) → Grown P hs (pick b ks ls)
  pick_grown hs true ks ls G H = G refl
  pick_grown hs false ks ls G H = H refl

  -- a step for each of a list, one after the other
  module _ (Q : Tree → Type 0) (step : Tree → List Hypothesis → List Hypothesis) (steps : List Tree → List Hypothesis → List Hypothesis)
      (none_is : (hs : List Hypothesis) → steps [] hs ≡ hs) (next_is : (x : Tree) (xs : List Tree) (hs : List Hypothesis) → steps (x ∷ xs) hs ≡ steps xs (step x hs))
      (one : (x : Tree) (hs : List Hypothesis) → Q x → Grown P hs (step x hs)) where
    pub all_grown : (xs : List Tree) (hs : List Hypothesis) → Each Q xs → Grown P hs (steps xs hs)
    all_grown [] hs E = rw (none_is hs) (flags_grown hs hs refl)
    all_grown (x ∷ xs) hs E = rw (next_is x xs hs) (then_grown hs (step x hs) (steps xs (step x hs)) (one x hs E.0) (all_grown xs (step x hs) E.1))

-- ---- a flag changed
pub change_formulas : (f : Flag → Flag) (x : Tree) (hs : List Hypothesis) → formulas_of (change f x hs) ≡ formulas_of hs
unfolding change
change_formulas f x [] = refl
change_formulas f x (h ∷ hs) = go (same h.formula x) (change_formulas f x hs)
  where
    go : (b : Bool) → formulas_of (change f x hs) ≡ formulas_of hs
        → formulas_of (pick b (hypothesis (f h.flag) h.formula ∷ hs) (h ∷ change f x hs)) ≡ h.formula ∷ formulas_of hs
    go true e = refl
    go false e = ap (λ (xs : List Tree). h.formula ∷ xs) e

pub change_grown : (P : Tree → Type 0) (f : Flag → Flag) (x : Tree) (hs : List Hypothesis) → Grown P hs (change f x hs)
change_grown P f x hs = flags_grown P hs (change f x hs) (change_formulas f x hs)

-- ---- what grows is no shorter, so that what once had no room has none in the end
further_bytes : (hs ks : List Hypothesis) (xs : List Tree) → formulas_of ks ≡ formulas_of hs ++ xs → length (hypotheses_bytes hs) ≤ length (hypotheses_bytes ks)
unfolding hypotheses_bytes
further_bytes [] ks xs e = omega arith
further_bytes (h ∷ hs) [] xs e = absurd (nil≢cons e)
further_bytes (h ∷ hs) (k ∷ ks) xs e =
    let f : k.formula ≡ h.formula = cc in
    let i = further_bytes hs ks xs (cc) in
    let m = length-append (encode h.formula) (hypotheses_bytes hs) in
    let n = length-append (encode k.formula) (hypotheses_bytes ks) in
    let l = ap (λ (x : Tree). length (encode x)) f in
    omega arith

module _ (P : Tree → Type 0) (hs ks : List Hypothesis) (G : Grown P hs ks) where
  pub grown_bytes : length (hypotheses_bytes hs) ≤ length (hypotheses_bytes ks)
  grown_bytes = further_bytes hs ks G.further G.formulas_are

  pub grown_long : length hs ≤ length ks
  grown_long = omega (arith, formulas_long hs, formulas_long ks, ap length G.formulas_are, length-append (formulas_of hs) G.further)
