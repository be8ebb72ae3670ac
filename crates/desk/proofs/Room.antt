-- Too much for a sequent: one more hypothesis may be too much, and what comes after it does not help.
use Prim.Native.Nat.{ℕ, ◌+◌, ◌<◌, ◌≤◌}
use mathlib.Core.Logic.{◌⊎◌, inl, inr, ⊎_elim}
use mathlib.Core.List.{List, [], ◌∷◌, ◌++◌}
use native.Mathlib.Omega.{arith}
use lib.ListN.{length, length-append}
use Rattle.formula.specs.Tree.{Tree, encode}
use Rattle.desk.specs.Sequent.{Flag, Hypothesis, hypothesis}
use Rattle.desk.specs.Mirror.Desk.{Holds}
use Rattle.desk.specs.Mirror.Moves.{TooMuch}
use Rattle.desk.specs.declared.view.View.{View}
use Rattle.desk.proofs.Appends.{bytes_more}
use Rattle.desk.proofs.Grown.{Grown, grown_bytes, grown_long}

module _ (types : List ℕ) (hs : List Hypothesis) where
  pub too_much_one : (desk places : List ℕ) (v : View) (f : Flag) (y : Tree) → Holds desk places v types hs → (64 ≤ length hs) ⊎ (60000 < v.end + 1 + length (encode y))
      → TooMuch types (hs ++ (hypothesis f y ∷ []))
  unfolding TooMuch
  too_much_one desk places v f y H t =
      let k : Hypothesis = hypothesis f y in
      let l = length-append hs (k ∷ []) in
      let m = bytes_more k hs in
      ⊎_elim (λ g. inl (omega arith)) (λ g. inr (omega (arith, H.end_is))) t

  pub too_much_grown : (P : Tree → Type 0) (ks : List Hypothesis) → Grown P hs ks → TooMuch types hs → TooMuch types ks
  unfolding TooMuch
  too_much_grown P ks G t =
      let l = grown_long P hs ks G in
      let b = grown_bytes P hs ks G in
      ⊎_elim (λ g. inl (omega arith)) (λ g. inr (omega arith)) t
