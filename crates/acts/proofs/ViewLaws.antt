-- Whether two views differ is whether their sequents differ.
use Prim.Native.Nat.{ℕ}
use mathlib.Core.Path.{◌≡◌, refl, sym, ap, ◌∙◌}
use mathlib.Core.Bool.{false, not}
use mathlib.Core.List.{List}
use Rattle.formula.specs.Tree.{Tree}
use Rattle.desk.specs.Sequent.{Hypothesis, sequent_of}
use Rattle.formula.specs.Equal.{same}
use Rattle.acts.specs.Acts.{differs}
use Rattle.desk.specs.Mirror.Desk.{Holds}
use Rattle.desk.specs.Mirror.Moves.{Extends}
use Rattle.steps.specs.Mirror.Steps.{views_differ}
use Rattle.desk.specs.declared.view.View.{View}
use Rattle.formula.proofs.SameBytes.{same_refl}
use Rattle.acts.proofs.ChangedIs.{differs_masks}

module _ (desk places desk' places' types : List ℕ) (v w : View) (hs ks : List Hypothesis) (H : Holds desk places v types hs) (K : Holds desk' places' w types ks) (E : Extends hs ks) where
  pub views_differ_law : (goal goal' : Tree) → views_differ v w (not (same goal goal')) ≡ differs (sequent_of types hs goal) (sequent_of types ks goal')
  unfolding views_differ
  views_differ_law goal goal' =
      rw (H.hypotheses_are, K.hypotheses_are, H.hidden_is, K.hidden_is, H.selected_is, K.selected_is)
      (sym (differs_masks (sequent_of types hs goal) (sequent_of types ks goal') refl E.further E.formulas_are))

  pub views_same_goal : (goal : Tree) → views_differ v w false ≡ differs (sequent_of types hs goal) (sequent_of types ks goal)
  views_same_goal goal =
      let e : false ≡ not (same goal goal) = rw (same_refl goal) refl in
      ap (views_differ v w) e ∙ views_differ_law goal goal
