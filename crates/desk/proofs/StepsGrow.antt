-- The steps lose nothing: after each, the hypotheses have grown.
use mathlib.Core.Path.{refl}
use mathlib.Core.Bool.{Bool, ◌&&◌}
use mathlib.Core.List.{List}
use Rattle.formula.specs.Tree.{Tree}
use Rattle.desk.specs.Sequent.{Flag, plain, Hypothesis, is_visible, among, flag_in, holds, present}
use Rattle.desk.specs.Hypotheses.{select, change, change_all, added_flag, inferred_flag, add_one, add_all, infer_one, infer_all, infer}
use Rattle.desk.proofs.Formulas.{Each, Any, all_any}
use Rattle.desk.proofs.Grown.{Grown, flags_grown, one_grown, pick_grown, all_grown, change_grown}

module _ (P : Tree → Type 0) where
  pub add_grown : (u : List Tree) (x : Tree) (hs : List Hypothesis) → P x → Grown P hs (add_one u x hs)
  unfolding add_one
  add_grown u x hs h = pick_grown P hs (present hs x) _ _ (λ e. change_grown P (added_flag (among x u)) x hs) (λ e. one_grown P hs (added_flag (among x u) plain) x e h)

  pub adds_grown : (u xs : List Tree) (hs : List Hypothesis) → Each P xs → Grown P hs (add_all u xs hs)
  unfolding add_all
  adds_grown u = all_grown P P (add_one u) (add_all u) (λ hs. refl) (λ x xs hs. refl) (add_grown u)

  module _ (before : List Hypothesis) (s d : Bool) where
    pub infer_grown : (x : Tree) (hs : List Hypothesis) → P x → Grown P hs (infer_one before s d x hs)
    unfolding infer_one
    infer_grown x hs h =
        pick_grown P hs (present hs x) _ _
        (λ e. pick_grown P hs (s && holds is_visible (flag_in before x)) _ _ (λ v. change_grown P select x hs) (λ v. flags_grown P hs hs refl))
        (λ e. one_grown P hs (inferred_flag s d) x e h)

    pub infers_grown : (xs : List Tree) (hs : List Hypothesis) → Each P xs → Grown P hs (infer_all before s d xs hs)
    unfolding infer_all
    infers_grown = all_grown P P (infer_one before s d) (infer_all before s d) (λ hs. refl) (λ x xs hs. refl) infer_grown

  pub inferred_grown : (hs : List Hypothesis) (sources inferred : List Tree) → Each P inferred → Grown P hs (infer hs sources inferred)
  unfolding infer
  inferred_grown hs sources inferred = infers_grown hs _ _ inferred hs

  pub changes_grown : (f : Flag → Flag) (xs : List Tree) (hs : List Hypothesis) → Grown P hs (change_all f xs hs)
  unfolding change_all
  changes_grown f xs hs = all_grown P Any (change f) (change_all f) (λ hs. refl) (λ x xs hs. refl) (λ x hs u. change_grown P f x hs) xs hs (all_any xs)
