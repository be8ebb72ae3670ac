-- What the parts of an act answer, of an opened sequent and of lists that are read.
use Rattle.std.specs.Prelude.{ℕ, ◌≤◌, ◌≡◌, List, Bool, false, length, Result}
use Rattle.refusal.specs.declared.Said.{Said}
use Rattle.formula.specs.Tree.{Tree}
use Rattle.desk.specs.Sequent.{Hypothesis, sequent_of, with_hypotheses}
use Rattle.desk.specs.Hypotheses.{hide, change_all, infer_all, reselects}
use Rattle.desk.specs.Mirror.Bytes.{OnDesk}
use Rattle.desk.specs.Mirror.Moves.{ListIs, Extends}
use Rattle.desk.specs.declared.Desk.{Desk}
use Rattle.desk.specs.declared.list.List.{List as Formulas}
use Rattle.inference.specs.Mirror.Inference.{hides_inferred}
use Rattle.inference.specs.declared.Sources.{Sources}
use Rattle.sequent.specs.Mirror.Opened.{Open}
use Rattle.sequent.specs.declared.Opened.{Opened}
use Rattle.buffers.specs.Outcome.{Outcome, answer_of, written, finish}
use Rattle.buffers.specs.declared.Done.{Done}
use Rattle.acts.specs.Acts.{acted, new_goal}
use Rattle.acts.specs.Outcomes.{modified, rewritten}

-- what is answered and what is left in the lent buffer are an outcome's
pub record Answers (o : Outcome) (out out' : List ℕ) (r : Result Done Said) : Type 0 where
  pub says : r ≡ answer_of o
  pub leaves : out' ≡ written o out

-- a sequent opened in place
abbrev pub OpenIs : Opened → Type 0
OpenIs s = Open s.bytes.now s.places s.view

-- ---- modify
unfoldable pub ModifyAnswers : Opened → Formulas → Formulas → Formulas → List ℕ → List ℕ → Result Done Said → Type 0
ModifyAnswers s added unselected goals out out' r =
    (O : OpenIs s) (xs us gs : List Tree) → ListIs added xs → ListIs unselected us → ListIs goals gs
    → Answers (modified (length out) O.sequent xs us gs) out out' r

-- the goal, or the one that is lent, after the hypotheses ks of the desk
unfoldable pub GoalAnswers : Opened → Desk → Formulas → List ℕ → List ℕ → Result Done Said → Type 0
GoalAnswers s d goals out out' r =
    (O : OpenIs s) (ks : List Hypothesis) (gs : List Tree) → OnDesk d O.sequent.types ks → Extends O.sequent.hypotheses ks → length ks ≤ 64 → ListIs goals gs
    → Answers (finish (length out) (acted false O.sequent (sequent_of O.sequent.types ks (new_goal gs O.sequent.goal)))) out out' r

-- ---- rewrite
unfoldable pub RewriteAnswers : Opened → Formulas → Formulas → Formulas → List ℕ → List ℕ → Result Done Said → Type 0
RewriteAnswers s sources inferred to_hide out out' r =
    (O : OpenIs s) (xs ys zs : List Tree) → ListIs sources xs → ListIs inferred ys → ListIs to_hide zs
    → Answers (rewritten (length out) O.sequent xs ys zs) out out' r

-- inference from sources that are there, then hide
unfoldable pub InferAnswers : Opened → Sources → Formulas → Formulas → List ℕ → List ℕ → Result Done Said → Type 0
InferAnswers s j inferred to_hide out out' r =
    (O : OpenIs s) (ys zs : List Tree) → ListIs inferred ys → ListIs to_hide zs
    → Answers (finish (length out) (acted (reselects O.sequent.hypotheses j.selected ys) O.sequent
    (with_hypotheses O.sequent (change_all hide zs (infer_all O.sequent.hypotheses j.selected (hides_inferred j) ys O.sequent.hypotheses))))) out out' r

-- what is inferred stands on the desk, ks; then hide
unfoldable pub HideAnswers : Opened → Desk → Bool → Formulas → List ℕ → List ℕ → Result Done Said → Type 0
HideAnswers s d again to_hide out out' r =
    (O : OpenIs s) (ks : List Hypothesis) (zs : List Tree) → OnDesk d O.sequent.types ks → Extends O.sequent.hypotheses ks → length ks ≤ 64 → ListIs to_hide zs
    → Answers (finish (length out) (acted again O.sequent (with_hypotheses O.sequent (change_all hide zs ks)))) out out' r
