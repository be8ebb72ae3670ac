-- Modify: the goal, and the whole act.
use Prim.Native.Nat.{ℕ, ◌≤◌}
use mathlib.Core.Path.{◌≡◌, refl, sym, ◌∙◌}
use mathlib.Core.Bool.{Bool, true, false, not}
use mathlib.Core.List.{List}
use native.Mathlib.Omega.{arith}
use lib.Dec.{eqb}
use lib.ListN.{length, drop}
use lib.Pointwise.{pointwise}
use Rattle.std.specs.Prelude.{Result, Ok, Err}
use Rattle.std.specs.Result.{IsErrAnd}
use Rattle.refusal.specs.Refusal.{act_said}
use Rattle.refusal.specs.declared.Cause.TheVariants as cause
use Rattle.refusal.specs.declared.Said.{Said}
use Rattle.formula.specs.Equal.{same}
use Rattle.formula.specs.Tree.{Tree, encode}
use Rattle.formula.proofs.RangeLaws.{same_bytes_by}
use Rattle.desk.specs.Sequent.{Hypothesis, sequent_of}
use Rattle.desk.specs.Hypotheses.{add_all}
use Rattle.desk.specs.Mirror.Bytes.{LaidIs, OnDesk}
use Rattle.desk.specs.Mirror.Moves.{ListIs, Extends, formula_at}
use Rattle.desk.specs.declared.Desk.{Desk}
use Rattle.desk.specs.declared.NoRoom.{NoRoom}
use Rattle.desk.specs.declared.hypotheses.Hypotheses.{Hypotheses}
use Rattle.desk.specs.declared.list.List.{List as Formulas}
use Rattle.desk.proofs.Formulas.{Any, all_any}
use Rattle.desk.proofs.Laid.{laid_on}
use Rattle.desk.proofs.Positions.{grown_extends}
use Rattle.desk.proofs.StepsGrow.{adds_grown}
use Rattle.steps.specs.Mirror.Steps.{views_differ, StepTo, AllAmongIs, AddAllIs}
use Rattle.steps.proofs.Listings.{first_of, none_left}
use Rattle.sequent.specs.declared.Opened.{Opened}
use Rattle.buffers.specs.Outcome.{finish}
use Rattle.buffers.specs.Mirror.Buffers.{FinishIs}
use Rattle.buffers.specs.declared.Done.{Done}
use Rattle.buffers.proofs.Room.{too_much_finish}
use Rattle.acts.specs.Acts.{acted, differs, modify}
use Rattle.acts.specs.Mirror.Answering.{Answers, OpenIs, ModifyAnswers, GoalAnswers}
use Rattle.acts.proofs.AnswerLaws.{refused_answers, exit_answers}
use Rattle.acts.proofs.Ranges.{goal_there, stand_there, opened_short}
use Rattle.acts.proofs.ViewLaws.{views_differ_law}

-- ---- the goal: the sequent's own, or the one of the list
module _ (s : Opened) (d : Desk) (goals : Formulas) (out out' : List ℕ) (r : Result Done Said) (h : Hypotheses)
    (hb : h.bytes.now ≡ d.bytes) (hp : h.places.now ≡ d.places) (hv : h.view ≡ d.view) (g own : List ℕ) (own≡ : own ≡ drop s.view.end s.bytes.now)
    (other ch : Bool) (o≡ : other ≡ not (pointwise eqb own g)) (c≡ : ch ≡ views_differ s.view d.view other) (F : FinishIs h g ch out out' r) where
  goal_is : (O : OpenIs s) (ks : List Hypothesis) (goal : Tree) → OnDesk d O.sequent.types ks → Extends O.sequent.hypotheses ks → length ks ≤ 64 → g ≡ encode goal
      → Answers (finish (length out) (acted false O.sequent (sequent_of O.sequent.types ks goal))) out out' r
  unfolding acted same
  goal_is O ks goal K E few g≡ =
      let q = O.sequent in
      let f = F q.types ks goal (rw (hb, hp, hv) K) O.accepted.few_types few g≡ in
      let x : ch ≡ differs q (sequent_of q.types ks goal)
      = c≡ ∙ rw (o≡, same_bytes_by own g, g≡, goal_there s O own own≡) (views_differ_law s.bytes.now s.places d.bytes d.places q.types s.view d.view q.hypotheses ks O.held K E q.goal goal) in
      record { says = f.0 ∙ rw x refl; leaves = f.1 ∙ rw x refl }

  pub goal_kept : goals.count ≡ 0 → g ≡ own → GoalAnswers s d goals out out' r
  unfolding GoalAnswers
  goal_kept z g≡ O ks gs K E few L = rw (none_left goals.bytes.now goals.starts goals.count 0 gs L (omega arith)) (goal_is O ks O.sequent.goal K E few (g≡ ∙ goal_there s O own own≡))

  pub goal_lent : (goals.count ≡ 0 → ⊥) → g ≡ formula_at goals 0 → GoalAnswers s d goals out out' r
  unfolding GoalAnswers
  goal_lent n g≡ O ks gs K E few L =
      let o = first_of goals.bytes.now goals.starts goals.count 0 gs L (omega arith) in
      rw o.are (goal_is O ks o.here K E few (g≡ ∙ o.range.bytes_are))

-- ---- the whole act
module _ (s : Opened) (added unselected goals : Formulas) (out : List ℕ) (b : Bool) (B : AllAmongIs unselected added b) where
  pub modify_not : (z : Said) → b ≡ false → z ≡ act_said cause.NotAdded → ModifyAnswers s added unselected goals out out (Err z)
  unfolding ModifyAnswers AllAmongIs
  modify_not z e z≡ O xs us gs A U G =
      let i = sym (B us xs U A) ∙ e in
      rw (i, z≡) (refused_answers _ _ out refl)

  module _ (e : b ≡ true) (h : Hypotheses) (hb : h.bytes.now ≡ s.bytes.now) (hp : h.places.now ≡ s.places) (hv : h.view ≡ s.view) (d : Desk) (D : LaidIs h d) (d' : Desk) where
    stepped : (r : Result Unit NoRoom) → AddAllIs d added unselected d' r → (O : OpenIs s) (xs us : List Tree) → ListIs added xs → ListIs unselected us → StepTo d' O.sequent.types (add_all us xs O.sequent.hypotheses) r
    unfolding AddAllIs
    stepped r X O xs us A U =
        let H = laid_on h d D O.sequent.types O.sequent.hypotheses (stand_there s O h hb hp hv) (rw hv (opened_short s O)) in
        X O.sequent.types O.sequent.hypotheses xs us H O.accepted.few A U

    pub modify_full : (n : NoRoom) (r : Result Done Said) → AddAllIs d added unselected d' (Err n) → IsErrAnd r (λ z. z ≡ act_said cause.Room) → ModifyAnswers s added unselected goals out out r
    unfolding ModifyAnswers AllAmongIs StepTo modify acted
    modify_full n r X z O xs us gs A U G =
        let i = sym (B us xs U A) ∙ e in
        rw i (exit_answers _ _ out r z (too_much_finish (length out) _ (stepped (Err n) X O xs us A U)))

    pub modify_done : (u : Unit) (out' : List ℕ) (r : Result Done Said) → AddAllIs d added unselected d' (Ok u) → GoalAnswers s d' goals out out' r → ModifyAnswers s added unselected goals out out' r
    unfolding ModifyAnswers AllAmongIs StepTo GoalAnswers modify
    modify_done u out' r X K O xs us gs A U G =
        let i = sym (B us xs U A) ∙ e in
        let o = stepped (Ok u) X O xs us A U in
        let hs = O.sequent.hypotheses in
        let E = grown_extends Any hs (add_all us xs hs) (adds_grown Any us xs hs (all_any xs)) in
        rw i (K O (add_all us xs hs) gs o.0 E o.1 G)
