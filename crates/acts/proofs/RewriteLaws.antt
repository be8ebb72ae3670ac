-- Rewrite: inference and hide, and the whole act.
use Prim.Native.Nat.{ℕ, ◌≤◌}
use mathlib.Core.Path.{◌≡◌, refl, sym, ◌∙◌}
use mathlib.Core.Bool.{Bool, true, false, ◌||◌}
use mathlib.Core.List.{List}
use lib.ListN.{length, drop}
use Rattle.std.specs.Prelude.{Result, Ok, Err}
use Rattle.std.specs.Result.{IsErrAnd}
use Rattle.refusal.specs.Refusal.{act_said}
use Rattle.refusal.specs.declared.Cause.TheVariants as cause
use Rattle.refusal.specs.declared.Said.{Said}
use Rattle.formula.specs.Tree.{Tree}
use Rattle.desk.specs.Sequent.{Hypothesis, with_hypotheses}
use Rattle.desk.specs.Hypotheses.{hide, change_all, all_present, infer_all, infer, reselects}
use Rattle.desk.specs.Mirror.Bytes.{LaidIs}
use Rattle.desk.specs.Mirror.Moves.{ListIs}
use Rattle.desk.specs.declared.Desk.{Desk}
use Rattle.desk.specs.declared.NoRoom.{NoRoom}
use Rattle.desk.specs.declared.hypotheses.Hypotheses.{Hypotheses}
use Rattle.desk.specs.declared.list.List.{List as Formulas}
use Rattle.desk.specs.declared.view.View.{View}
use Rattle.desk.proofs.Formulas.{Any, all_any}
use Rattle.desk.proofs.Laid.{laid_on}
use Rattle.desk.proofs.Positions.{extends_then, grown_extends}
use Rattle.desk.proofs.Room.{too_much_grown}
use Rattle.desk.proofs.StepsGrow.{infers_grown, changes_grown}
use Rattle.steps.specs.Mirror.Steps.{views_differ, ChangeAllIs}
use Rattle.steps.specs.declared.flags.Act.TheVariants as act
use Rattle.steps.proofs.FlagLaws.{changes_long}
use Rattle.inference.specs.Mirror.Inference.{no_source, weigh, WeighAllIs, hides_inferred, InferTo, InferAllIs}
use Rattle.inference.specs.declared.infer.Sources.{Sources}
use Rattle.inference.proofs.SourceLaws.{sources_there, sources_selected, sources_hide}
use Rattle.sequent.specs.declared.Opened.{Opened}
use Rattle.buffers.specs.Mirror.Buffers.{FinishIs}
use Rattle.buffers.specs.declared.Done.{Done}
use Rattle.buffers.proofs.Room.{too_much_finish}
use Rattle.acts.specs.Acts.{acted, differs, rewrite}
use Rattle.acts.specs.Mirror.Answering.{OpenIs, RewriteAnswers, InferAnswers, HideAnswers}
use Rattle.acts.proofs.AnswerLaws.{exit_answers}
use Rattle.acts.proofs.ChangedIs.{never_differs}
use Rattle.acts.proofs.Ranges.{goal_there, stand_there, opened_short}
use Rattle.acts.proofs.ViewLaws.{views_same_goal}

-- ---- hide, after the inference
module _ (s : Opened) (d : Desk) (again : Bool) (to_hide : Formulas) (h : Hypotheses) (hb : h.bytes.now ≡ d.bytes) (hp : h.places.now ≡ d.places) (hv : h.view ≡ d.view) where
  pub hide_done : (w : View) (h' : Hypotheses) (g : List ℕ) (ch : Bool) (out out' : List ℕ) (r : Result Done Said) → ChangeAllIs h act.Hide to_hide w → h' ≡ record h { view = w }
      → g ≡ drop s.view.end s.bytes.now → ch ≡ (again || views_differ s.view w false) → FinishIs h' g ch out out' r → HideAnswers s d again to_hide out out' r
  unfolding HideAnswers ChangeAllIs acted
  hide_done w h' g ch out out' r A h≡ g≡ c≡ F O ks zs K E few C =
      let q = O.sequent in
      let ls = change_all hide zs ks in
      let L = A q.types ks zs (rw (hb, hp, hv) K) few C in
      let fewer : length ls ≤ 64 = rw (changes_long hide zs ks) few in
      let f = (rw h≡ at F) q.types ls q.goal L O.accepted.few_types fewer (goal_there s O g g≡) in
      let X = extends_then q.hypotheses ks ls E (grown_extends Any ks ls (changes_grown Any hide zs ks)) in
      let x : ch ≡ (again || differs q (with_hypotheses q ls))
      = c≡ ∙ rw (views_same_goal s.bytes.now s.places h.bytes.now h.places.now q.types s.view w q.hypotheses ls O.held L X q.goal) refl in
      record { says = f.0 ∙ rw x refl; leaves = f.1 ∙ rw x refl }

-- ---- the sources are there
module _ (s : Opened) (j : Sources) (inferred to_hide : Formulas) (h : Hypotheses) (hb : h.bytes.now ≡ s.bytes.now) (hp : h.places.now ≡ s.places) (hv : h.view ≡ s.view)
    (d : Desk) (D : LaidIs h d) (d' : Desk) (out : List ℕ) where
  abbrev after : (O : OpenIs s) (ys : List Tree) → List Hypothesis
  after O ys = infer_all O.sequent.hypotheses j.selected (hides_inferred j) ys O.sequent.hypotheses

  stepped : (r : Result Bool NoRoom) → InferAllIs j d inferred d' r → (O : OpenIs s) (ys : List Tree) → ListIs inferred ys → InferTo d' O.sequent.types (after O ys) (reselects O.sequent.hypotheses j.selected ys) r
  unfolding InferAllIs
  stepped r I O ys B =
      let H = laid_on h d D O.sequent.types O.sequent.hypotheses (stand_there s O h hb hp hv) (rw hv (opened_short s O)) in
      I O.sequent.types O.sequent.hypotheses ys H O.accepted.few B

  pub there_full : (n : NoRoom) (r : Result Done Said) → InferAllIs j d inferred d' (Err n) → IsErrAnd r (λ z. z ≡ act_said cause.Room) → InferAnswers s j inferred to_hide out out r
  unfolding InferAnswers InferTo acted
  there_full n r I z O ys zs B C =
      let full = too_much_grown O.sequent.types _ Any _ (changes_grown Any hide zs (after O ys)) (stepped (Err n) I O ys B) in
      exit_answers _ _ out r z (too_much_finish (length out) _ full)

  pub there_done : (again : Bool) (out' : List ℕ) (r : Result Done Said) → InferAllIs j d inferred d' (Ok again) → HideAnswers s d' again to_hide out out' r → InferAnswers s j inferred to_hide out out' r
  unfolding InferAnswers InferTo HideAnswers
  there_done again out' r I H O ys zs B C =
      let hs = O.sequent.hypotheses in
      let o = stepped (Ok again) I O ys B in
      let E = grown_extends Any hs (after O ys) (infers_grown Any hs j.selected (hides_inferred j) ys hs (all_any ys)) in
      rw (← o.2) (H O (after O ys) zs o.0 E o.1 C)

-- ---- or one of them is absent
module _ (s : Opened) (sources inferred to_hide : Formulas) (h : Hypotheses) (hb : h.bytes.now ≡ s.bytes.now) (hp : h.places.now ≡ s.places) (hv : h.view ≡ s.view)
    (j : Sources) (S : WeighAllIs h sources j) (out out' : List ℕ) (r : Result Done Said) where
  weighed : (O : OpenIs s) (xs : List Tree) → ListIs sources xs → j ≡ weigh O.sequent.hypotheses xs no_source
  unfolding WeighAllIs
  weighed O xs A = S O.sequent.types O.sequent.hypotheses xs (stand_there s O h hb hp hv) O.accepted.few A

  pub read_there : j.there ≡ true → InferAnswers s j inferred to_hide out out' r → RewriteAnswers s sources inferred to_hide out out' r
  unfolding RewriteAnswers InferAnswers rewrite infer
  read_there t T O xs ys zs A B C =
      let hs = O.sequent.hypotheses in
      let y = weighed O xs A in
      let e : all_present hs xs ≡ true = sym (sources_there hs xs) ∙ rw (← y) t in
      let g = rw (y, sources_hide hs xs, sources_selected hs xs) at (T O ys zs B C) in
      rw e g

  pub read_absent : j.there ≡ false → (g : List ℕ) → g ≡ drop s.view.end s.bytes.now → FinishIs h g false out out' r → RewriteAnswers s sources inferred to_hide out out' r
  unfolding RewriteAnswers rewrite acted
  read_absent t g g≡ F O xs ys zs A B C =
      let q = O.sequent in
      let y = weighed O xs A in
      let e : all_present q.hypotheses xs ≡ false = sym (sources_there q.hypotheses xs) ∙ rw (← y) t in
      let f = F q.types q.hypotheses q.goal (stand_there s O h hb hp hv) O.accepted.few_types O.accepted.few (goal_there s O g g≡) in
      rw (e, never_differs q) (record { says = f.0; leaves = f.1 })
