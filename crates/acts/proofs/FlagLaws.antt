-- An act on one flag, whole.
use Prim.Native.Nat.{ℕ, ◌≤◌}
use mathlib.Core.Path.{◌≡◌, refl, ◌∙◌}
use mathlib.Core.Bool.{Bool, false}
use mathlib.Core.List.{List}
use lib.ListN.{length, take, drop}
use Rattle.std.specs.Prelude.{Result}
use Rattle.refusal.specs.declared.Said.{Said}
use Rattle.desk.specs.Sequent.{Flag, with_hypotheses}
use Rattle.desk.specs.Hypotheses.{change, change_all}
use Rattle.desk.specs.declared.hypotheses.Hypotheses.{Hypotheses}
use Rattle.desk.specs.declared.view.View.{View}
use Rattle.desk.proofs.AtPosition.{change_long}
use Rattle.desk.proofs.Formulas.{Any}
use Rattle.desk.proofs.Grown.{change_grown}
use Rattle.desk.proofs.Positions.{grown_extends}
use Rattle.steps.specs.Mirror.Steps.{flag_by, ChangeIs, views_differ}
use Rattle.steps.specs.declared.flags.Act.{Act}
use Rattle.sequent.specs.ReadFile.{read_sequent}
use Rattle.sequent.specs.Mirror.Opened.{Not}
use Rattle.sequent.specs.Mirror.ReadBytes.{Opens}
use Rattle.sequent.specs.declared.Opened.{Opened}
use Rattle.buffers.specs.Lent.{lent_predicate}
use Rattle.buffers.specs.Outcome.{refuses, finish}
use Rattle.buffers.specs.Mirror.Buffers.{IsLent, FinishIs}
use Rattle.buffers.specs.declared.Done.{Done}
use Rattle.acts.specs.Acts.{differs, acted, flag_act}
use Rattle.acts.specs.Outcomes.{flag_outcome}
use Rattle.acts.specs.Mirror.Answering.{Answers, OpenIs}
use Rattle.acts.proofs.AnswerLaws.{not_read, opened, opened_is}
use Rattle.acts.proofs.Ranges.{types_there, goal_there, stand_there}
use Rattle.acts.proofs.ViewLaws.{views_same_goal}

pub flag_sequent_no : (f : Flag → Flag) (s b : List ℕ) (room : ℕ) (z : Said) → Not s (read_sequent s) z → flag_outcome f s b room ≡ refuses z
unfolding flag_outcome
flag_sequent_no f s b room z N = not_read s (read_sequent s) z N _

module _ (s : List ℕ) (o : Opened) (P : Opens s o) (types : List ℕ) (t : types ≡ take o.view.identifiers (drop 8 o.bytes.now)) (b : List ℕ) where
  abbrev O : OpenIs o
  O = opened s o P

  pub flag_lent_no : (f : Flag → Flag) (room : ℕ) (z : Said) → Not b (lent_predicate types b) z → flag_outcome f s b room ≡ refuses z
  unfolding flag_outcome
  flag_lent_no f room z N = opened_is s o P _ ∙ rw (← types_there o O types t) (not_read b (lent_predicate types b) z N _)

  -- the flag is changed, and the sequent written
  pub flag_done : (k : Act) (h h' : Hypotheses) (w : View) (g : List ℕ) (ch : Bool) (out out' : List ℕ) (r : Result Done Said) → IsLent types b
      → h.bytes.now ≡ o.bytes.now → h.places.now ≡ o.places → h.view ≡ o.view → ChangeIs h k b w → h' ≡ record h { view = w }
      → g ≡ drop o.view.end o.bytes.now → ch ≡ views_differ h.view w false → FinishIs h' g ch out out' r → Answers (flag_outcome (flag_by k) s b (length out)) out out' r
  unfolding flag_outcome flag_act acted ChangeIs change_all
  flag_done k h h' w g ch out out' r L hb hp hv C h≡ g≡ d F =
      let q = O.sequent in
      let hs = q.hypotheses in
      let x = L.formula in
      let ks = change (flag_by k) x hs in
      let S = stand_there o O h hb hp hv in
      let H = C q.types hs x S L.bytes_are O.accepted.few in
      let few : length ks ≤ 64 = rw (change_long (flag_by k) x hs) O.accepted.few in
      let E = grown_extends Any hs ks (change_grown Any (flag_by k) x hs) in
      let e : ch ≡ differs q (with_hypotheses q ks) = d ∙ views_same_goal h.bytes.now h.places.now h.bytes.now h.places.now q.types h.view w hs ks S H E q.goal in
      let f = (rw h≡ at F) q.types ks q.goal H O.accepted.few_types few (goal_there o O g g≡) in
      let a : flag_outcome (flag_by k) s b (length out) ≡ finish (length out) (record { changed = differs q (with_hypotheses q ks); sequent = with_hypotheses q ks })
      = opened_is s o P _ ∙ rw (← types_there o O types t, L.read_is) refl in
      record { says = f.0 ∙ rw (e, a) refl; leaves = f.1 ∙ rw (e, a) refl }
