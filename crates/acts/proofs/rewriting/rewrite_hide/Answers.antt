use mathlib.Core.Path.{◌≡◌, refl, ◌∙◌}
use mathlib.Core.Bool.{false, ◌||◌}
use Rattle.steps.specs.Mirror.Steps.{views_differ}
use Rattle.acts.proofs.RewriteLaws.{hide_done}
use Rattle.acts.proofs.rewriting.rewrite_hide.Goals as goal
use Rattle.acts.proofs.rewriting.rewrite_hide.Goals.{then-again, else-again}

pub returns : goal.returns
returns c =
    let h = c.hypotheses-inferred.ensures in
    let differs = views_differ c.args.sequent.now.view c.change_all-view.result false in
    let e : c.if-again.changed ≡ (c.args.again || differs) = elim c.if-again.branch [
      | then-again w ↦ w.changed-is ∙ rw w.if-again.true refl
      | else-again w ↦ w.changed-is ∙ w.differs-changed.ensures ∙ rw w.if-again.false refl
    ] in
    hide_done _ _ _ _ c.hypotheses-inferred.result h.bytes h.places h.view _ _ _ _ _ _ _ c.change_all-view.ensures refl c.goal.ensures e c.finish.ensures
