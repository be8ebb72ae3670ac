use mathlib.Core.Path.{ap, ◌∙◌}
use Rattle.acts.proofs.ModifyLaws.{goal_kept, goal_lent}
use Rattle.acts.proofs.modifying.modify_goal.Goals as goal
use Rattle.acts.proofs.modifying.modify_goal.Goals.{then-goals-eq0, else-goals-eq0}

pub returns : goal.returns
returns c =
    let on = c.hypotheses.result in
    let h = c.hypotheses.ensures in
    elim c.if-goals-eq0.branch [
      | then-goals-eq0 w ↦ goal_kept _ _ _ _ _ _ on h.bytes h.places h.view _ _ c.goal-own.ensures _ _ c.ne-other.ensures c.differs-changed.ensures c.finish.ensures w.if-goals-eq0.true (ap (λ b. b.now) w.goal-is)
      | else-goals-eq0 w ↦ goal_lent _ _ _ _ _ _ on h.bytes h.places h.view _ _ c.goal-own.ensures _ _ c.ne-other.ensures c.differs-changed.ensures c.finish.ensures w.if-goals-eq0.false (ap (λ b. b.now) w.goal-is ∙ w.formula-goal.ensures)
    ]
