use Rattle.std.proofs.lemmas.Result.{err_from_is_err_and}
use Rattle.sequent.proofs.OpenLaws.{hypotheses_stop, goal_stops, opened}
use Rattle.sequent.proofs.file.whole.Goals as goal

pub returns-in_err-view : goal.returns-in_err-view
returns-in_err-view c =
    let p = err_from_is_err_and c.from_residual-in_err-view.result c.from_residual-in_err-view.ensures.1 in
    rw (p.1, p.2) (hypotheses_stop _ _ c.in_ok-types.ensures _ c.from.ensures _ c.in_err-view.ensures)

pub returns-in_err-check_last : goal.returns-in_err-check_last
returns-in_err-check_last c =
    let p = err_from_is_err_and c.from_residual-in_err-check_last.result c.from_residual-in_err-check_last.ensures.1 in
    rw (p.1, p.2) (goal_stops _ _ c.in_ok-types.ensures _ c.from.ensures _ _ c.in_ok-view.ensures _ c.check_last.ensures _ c.in_err-check_last.was)

pub returns : goal.returns
returns c = opened _ _ c.in_ok-types.ensures _ c.from.ensures _ _ c.in_ok-view.ensures _ c.check_last.ensures c.type_inv.s c.in_ok-check_last.was
