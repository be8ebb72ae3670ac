use Rattle.acts.proofs.RewriteLaws.{there_full, there_done}
use Rattle.acts.proofs.rewriting.rewrite_there.Goals as goal

pub returns-in_err-again : goal.returns-in_err-again
returns-in_err-again c =
    let h = c.hypotheses.ensures in
    there_full _ _ _ _ c.hypotheses.result h.bytes h.places h.view _ c.lay.ensures _ _ _ _ c.in_err-again.ensures c.from_residual.ensures.1

pub returns : goal.returns
returns c =
    let h = c.hypotheses.ensures in
    there_done _ _ _ _ c.hypotheses.result h.bytes h.places h.view _ c.lay.ensures _ _ _ _ _ c.in_ok-again.ensures c.rewrite_hide.ensures
