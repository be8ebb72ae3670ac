use Rattle.acts.proofs.ModifyLaws.{modify_not, modify_full, modify_done}
use Rattle.acts.proofs.modifying.modify_read.Goals as goal

pub returns-then-not-all_among : goal.returns-then-not-all_among
returns-then-not-all_among c = modify_not _ _ _ _ _ _ c.all_among.ensures _ (cc) c.said.ensures

pub returns-in_err-add_all : goal.returns-in_err-add_all
returns-in_err-add_all c =
    let h = c.hypotheses.ensures in
    modify_full _ _ _ _ _ _ c.all_among.ensures (cc) c.hypotheses.result h.bytes h.places h.view _ c.lay.ensures _ _ _ c.in_err-add_all.ensures c.from_residual.ensures.1

pub returns : goal.returns
returns c =
    let h = c.hypotheses.ensures in
    modify_done _ _ _ _ _ _ c.all_among.ensures (cc) c.hypotheses.result h.bytes h.places h.view _ c.lay.ensures _ _ _ _ c.in_ok-add_all.ensures c.modify_goal.ensures
