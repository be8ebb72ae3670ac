use Rattle.acts.proofs.RewriteLaws.{read_there, read_absent}
use Rattle.acts.proofs.rewriting.rewrite_read.Goals as goal

pub returns-then-j : goal.returns-then-j
returns-then-j c =
    let h = c.hypotheses-before.ensures in
    read_there _ _ _ _ c.hypotheses-before.result h.bytes h.places h.view _ c.weigh_all-j.ensures _ _ _ c.if-j.true c.rewrite_there.ensures

pub returns : goal.returns
returns c =
    let h = c.hypotheses-before.ensures in
    read_absent _ _ _ _ c.hypotheses-before.result h.bytes h.places h.view _ c.weigh_all-j.ensures _ _ _ c.if-j.false _ c.goal.ensures c.finish.ensures
