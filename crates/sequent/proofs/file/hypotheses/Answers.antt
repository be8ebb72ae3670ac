use Rattle.std.proofs.Common.{refl, arith}
use Rattle.std.proofs.lemmas.Result.{err_from_is_err_and}
use Rattle.sequent.proofs.HypothesesLaws.{reached_none, reached_more, reached_stops, reached_all}
use Rattle.sequent.proofs.file.hypotheses.Goals as goal

pub loop-i-init : goal.loop-i-init
loop-i-init c = reached_none _ _ _ _ c.type_inv.s c.requires.types_in_bounds c.requires.types_stand refl

pub returns-in_err-flag : goal.returns-in_err-flag
returns-in_err-flag c =
    let p = err_from_is_err_and c.from_residual.result c.from_residual.ensures.1 in
    rw (p.1, p.2) (reached_stops _ _ _ _ c.loop-i.invariant c.requires.h_bound (omega arith) _ c.next_hypothesis.ensures _ c.in_err-flag.was)

pub loop-i-preserved : goal.loop-i-preserved
loop-i-preserved c = reached_more _ _ _ _ c.loop-i.invariant c.requires.h_bound (omega arith) _ c.next_hypothesis.ensures _ _ _ c.in_ok-flag.was c.with_hypothesis-view.ensures

pub returns : goal.returns
returns c = reached_all _ _ _ _ _ _ c.loop-i.invariant (omega arith)
