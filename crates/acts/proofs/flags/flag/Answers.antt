use mathlib.Core.Path.{refl}
use Rattle.acts.proofs.AnswerLaws.{exit_answers}
use Rattle.acts.proofs.FlagLaws.{flag_sequent_no, flag_lent_no, flag_done}
use Rattle.acts.proofs.flags.flag.Goals as goal

pub returns-in_err-sequent : goal.returns-in_err-sequent
returns-in_err-sequent c =
    let A = exit_answers _ _ c.args.out.now _ c.from_residual.ensures.1 (flag_sequent_no _ c.args.s.now c.args.b.now _ _ c.in_err-sequent.ensures) in
    record { value = A.says; out_after = A.leaves }

pub returns-in_err-lent_predicate : goal.returns-in_err-lent_predicate
returns-in_err-lent_predicate c =
    let A = exit_answers _ _ c.args.out.now _ c.from_residual-in_err-lent_predicate.ensures.1 (flag_lent_no c.args.s.now _ c.in_ok-sequent.ensures _ c.types.ensures c.args.b.now _ _ _ c.in_err-lent_predicate.ensures) in
    record { value = A.says; out_after = A.leaves }

pub returns : goal.returns
returns c =
    let h = c.hypotheses-before.ensures in
    let A = flag_done c.args.s.now _ c.in_ok-sequent.ensures _ c.types.ensures c.args.b.now _ _ _ _ _ _ _ _ _ c.in_ok-lent_predicate.ensures h.bytes h.places h.view c.change-view.ensures refl c.goal.ensures c.differs-changed.ensures c.finish.ensures in
    record { value = A.says; out_after = A.leaves }
