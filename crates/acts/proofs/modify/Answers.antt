-- the first refusal ends the act; with all buffers read it is the definition's
use Rattle.acts.specs.Outcomes.{modify_outcome, modified}
use Rattle.acts.specs.Mirror.Answering.{ModifyAnswers}
use Rattle.acts.proofs.AnswerLaws.{opened, sequent_ends, first_ends, second_ends, third_ends, all_read}
use Rattle.acts.proofs.modify.Goals as goal

pub returns-in_err-sequent : goal.returns-in_err-sequent
unfolding modify_outcome
returns-in_err-sequent c =
    let A = sequent_ends _ _ _ _ _ (modified _) c.args.out.now _ _ c.in_err-sequent.ensures c.from_residual.ensures.1 in
    record { value = A.says; out_after = A.leaves }

pub returns-in_err-added : goal.returns-in_err-added
unfolding modify_outcome
returns-in_err-added c =
    let A = first_ends _ _ _ _ _ (modified _) c.args.out.now _ _ c.in_ok-sequent.ensures _ c.types-types.ensures _ c.in_err-added.ensures c.from_residual-in_err-added.ensures.1 in
    record { value = A.says; out_after = A.leaves }

pub returns-in_err-unselected : goal.returns-in_err-unselected
unfolding modify_outcome
returns-in_err-unselected c =
    let A = second_ends _ _ _ _ _ (modified _) c.args.out.now _ _ c.in_ok-sequent.ensures _ c.types-types.ensures _ c.in_ok-added.ensures _ c.in_err-unselected.ensures c.from_residual-in_err-unselected.ensures.1 in
    record { value = A.says; out_after = A.leaves }

pub returns-in_err-goal : goal.returns-in_err-goal
unfolding modify_outcome
returns-in_err-goal c =
    let A = third_ends _ _ _ _ _ (modified _) c.args.out.now _ _ c.in_ok-sequent.ensures _ c.types-types.ensures _ c.in_ok-added.ensures _ c.in_ok-unselected.ensures _ c.in_err-goal.ensures c.from_residual-in_err-goal.ensures.1 in
    record { value = A.says; out_after = A.leaves }

pub returns : goal.returns
unfolding modify_outcome ModifyAnswers
returns c =
    let a = c.in_ok-added.ensures in
    let b = c.in_ok-unselected.ensures in
    let d = c.in_ok-goal.ensures in
    let R = c.modify_read.ensures (opened c.args.s.now _ c.in_ok-sequent.ensures) a.formulas b.formulas d.formulas a.list_is b.list_is d.list_is in
    let A = all_read _ _ _ _ _ (modified _) c.args.out.now _ _ c.in_ok-sequent.ensures _ c.types-types.ensures _ a _ b _ d _ R in
    record { value = A.says; out_after = A.leaves }
