-- the first refusal ends the act; with all buffers read it is the definition's
use Rattle.acts.specs.Outcomes.{rewrite_outcome, rewritten}
use Rattle.acts.specs.Mirror.Answering.{RewriteAnswers}
use Rattle.acts.proofs.AnswerLaws.{opened, sequent_ends, first_ends, second_ends, third_ends, all_read}
use Rattle.acts.proofs.rewrite.Goals as goal

pub returns-in_err-sequent : goal.returns-in_err-sequent
unfolding rewrite_outcome
returns-in_err-sequent c =
    let A = sequent_ends _ _ _ _ _ (rewritten _) c.args.out.now _ _ c.in_err-sequent.ensures c.from_residual.ensures.1 in
    record { value = A.says; out_after = A.leaves }

pub returns-in_err-sources : goal.returns-in_err-sources
unfolding rewrite_outcome
returns-in_err-sources c =
    let A = first_ends _ _ _ _ _ (rewritten _) c.args.out.now _ _ c.in_ok-sequent.ensures _ c.types-types.ensures _ c.in_err-sources.ensures c.from_residual-in_err-sources.ensures.1 in
    record { value = A.says; out_after = A.leaves }

pub returns-in_err-inferred : goal.returns-in_err-inferred
unfolding rewrite_outcome
returns-in_err-inferred c =
    let A = second_ends _ _ _ _ _ (rewritten _) c.args.out.now _ _ c.in_ok-sequent.ensures _ c.types-types.ensures _ c.in_ok-sources.ensures _ c.in_err-inferred.ensures c.from_residual-in_err-inferred.ensures.1 in
    record { value = A.says; out_after = A.leaves }

pub returns-in_err-hide : goal.returns-in_err-hide
unfolding rewrite_outcome
returns-in_err-hide c =
    let A = third_ends _ _ _ _ _ (rewritten _) c.args.out.now _ _ c.in_ok-sequent.ensures _ c.types-types.ensures _ c.in_ok-sources.ensures _ c.in_ok-inferred.ensures _ c.in_err-hide.ensures c.from_residual-in_err-hide.ensures.1 in
    record { value = A.says; out_after = A.leaves }

pub returns : goal.returns
unfolding rewrite_outcome RewriteAnswers
returns c =
    let a = c.in_ok-sources.ensures in
    let b = c.in_ok-inferred.ensures in
    let d = c.in_ok-hide.ensures in
    let R = c.rewrite_read.ensures (opened c.args.s.now _ c.in_ok-sequent.ensures) a.formulas b.formulas d.formulas a.list_is b.list_is d.list_is in
    let A = all_read _ _ _ _ _ (rewritten _) c.args.out.now _ _ c.in_ok-sequent.ensures _ c.types-types.ensures _ a _ b _ d _ R in
    record { value = A.says; out_after = A.leaves }
