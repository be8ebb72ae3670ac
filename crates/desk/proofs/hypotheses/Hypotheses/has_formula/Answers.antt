use Rattle.desk.proofs.DeskLaws.{has_hit}
use Rattle.desk.proofs.hypotheses.Hypotheses.has_formula.Goals as goal

pub returns-in-Some-len1-up : goal.returns-in-Some-len1-up
returns-in-Some-len1-up c =
    let found = c.in-Some-len1-up.ensures.lookup in
    has_hit _ _ _ _ c.in-Some-len1-up.field-0.now _ found.0.0 found.0.1 found.0.2 c.in-Some-len1-up.len_at_least c.same.ensures
