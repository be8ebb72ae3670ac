use Rattle.sequent.proofs.HypothesesLaws.{Reached}
use Rattle.sequent.proofs.file.hypotheses.Given as goal

-- the hypotheses read so far stand in their places
abbrev pub invariant-loop-i : goal.invariant-loop-i
invariant-loop-i l = Reached l.s l.types l.h l.places l.view l.i
