use Rattle.inference.proofs.SourceLaws.{SourcesLeft}
use Rattle.inference.proofs.infer.weigh_all.Given as goal

abbrev pub invariant-loop-i : goal.invariant-loop-i
invariant-loop-i l = SourcesLeft l.hypotheses l.list l.sources l.i
