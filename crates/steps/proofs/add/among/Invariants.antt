use Rattle.steps.proofs.AddLaws.{AmongLeft}
use Rattle.steps.proofs.add.among.Given as goal

abbrev pub invariant-loop-i : goal.invariant-loop-i
invariant-loop-i l = AmongLeft l.list l.formula l.i
