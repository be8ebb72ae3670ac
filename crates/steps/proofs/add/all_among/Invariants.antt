use Rattle.steps.proofs.AddLaws.{AllAmongLeft}
use Rattle.steps.proofs.add.all_among.Given as goal

abbrev pub invariant-loop-i : goal.invariant-loop-i
invariant-loop-i l = AllAmongLeft l.unselected l.added l.i
