use Rattle.steps.proofs.AddLaws.{AddLeft}
use Rattle.steps.proofs.add.add_all.Given as goal

abbrev pub invariant-loop-i : goal.invariant-loop-i
invariant-loop-i l = AddLeft l.fn.desk l.added l.unselected l.desk l.i
