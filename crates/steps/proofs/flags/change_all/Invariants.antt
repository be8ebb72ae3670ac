use Rattle.std.proofs.Common.{◌≡◌}
use Rattle.steps.proofs.FlagLaws.{ChangeLeft, viewed}
use Rattle.steps.proofs.flags.change_all.Given as goal

abbrev pub invariant-loop-i : goal.invariant-loop-i
invariant-loop-i l = (l.changed ≡ viewed l.hypotheses l.changed.view) × ChangeLeft l.hypotheses l.act l.list l.changed.view l.i
