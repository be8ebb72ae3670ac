use Rattle.std.proofs.Common.{◌≡◌, ◌-◌}
use Rattle.desk.specs.Mirror.Bytes.{find_from, find_in}
use Rattle.desk.proofs.hypotheses.Hypotheses.find.Given as goal

abbrev pub invariant-loop-i : goal.invariant-loop-i
invariant-loop-i l = find_from (l.self.view.hypotheses - l.i) l.self.bytes.now l.self.places.now l.i l.formula ≡ find_in l.self l.formula
