use Rattle.std.proofs.Common.{◌≡◌, ◌+◌, ◌-◌, ◌*◌, ◌≤◌}
use Rattle.formula.specs.Mirror.Bytes.{skip_from, skip_end}
use Rattle.formula.proofs.skip.skip.Given as goal

abbrev pub invariant-loop : goal.invariant-loop
invariant-loop l = record {
  reads : skip_from (1024 - l.counter) l.s l.left l.p ≡ skip_end l.s l.at;
  few : l.left ≤ 1 + 256 * l.counter;
}
