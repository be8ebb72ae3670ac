use Rattle.std.proofs.Common.{◌≡◌, ◌-◌}
use Rattle.keys.specs.Mirror.Stripping.{strip_from, strip_at}
use Rattle.keys.proofs.strip.strip_at.Given as goal

abbrev pub invariant-loop : goal.invariant-loop
invariant-loop l = strip_from (32 - l.counter) l.s l.p l.value ≡ strip_at l.s l.at l.starts
