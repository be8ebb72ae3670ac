use Rattle.std.proofs.Common.{◌≡◌, ◌-◌}
use Rattle.variations.specs.Mirror.SourceBytes.{first_from, first_key}
use Rattle.variations.proofs.first_key.Given as goal

abbrev pub invariant-loop-k : goal.invariant-loop-k
invariant-loop-k l = first_from l.s l.x l.t l.y (l.x.count - l.k) l.k ≡ first_key l.s l.x l.t l.y
