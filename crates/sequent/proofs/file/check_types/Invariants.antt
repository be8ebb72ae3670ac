use Rattle.std.proofs.Common.{◌≡◌, ◌+◌, ◌-◌}
use Rattle.sequent.specs.ReadFile.{types_at}
use Rattle.sequent.specs.Mirror.ReadBytes.{check_of}
use Rattle.sequent.proofs.file.check_types.Given as goal

-- what is said of the bytes from here on is what is said of all
abbrev pub invariant-loop-p : goal.invariant-loop-p
invariant-loop-p l = check_of (types_at l.s (8 + l.t - l.p) l.p) ≡ check_of (types_at l.s l.t 8)
