use Rattle.std.proofs.Common.{◌≡◌, ◌-◌}
use Rattle.buffers.specs.Mirror.WriteBytes.{with_flags}
use Rattle.buffers.proofs.write.put_flags.Given as goal

-- the flags from here on make of it what all make of what was passed
abbrev pub invariant-loop-i : goal.invariant-loop-i
invariant-loop-i l = with_flags (l.h.view.hypotheses - l.i) l.h.places.now l.h.view l.i l.out ≡ with_flags l.h.view.hypotheses l.h.places.now l.h.view 0 l.fn.out
