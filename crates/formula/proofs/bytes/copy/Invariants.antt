use Rattle.std.proofs.Common.{◌≡◌, length, drop}
use Rattle.std.proofs.Math.Seq.{sets}
use Rattle.formula.proofs.bytes.copy.Given as goal

-- the bytes left, put behind those that are copied, make it the whole
abbrev pub invariant-loop-i : goal.invariant-loop-i
invariant-loop-i l = record {
  whole : sets l.to l.i (drop l.i l.from) ≡ l.from;
  long : length l.to ≡ length l.from;
}
