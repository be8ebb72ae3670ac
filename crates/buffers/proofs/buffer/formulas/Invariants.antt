use Rattle.buffers.proofs.BufferLaws.{Gone}
use Rattle.buffers.proofs.buffer.formulas.Given as goal

-- the formulas read so far stand one after another
abbrev pub invariant-loop-j : goal.invariant-loop-j
invariant-loop-j l = Gone l.types l.b l.n l.starts l.p l.j
