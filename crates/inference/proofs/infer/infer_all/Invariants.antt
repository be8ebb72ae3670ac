use Rattle.inference.proofs.InferLaws.{InferLeft}
use Rattle.inference.proofs.infer.infer_all.Given as goal

abbrev pub invariant-loop-i : goal.invariant-loop-i
invariant-loop-i l = InferLeft l.sources l.fn.desk l.list l.desk l.again l.i
