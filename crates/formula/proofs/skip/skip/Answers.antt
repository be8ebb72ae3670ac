use Rattle.std.proofs.Common.{arith}
use Rattle.formula.proofs.SkipLaws.{skip_step}
use Rattle.formula.proofs.skip.skip.Goals as goal

pub loop-preserved : goal.loop-preserved
loop-preserved c = record {
  reads = skip_step _ _ _ _ _ c.loop.invariant.reads (λ z. omega arith) c.if-left-eq0.false c.if-s-p.false _ _ _ c.of-row.ensures c.small_at.ensures c.own_bytes-own.ensures.value c.if-s-p-2.false _ _ _ _ (omega arith) (omega arith) c.own_byte.ensures c.count_of.ensures.value;
  few = omega arith;
}
