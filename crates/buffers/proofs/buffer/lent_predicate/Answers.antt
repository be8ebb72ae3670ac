use Rattle.std.proofs.Common.{rules}
use Rattle.buffers.proofs.BufferLaws.{lent}
use Rattle.buffers.proofs.buffer.lent_predicate.Goals as goal

pub returns : goal.returns
returns c = let m = lent _ _ _ c.check_last.ensures c.type_inv.b in search rules
