use Rattle.std.proofs.Common.{rules}
use Rattle.variations.specs.Mirror.SourceBytes.{key_is}
use Rattle.variations.proofs.Answering.{key_law}
use Rattle.variations.proofs.key_is.Goals as goal

pub returns-clause-value : goal.returns-clause-value
unfolding key_is
returns-clause-value c = search rules

pub returns-clause-key_is : goal.returns-clause-key_is
returns-clause-key_is c = key_law c.args.s.now c.args.x c.args.k c.args.t.now c.args.y _ (returns-clause-value c)
