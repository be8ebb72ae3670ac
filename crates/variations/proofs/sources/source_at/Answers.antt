use Rattle.std.proofs.Common.{rules}
use Rattle.variations.specs.Mirror.SourceBytes.{source_at}
use Rattle.variations.proofs.Answering.{source_law}
use Rattle.variations.proofs.sources.source_at.Goals as goal

pub returns-clause-value : goal.returns-clause-value
unfolding source_at
returns-clause-value c = search rules

pub returns-clause-source_is : goal.returns-clause-source_is
returns-clause-source_is c = source_law c.args.s.now c.args.types.now c.args.w c.args.starts _ (returns-clause-value c)
