use Rattle.std.proofs.Common.{rules}
use Rattle.variations.specs.Mirror.SourceBytes.{asked_at}
use Rattle.variations.proofs.Answering.{asked_law}
use Rattle.variations.proofs.asked_at.Goals as goal

pub returns-clause-value : goal.returns-clause-value
unfolding asked_at
returns-clause-value c = search rules

pub returns-clause-asked_is : goal.returns-clause-asked_is
returns-clause-asked_is c = asked_law c.args.t.now c.args.at _ (returns-clause-value c)
