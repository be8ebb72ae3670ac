use Rattle.std.proofs.Common.{rules}
use Rattle.variations.proofs.Laws.{firsts}
use Rattle.variations.proofs.Answering.{first_law}
use Rattle.variations.proofs.first_key.Goals as goal

pub returns-in-Some-clause-value : goal.returns-in-Some-clause-value
returns-in-Some-clause-value c = search (rules, firsts)

pub returns-in-Some-clause-first_is : goal.returns-in-Some-clause-first_is
returns-in-Some-clause-first_is c = first_law c.args.s.now c.args.x c.args.t.now c.args.y _ (returns-in-Some-clause-value c)

pub returns-clause-value : goal.returns-clause-value
returns-clause-value c = search (rules, firsts)

pub returns-clause-first_is : goal.returns-clause-first_is
returns-clause-first_is c = first_law c.args.s.now c.args.x c.args.t.now c.args.y _ (returns-clause-value c)
