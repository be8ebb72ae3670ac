use Rattle.std.proofs.Common.{rules}
use Rattle.reader.proofs.WalkLaws.{turn_made}
use Rattle.reader.proofs.reader.Reader.below.Goals as goal

pub returns : goal.returns
returns c = search (rules, turn_made)
