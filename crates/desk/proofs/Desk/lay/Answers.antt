use Rattle.std.proofs.Common.{◌≡◌, length, rules, arith}
use Rattle.desk.proofs.Laid.{laid_is}
use Rattle.desk.proofs.Desk.lay.Goals as goal

pub returns-then-end-le60000 : goal.returns-then-end-le60000
returns-then-end-le60000 c =
    let long : length c.args.self.now.bytes ≡ 60000 = search rules in
    laid_is c.args.h c.copy.new.to c.args.self.now.bytes c.copy.ensures.after long (omega arith) (omega arith)
