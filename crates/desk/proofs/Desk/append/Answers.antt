-- The formula's bytes are put after the hypotheses, and nothing before them changes.
use Rattle.std.proofs.Common.{◌≡◌, ◌+◌, ◌-◌, length, rules, arith, ap, ◌∙◌}
use Rattle.std.proofs.lemmas.Slice.{take-put_mid_below, between-put_mid}
use Rattle.desk.proofs.Appends.{append_is, put_long}
use Rattle.desk.proofs.Desk.append.Goals as goal

pub returns-clause-append_is : goal.returns-clause-append_is
returns-clause-append_is c =
    let d = c.args.self.now in
    let e = d.view.end + 1 in
    let n = length c.args.formula.now in
    let long : length d.bytes ≡ 60000 = search rules in
    let put : length c.copy.new.to ≡ e + n - e = ap length c.copy.ensures.after ∙ omega arith in
    append_is d c.args.formula.now c.args.hidden c.args.selected _ _ (search rules) (search rules) (search rules) (search rules)
    (put_long e (e + n - e) d.bytes c.copy.new.to (omega arith) put ∙ long)
    (take-put_mid_below e (e + n - e) d.bytes c.copy.new.to d.view.end (omega arith) (omega arith))
    (between-put_mid e (e + n - e) d.bytes c.copy.new.to (e + n) (omega arith) put ∙ c.copy.ensures.after)
    c.grown-self.ensures
