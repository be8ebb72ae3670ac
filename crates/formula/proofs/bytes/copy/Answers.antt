use Rattle.std.proofs.Common.{◌∙◌, ◌+◌, ◌≤◌, length, arith}
use Rattle.std.proofs.Math.ListN.{drop_of_length-le}
use Rattle.std.proofs.lemmas.List.{append-nil}
use Rattle.std.proofs.lemmas.List.Edits.{sets-eq}
use Rattle.formula.proofs.bytes.copy.Goals as goal

pub loop-i-init : goal.loop-i-init
loop-i-init c =
    let from = c.args.from.now in
    let to = c.args.to.now in
    let same : length to ≤ 0 + length from = omega (arith, c.requires) in
    record {
      whole = sets-eq from to 0 (omega (arith, c.requires)) ∙ rw (drop_of_length-le to same) (append-nil from);
      long = c.requires;
    }
